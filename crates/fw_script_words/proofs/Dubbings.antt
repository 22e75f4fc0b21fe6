-- A run in memory whose log is kept nowhere, and its reel.
use Rattle.fw_script_words.proofs.Common.{◌≡◌, ◌≢◌, ℕ, List, [], Option, Some, refl, subst, IsFalse, ReadFault, WriteFault, TooLong, NoMemory, header_bytes, Two, Reading, unread, DeskRelations}
use Rattle.fw_script_words.proofs.Common.{first_state, StandsFor, BusView, ReadCount, Course, Going, Ended, IsValid, IsNoRefusal, RunEnding, Done, Refused, Stopped}
use Rattle.fw_model_run.proofs.Reels.{run_recorded}
use Rattle.fw_script_words.specs.Counts.{WriteCount}
use Rattle.fw_script_words.specs.Dubs.{Dubs, HasRecorded, Recorded, WritesReel}
use Rattle.fw_script_words.specs.Sums.{in_memory}
use Rattle.fw_script_words.proofs.Completions.{run_completes}
use Rattle.fw_script_words.proofs.Faults.{ended_stands}
use Rattle.fw_script_words.proofs.Goings.{going_first}

-- The commands so far were carried out, as over a sink that keeps all their log.
pub record IsRecording (D : DeskRelations) (left now : Option (List ℕ)) (reader : Reading) (bus : BusView) : Type 0 where
  pub written : List ℕ
  pub going : Going D left now (Some []) (Some written) reader bus

pub recording_first : {D : DeskRelations} (left : Option (List ℕ)) (reader : Reading) (bus : BusView) → reader ≡ unread → StandsFor bus.machine first_state → IsFalse bus.spent
    → IsRecording D left left reader bus
unfolding going_first
recording_first left reader bus new stands fresh = record {
  written = header_bytes Two;
  going = going_first left (Some []) (Some (header_bytes Two)) reader bus new stands fresh refl;
}

-- how it ends
pub recorded_ends : (D : DeskRelations) (left now now' : Option (List ℕ)) (written : List ℕ) (course : Course) (reader reader' : Reading) (bus : BusView) (e : RunEnding)
    → Ended D left now now' (Some []) (Some written) course reader reader' bus e → Recorded D left now' bus (in_memory e)
recorded_ends D left now now' written course reader reader' bus Done d =
    let s = ended_stands Done d in
    record { was = record { written = written; ran = d.runs; recorded = run_recorded D _ _ _ _ d.runs.logged.run d.runs.logged.given }; stands = s.0; fresh = s.1 }
recorded_ends D left now now' written course reader reader' bus (Refused r) d = (written, d.runs)
recorded_ends D left now now' written course reader reader' bus (Stopped ReadFault) d = (written, d.runs)
recorded_ends D left now now' written course reader reader' bus (Stopped WriteFault) d = tt
recorded_ends D left now now' written course reader reader' bus (Stopped TooLong) d = (written, d.runs)
recorded_ends D left now now' written course reader reader' bus (Stopped NoMemory) d = tt

pub reads_in_memory : (old new : ℕ) (e : RunEnding) → ReadCount old new e → ReadCount old new (in_memory e)
reads_in_memory old new Done r = r
reads_in_memory old new (Refused x) r = r
reads_in_memory old new (Stopped ReadFault) r = r
reads_in_memory old new (Stopped WriteFault) r = r
reads_in_memory old new (Stopped TooLong) r = r
reads_in_memory old new (Stopped NoMemory) r = r

-- ---- the word

-- the reel of the run was written, or a prefix of it
pub reel_written : (D : DeskRelations) (left left' held held' : Option (List ℕ)) (bus : BusView) (reel : List (List ℕ)) (e : RunEnding) → (h : HasRecorded D left left' bus)
    → reel ≡ h.was.ran.logged.state.dub.reel → WritesReel reel held held' e → Dubs D left left' held held' e
reel_written D left left' held held' bus reel e h same w = by e (subst (λ (r : List (List ℕ)). WritesReel r held held' e) same w)
  where
    by : (e : RunEnding) → WritesReel h.was.ran.logged.state.dub.reel held held' e → Dubs D left left' held held' e
    by Done w = (h.was, w)
    by (Refused r) w = absurd w
    by (Stopped ReadFault) w = absurd w
    by (Stopped WriteFault) w = (h.was, w)
    by (Stopped TooLong) w = absurd w
    by (Stopped NoMemory) w = absurd w

-- nothing was written if the run did not come to its end
pub nothing_dubbed : (D : DeskRelations) (left left' held : Option (List ℕ)) (bus : BusView) (e : RunEnding) → e ≢ Done → Recorded D left left' bus e → Dubs D left left' held held e
nothing_dubbed D left left' held bus Done other d = absurd (other refl)
nothing_dubbed D left left' held bus (Refused r) other d = (d, refl)
nothing_dubbed D left left' held bus (Stopped ReadFault) other d = (d, refl)
nothing_dubbed D left left' held bus (Stopped WriteFault) other d = absurd d
nothing_dubbed D left left' held bus (Stopped TooLong) other d = (d, refl)
nothing_dubbed D left left' held bus (Stopped NoMemory) other d = refl

pub no_write_counted : (D : DeskRelations) (left left' : Option (List ℕ)) (bus : BusView) (count : ℕ) (e : RunEnding) → Recorded D left left' bus e → WriteCount count count e
no_write_counted D left left' bus count Done d = refl
no_write_counted D left left' bus count (Refused r) d = refl
no_write_counted D left left' bus count (Stopped ReadFault) d = refl
no_write_counted D left left' bus count (Stopped WriteFault) d = absurd d
no_write_counted D left left' bus count (Stopped TooLong) d = refl
no_write_counted D left left' bus count (Stopped NoMemory) d = refl

-- no line of a valid script is refused
pub dub_completes : (D : DeskRelations) (script : List ℕ) (left left' held held' : Option (List ℕ)) (e : RunEnding) → Dubs D left left' held held' e → left ≡ Some script → IsValid script
    → IsNoRefusal e
dub_completes D script left left' held held' Done d told v = tt
dub_completes D script left left' held held' (Refused r) d told v = run_completes D script left left' (Some []) (Some d.0.0) (Refused r) d.0.1 told v
dub_completes D script left left' held held' (Stopped ReadFault) d told v = tt
dub_completes D script left left' held held' (Stopped WriteFault) d told v = tt
dub_completes D script left left' held held' (Stopped TooLong) d told v = run_completes D script left left' (Some []) (Some d.0.0) (Stopped TooLong) d.0.1 told v
dub_completes D script left left' held held' (Stopped NoMemory) d told v = tt

-- reading counts as it did, if the reel is written or not
pub reads_with : (old new : ℕ) (reel : List (List ℕ)) (held held' : Option (List ℕ)) (e : RunEnding) → new ≡ old → WritesReel reel held held' e → ReadCount old new e
reads_with old new reel held held' Done same w = same
reads_with old new reel held held' (Refused r) same w = absurd w
reads_with old new reel held held' (Stopped ReadFault) same w = absurd w
reads_with old new reel held held' (Stopped WriteFault) same w = same
reads_with old new reel held held' (Stopped TooLong) same w = absurd w
reads_with old new reel held held' (Stopped NoMemory) same w = absurd w
