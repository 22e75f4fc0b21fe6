-- A run in memory, whose entries are counted command after command.
use Rattle.fw_script_words.proofs.Common.{◌≡◌, ◌≢◌, ℕ, ◌≤◌, List, [], ◌++◌, length, Option, Some, refl, ap, sym, subst, ◌∙◌, arith, IsFalse, ReadFault, WriteFault, TooLong, NoMemory, header_bytes}
use Rattle.fw_script_words.proofs.Common.{latest_epoch, Two, Reading, unread, log_bytes, DeskRelations, first_state, StandsFor}
use Rattle.fw_script_words.proofs.Common.{BusView, ReadCount, Course, Going, Ended, course_of, IsValid, IsNoRefusal}
use Rattle.fw_script_words.proofs.Common.{RunEnding, Done, Refused, Stopped}
use Rattle.fw_outside.specs.Outside.{Rose}
use Rattle.fw_log_entry.specs.declared.entry.Timed.{Timed}
use Rattle.fw_script_gen.specs.Gen.{script_of}
use Rattle.fw_script_gen.specs.Summary.{Counts}
use Rattle.fw_script_gen.specs.declared.tally.Tally.{Tally}
use Rattle.fw_script_words.specs.Counts.{WriteCount}
use Rattle.fw_script_words.specs.Ending.{PassesScriptLimit}
use Rattle.fw_script_words.specs.Going.{Carried}
use Rattle.fw_script_words.specs.Sums.{in_memory, Counted, HasCounted, Sums, Summed, log_of}
use Rattle.fw_script_words.proofs.Steps.{Mirrors}
use Rattle.fw_script_words.proofs.Goings.{going_first}
use Rattle.fw_script_words.proofs.Completions.{never_refused}

-- The commands so far were carried out, as over a sink that keeps all their log, and the entries of that log were counted. The
-- sink that is there was emptied.
pub record IsCounting (D : DeskRelations) (script now held : List ℕ) (reader : Reading) (bus : BusView) (tally : Tally) : Type 0 where
  pub written : List ℕ
  pub going : Going D (Some script) (Some now) (Some []) (Some written) reader bus
  pub counts : Counts going.log tally
  pub empty : held ≡ []

pub counting_first : {D : DeskRelations} (script now held : List ℕ) (reader : Reading) (bus : BusView) (tally : Tally) → reader ≡ unread → StandsFor bus.machine first_state → IsFalse bus.spent
    → now ≡ script → held ≡ [] → Counts [] tally → IsCounting D script now held reader bus tally
unfolding going_first
counting_first {D} script now held reader bus tally new stands fresh same empty counts = record {
  written = header_bytes Two;
  going = subst (λ (x : List ℕ). Going D (Some script) (Some x) (Some []) (Some (header_bytes Two)) reader bus) (sym same)
      (going_first (Some script) (Some []) (Some (header_bytes Two)) reader bus new stands fresh refl);
  counts = counts;
  empty = empty;
}

-- a log that is kept grows by what the emptied sink was given
pub kept_elsewhere : (written held held' : List ℕ) → held ≡ [] → Mirrors (Some held) (Some held') (Some written) (Some (written ++ held'))
kept_elsewhere written held held' empty bytes h = ap (λ (l : List ℕ). written ++ l) (h ∙ ap (λ (l : List ℕ). l ++ bytes) empty)

-- what the sink holds are the entries of one command
pub given_alone : {D : DeskRelations} {script now held : List ℕ} {reader : Reading} {bus : BusView} {tally : Tally} (i : IsCounting D script now held reader bus tally) (now' held' : List ℕ)
    (reader' : Reading) (bus' : BusView)
    → (d : Carried D (Some script) (Some now) (Some now') (Some []) (Some (i.written ++ held')) (Some held) (Some held') (course_of i.going) reader reader' bus')
    → held' ≡ log_bytes (latest_epoch 0 i.going.log) d.out
given_alone i now' held' reader' bus' d = d.wrote ∙ ap (λ (l : List ℕ). l ++ log_bytes (latest_epoch 0 i.going.log) d.out) i.empty

-- and were counted
pub counting_more : {D : DeskRelations} {script now held : List ℕ} {reader : Reading} {bus : BusView} {tally : Tally} (i : IsCounting D script now held reader bus tally) (now' held' empty : List ℕ)
    (reader' : Reading) (bus' : BusView) (tally' : Tally)
    → (d : Carried D (Some script) (Some now) (Some now') (Some []) (Some (i.written ++ held')) (Some held) (Some held') (course_of i.going) reader reader' bus')
    → Counts (i.going.log ++ d.out) tally' → empty ≡ [] → IsCounting D script now' empty reader' bus' tally'
counting_more i now' held' empty reader' bus' tally' d counts none = record {
  written = i.written ++ held';
  going = d.going;
  counts = subst (λ (l : List Timed). Counts l tally') (sym d.longer) counts;
  empty = none;
}

-- no script within the limit passes it, and a source in memory does not fail
within : {D : DeskRelations} (script : List ℕ) (left' held held' : Option (List ℕ)) → length script ≤ 1048576 → PassesScriptLimit D (Some script) left' held held' → ⊥
within script left' held held' short d = let same : length script ≡ length d.refused.script = ap (λ (l : List ℕ). length l) d.refused.takes.told in omega (arith, short, d.long, same)

-- how the counted run ends
pub counted_ends : (D : DeskRelations) (script now now' written : List ℕ) (course : Course) (reader reader' : Reading) (bus : BusView) (tally : Tally) (e : RunEnding) → length script ≤ 1048576
    → Counts course.log tally → ReadCount 0 0 e
    → Ended D (Some script) (Some now) (Some now') (Some []) (Some written) course reader reader' bus e → Counted D script tally (in_memory e)
counted_ends D script now now' written course reader reader' bus tally Done short counts read d = record {
  was = record { left = now'; written = written; ran = d.runs };
  counts = subst (λ (k : Course). Counts k.log tally) (sym d.same) counts;
}
counted_ends D script now now' written course reader reader' bus tally (Refused r) short counts read d = record { left = Some now'; written = written; refuses = d.runs }
counted_ends D script now now' written course reader reader' bus tally (Stopped ReadFault) short counts read d = none read
  where
    none : Rose 0 0 → ⊥
    none h = omega (arith, h)
counted_ends D script now now' written course reader reader' bus tally (Stopped WriteFault) short counts read d = tt
counted_ends D script now now' written course reader reader' bus tally (Stopped TooLong) short counts read d = within script (Some now') (Some []) (Some written) short d.runs
counted_ends D script now now' written course reader reader' bus tally (Stopped NoMemory) short counts read d = tt

-- ---- the summary

-- the summary of a seed's run was written, or a prefix of it
pub summed_up : {D : DeskRelations} (seed : ℕ) (script : List ℕ) (tally : Tally) (held held' : Option (List ℕ)) (e : RunEnding) → script ≡ script_of seed → (h : HasCounted D script tally)
    → ((log : List Timed) → Counts log tally → Summed log held held' e) → Sums D seed held held' e
summed_up {D} seed script tally held held' e same h text = by e (text (log_of was.was) was.counts)
  where
    was : HasCounted D (script_of seed) tally
    was = subst (λ (s : List ℕ). HasCounted D s tally) same h

    by : (e : RunEnding) → Summed (log_of was.was) held held' e → Sums D seed held held' e
    by Done d = record { was = was.was; grew = d }
    by (Refused r) d = absurd d
    by (Stopped ReadFault) d = absurd d
    by (Stopped WriteFault) d = record { was = was.was; grew = d }
    by (Stopped TooLong) d = absurd d
    by (Stopped NoMemory) d = d

-- nothing was written if the run did not come to its end
pub unwritten : (D : DeskRelations) (seed : ℕ) (script : List ℕ) (tally : Tally) (held : Option (List ℕ)) (e : RunEnding) → script ≡ script_of seed → e ≢ Done → Counted D script tally e
    → Sums D seed held held e
unwritten D seed script tally held e same other h = by e other (subst (λ (s : List ℕ). Counted D s tally e) same h)
  where
    by : (e : RunEnding) → e ≢ Done → Counted D (script_of seed) tally e → Sums D seed held held e
    by Done n d = absurd (n refl)
    by (Refused r) n d = (d, refl)
    by (Stopped ReadFault) n d = absurd d
    by (Stopped WriteFault) n d = absurd d
    by (Stopped TooLong) n d = absurd d
    by (Stopped NoMemory) n d = refl

pub no_write_fault : (D : DeskRelations) (count : ℕ) (script : List ℕ) (tally : Tally) (e : RunEnding) → Counted D script tally e → WriteCount count count e
no_write_fault D count script tally Done d = refl
no_write_fault D count script tally (Refused r) d = refl
no_write_fault D count script tally (Stopped ReadFault) d = refl
no_write_fault D count script tally (Stopped WriteFault) d = absurd d
no_write_fault D count script tally (Stopped TooLong) d = refl
no_write_fault D count script tally (Stopped NoMemory) d = refl

-- no line of a valid script is refused
pub sums_no_refusal : (D : DeskRelations) (seed : ℕ) (held held' : Option (List ℕ)) (e : RunEnding) → Sums D seed held held' e → IsValid (script_of seed) → IsNoRefusal e
sums_no_refusal D seed held held' Done d v = tt
sums_no_refusal D seed held held' (Refused r) d v = never_refused D (script_of seed) d.0.left (Some []) (Some d.0.written) r.why r.line d.0.refuses v
sums_no_refusal D seed held held' (Stopped ReadFault) d v = tt
sums_no_refusal D seed held held' (Stopped WriteFault) d v = tt
sums_no_refusal D seed held held' (Stopped TooLong) d v = absurd d
sums_no_refusal D seed held held' (Stopped NoMemory) d v = tt
