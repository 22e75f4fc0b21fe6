-- A run in memory whose log is kept nowhere, and what is told of it.
use Rattle.fw_script_words.proofs.Common.{◌≡◌, ◌≢◌, inl, inr, ℕ, ◌+◌, ◌≤◌, List, [], ◌∷◌, ◌++◌, length, Option}
use Rattle.fw_script_words.proofs.Common.{Some, refl, ap, sym, ◌∙◌, subst, arith, IsFalse, ReadFault, WriteFault, TooLong, NoMemory}
use Rattle.fw_script_words.proofs.Common.{header_bytes, Two, Command, Reading, unread, DeskRelations, first_state, StandsFor, BusView, ReadCount, Course, Going, Ended, course_of, to_read, IsValid}
use Rattle.fw_script_words.proofs.Common.{IsNoRefusal, RunEnding, Done, Refused, Stopped}
use Rattle.std.proofs.Common.{length-append}
use Rattle.fw_outside.specs.declared.stop.Stop.{Stop}
use Rattle.fw_script_words.specs.Checks.{Checks}
use Rattle.fw_script_words.specs.Counts.{WriteCount}
use Rattle.fw_script_words.specs.Going.{Carried}
use Rattle.fw_script_words.specs.Sums.{in_memory}
use Rattle.fw_script_words.specs.Telling.{IsChecked, TellsText, checked_text}
use Rattle.fw_script_words.proofs.Completions.{run_completes}
use Rattle.fw_script_words.proofs.Faults.{ended_stands}
use Rattle.fw_script_words.proofs.Goings.{going_first}

-- So many commands were carried out, as over a sink that keeps all their log.
pub record IsChecking (D : DeskRelations) (left now : Option (List ℕ)) (reader : Reading) (bus : BusView) (count : ℕ) : Type 0 where
  pub written : List ℕ
  pub going : Going D left now (Some []) (Some written) reader bus
  pub counted : length going.commands ≡ count
  pub few : count + to_read reader ≤ 1048577

pub checking_first : {D : DeskRelations} (left : Option (List ℕ)) (reader : Reading) (bus : BusView) → reader ≡ unread → StandsFor bus.machine first_state → IsFalse bus.spent
    → IsChecking D left left reader bus 0
unfolding going_first
checking_first left reader bus new stands fresh = record {
  written = header_bytes Two;
  going = going_first left (Some []) (Some (header_bytes Two)) reader bus new stands fresh refl;
  counted = refl;
  few = let size : to_read reader ≡ 1048577 = ap to_read new in omega (arith, size);
}

pub checking_more : {D : DeskRelations} {left now : Option (List ℕ)} {reader : Reading} {bus : BusView} {count : ℕ} (i : IsChecking D left now reader bus count)
    (now' written written' : Option (List ℕ)) (bytes : List ℕ) (reader' : Reading) (bus' : BusView)
    → Carried D left now now' (Some []) (Some (i.written ++ bytes)) written written' (course_of i.going) reader reader' bus' → IsChecking D left now' reader' bus' (count + 1)
checking_more i now' written written' bytes reader' bus' d = record {
  written = i.written ++ bytes;
  going = d.going;
  counted = ap (λ (cs : List Command). length cs) d.commands ∙ length-append i.going.commands (d.command ∷ []) ∙ ap (λ (n : ℕ). n + 1) i.counted;
  few = omega (arith, i.few, d.shorter);
}

-- how it ends
pub checked_ends : (D : DeskRelations) (left now now' : Option (List ℕ)) (written : List ℕ) (course : Course) (reader reader' : Reading) (bus : BusView) (count : ℕ) (e : RunEnding)
    → length course.commands ≡ count → Ended D left now now' (Some []) (Some written) course reader reader' bus e → IsChecked D left now' reader' bus count (in_memory e)
checked_ends D left now now' written course reader reader' bus count Done counted d =
    let s = ended_stands Done d in ((written, d.runs), ap (λ (k : Course). length k.commands) d.same ∙ counted, s.0, s.1)
checked_ends D left now now' written course reader reader' bus count (Refused r) counted d =
    let s = ended_stands (Refused r) d in record { written = written; runs = d.runs; shown = d.shown; stands = s.0; fresh = s.1 }
checked_ends D left now now' written course reader reader' bus count (Stopped ReadFault) counted d = (written, d.runs)
checked_ends D left now now' written course reader reader' bus count (Stopped WriteFault) counted d = tt
checked_ends D left now now' written course reader reader' bus count (Stopped TooLong) counted d = (written, d.runs)
checked_ends D left now now' written course reader reader' bus count (Stopped NoMemory) counted d = tt

-- ---- the word

-- a run that stopped early has nothing to tell
pub nothing_checked : (D : DeskRelations) (left left' held : Option (List ℕ)) (reader : Reading) (bus : BusView) (count : ℕ) (stop : Stop) → IsChecked D left left' reader bus count (Stopped stop)
    → Checks D left left' held held (Stopped stop)
nothing_checked D left left' held reader bus count ReadFault x = (x, refl)
nothing_checked D left left' held reader bus count WriteFault x = absurd x
nothing_checked D left left' held reader bus count TooLong x = (x, refl)
nothing_checked D left left' held reader bus count NoMemory x = refl

-- the text of another run was written, or a prefix of it
pub told_checks : (D : DeskRelations) (left left' held held' : Option (List ℕ)) (reader : Reading) (bus : BusView) (count : ℕ) (text : List ℕ) (e result : RunEnding)
    → ((stop : Stop) → e ≢ Stopped stop) → (x : IsChecked D left left' reader bus count e) → text ≡ checked_text D left left' reader bus count e x
    → TellsText text held held' e result → Checks D left left' held held' result
told_checks D left left' held held' reader bus count text e result other x same told = by e other x (subst (λ (bytes : List ℕ). TellsText bytes held held' e result) same told)
  where
    at : (r : RunEnding) → result ≡ r → Checks D left left' held held' r → Checks D left left' held held' result
    at r e h = subst (λ (z : RunEnding). Checks D left left' held held' z) (sym e) h

    by : (e : RunEnding) → ((stop : Stop) → e ≢ Stopped stop) → (x : IsChecked D left left' reader bus count e)
        → TellsText (checked_text D left left' reader bus count e x) held held' e result → Checks D left left' held held' result
    by Done other x (inl t) = at Done t.0 (x.0, t.1)
    by Done other x (inr t) = at (Stopped WriteFault) t.0 (inl (x.0, t.1))
    by (Refused r) other x (inl t) = at (Refused r) t.0 ((x.written, x.runs), t.1)
    by (Refused r) other x (inr t) = at (Stopped WriteFault) t.0 (inr (r, (x.written, x.runs), t.1))
    by (Stopped stop) other x t = absurd (other stop refl)

-- no line of a valid script is refused
pub check_completes : (D : DeskRelations) (script : List ℕ) (left left' held held' : Option (List ℕ)) (e : RunEnding)
    → Checks D left left' held held' e → left ≡ Some script → IsValid script → IsNoRefusal e
check_completes D script left left' held held' Done d told v = tt
check_completes D script left left' held held' (Refused r) d told v = run_completes D script left left' (Some []) (Some d.0.0) (Refused r) d.0.1 told v
check_completes D script left left' held held' (Stopped ReadFault) d told v = tt
check_completes D script left left' held held' (Stopped WriteFault) d told v = tt
check_completes D script left left' held held' (Stopped TooLong) d told v = run_completes D script left left' (Some []) (Some d.0.0) (Stopped TooLong) d.0.1 told v
check_completes D script left left' held held' (Stopped NoMemory) d told v = tt

-- reading counts as it did, if the text is written or not
pub reads_told : (old new : ℕ) (text : List ℕ) (held held' : Option (List ℕ)) (e result : RunEnding)
    → ((stop : Stop) → e ≢ Stopped stop) → ReadCount old new e → TellsText text held held' e result → ReadCount old new result
reads_told old new text held held' e result other read told = by e other read told
  where
    at : (r : RunEnding) → result ≡ r → ReadCount old new r → ReadCount old new result
    at r e h = subst (λ (z : RunEnding). ReadCount old new z) (sym e) h

    by : (e : RunEnding) → ((stop : Stop) → e ≢ Stopped stop) → ReadCount old new e → TellsText text held held' e result → ReadCount old new result
    by Done other read (inl t) = at Done t.0 read
    by Done other read (inr t) = at (Stopped WriteFault) t.0 read
    by (Refused r) other read (inl t) = at (Refused r) t.0 read
    by (Refused r) other read (inr t) = at (Stopped WriteFault) t.0 read
    by (Stopped stop) other read t = absurd (other stop refl)

-- a text was written of a run that came to an end
pub writes_same : (old new : ℕ) (e : RunEnding) → ((stop : Stop) → e ≢ Stopped stop) → new ≡ old → WriteCount old new e
writes_same old new Done other same = same
writes_same old new (Refused r) other same = same
writes_same old new (Stopped stop) other same = absurd (other stop refl)
