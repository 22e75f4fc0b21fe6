-- Each event and each outcome that a log may hold has a name.
use Rattle.std.proofs.Common.{◌≡◌, ℕ, ◌==◌, ◌&&◌, Bool, true, false, List, [], ◌∷◌, Option, Some, None, option_map, if◌then◌else◌, IsTrue, refl, subst, arith}
use Rattle.std.proofs.lemmas.Bool.Decides.{nat_tests}
use Rattle.std.specs.List.{find}
use Rattle.std.specs.Option.{is_some}
use Rattle.fw_log_entry.specs.Log.{is_event, is_outcome}
use Rattle.fw_log_entry.specs.declared.rows.EventForm.{EventForm}
use Rattle.fw_log_entry.specs.declared.rows.OutcomeForm.{OutcomeForm}
use Rattle.fw_log_entry.specs.declared.rows.TheConstants.{EVENTS, OUTCOMES}
use Rattle.fw_log_entry.specs.Rows.{may_have, may_bring}
use Rattle.fw_log_names.specs.Names.{event_name, outcome_name}

left : (a b : Bool) → (a && b) ≡ true → a ≡ true
left true b e = refl
left false b e = cc e

right : (a b : Bool) → (a && b) ≡ true → b ≡ true
right true b e = e
right false b e = cc e

same_code : (n code : ℕ) → (n == code) ≡ true → n ≡ code
same_code n code e = grind (arith, nat_tests)

-- the test holds at the code of each row
abbrev holds_at_all : {F : Type 0} → (ℕ → Bool) → List (ℕ × F) → Bool
holds_at_all test [] = true
holds_at_all test (r ∷ rows) = test r.0 && holds_at_all test rows

-- what holds at the code of each row holds at a code that is found
holds_at : {F : Type 0} (test : ℕ → Bool) (rows : List (ℕ × F)) (code : ℕ) → holds_at_all test rows ≡ true
    → is_some (find (λ (r : ℕ × F). r.0 == code) rows) ≡ true → test code ≡ true
holds_at test [] code e h = cc h
holds_at {F} test (r ∷ rows) code e h =
    let Found : Bool → Type 0 = λ b. (r.0 == code) ≡ b → is_some (if b then Some r else find (λ (x : ℕ × F). x.0 == code) rows) ≡ true → test code ≡ true in
    let Holds : ℕ → Type 0 = λ n. test n ≡ true in
    (elim (r.0 == code) as Found [
      | true ↦ λ same some. subst Holds (same_code r.0 code same) (left (test r.0) (holds_at_all test rows) e)
      | false ↦ λ other some. holds_at test rows code (right (test r.0) (holds_at_all test rows) e) some
    ]) refl h

found_event : (o : Option (ℕ × EventForm)) (device : ℕ) (b : Bool) → IsTrue (may_have (option_map (λ (r : ℕ × EventForm). r.1) o) device && b) → is_some o ≡ true
found_event None device b h = h
found_event (Some r) device b h = refl

found_outcome : (o : Option (ℕ × OutcomeForm)) (value : ℕ) → IsTrue (may_bring (option_map (λ (r : ℕ × OutcomeForm). r.1) o) value) → is_some o ≡ true
found_outcome None value h = h
found_outcome (Some r) value h = refl

pub event_named : (code device tape system : ℕ) → IsTrue (is_event code device tape system) → IsTrue (is_some (event_name code))
event_named code device tape system h = holds_at (λ n. is_some (event_name n)) EVENTS code refl (found_event (find (λ (r : ℕ × EventForm). r.0 == code) EVENTS) device _ h)

pub outcome_named : (code value : ℕ) → IsTrue (is_outcome code value) → IsTrue (is_some (outcome_name code))
outcome_named code value h = holds_at (λ n. is_some (outcome_name n)) OUTCOMES code refl (found_outcome (find (λ (r : ℕ × OutcomeForm). r.0 == code) OUTCOMES) value h)
