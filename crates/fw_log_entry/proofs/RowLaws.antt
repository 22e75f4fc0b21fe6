-- What it comes to that a table has a code.
use Rattle.std.proofs.Common.{◌≡◌, ℕ, ◌^◌, ◌<◌, ◌==◌, ◌&&◌, ◌||◌, nat_lt, Bool, true, false, List, [], ◌∷◌, Option, Some, None, option_map, if◌then◌else◌, IsTrue, refl, arith}
use Rattle.std.proofs.lemmas.Bool.Decides.{nat_tests}
use Rattle.std.specs.List.{find}
use Rattle.std.specs.Option.{is_some}
use Rattle.fw_log_entry.specs.Log.{is_event, is_outcome}
use Rattle.fw_log_entry.specs.Rows.{may_have, may_bring}
use Rattle.fw_log_entry.specs.declared.rows.EventForm.{EventForm}
use Rattle.fw_log_entry.specs.declared.rows.OutcomeForm.{OutcomeForm}
use Rattle.fw_log_entry.specs.declared.rows.TheConstants.{EVENTS, OUTCOMES}

-- all codes are below a number
abbrev pub all_below : {F : Type 0} → ℕ → List (ℕ × F) → Bool
all_below m [] = true
all_below m (r ∷ rows) = nat_lt r.0 m && all_below m rows

small_one : (n code : ℕ) (b : Bool) → (n == code) ≡ true → (nat_lt n 256 && b) ≡ true → code < 256
small_one n code b e h = grind (arith, nat_tests)

pub rest_below : (a b : Bool) → (a && b) ≡ true → b ≡ true
rest_below true b e = e
rest_below false b e = cc e

small_in : {F : Type 0} (rows : List (ℕ × F)) (code : ℕ) → all_below 256 rows ≡ true → is_some (find (λ (r : ℕ × F). r.0 == code) rows) ≡ true → code < 256
small_in [] code e h = cc h
small_in {F} (r ∷ rows) code e h =
    let Found : Bool → Type 0 = λ b. (r.0 == code) ≡ b → is_some (if b then Some r else find (λ (x : ℕ × F). x.0 == code) rows) ≡ true → code < 256 in
    (elim (r.0 == code) as Found [
      | true ↦ λ same some. small_one r.0 code (all_below 256 rows) same e
      | false ↦ λ other some. small_in rows code (rest_below (nat_lt r.0 256) (all_below 256 rows) e) some
    ]) refl h

some_event : (o : Option (ℕ × EventForm)) (device : ℕ) (b : Bool) → IsTrue (may_have (option_map (λ (r : ℕ × EventForm). r.1) o) device && b) → is_some o ≡ true
some_event None device b h = h
some_event (Some r) device b h = refl

some_outcome : (o : Option (ℕ × OutcomeForm)) (value : ℕ) → IsTrue (may_bring (option_map (λ (r : ℕ × OutcomeForm). r.1) o) value) → is_some o ≡ true
some_outcome None value h = h
some_outcome (Some r) value h = refl

-- the code of an event has 8 bits
pub event_code : (code device tape system : ℕ) → IsTrue (is_event code device tape system) → code < 256
event_code code device tape system h = small_in EVENTS code refl (some_event (find (λ (r : ℕ × EventForm). r.0 == code) EVENTS) device _ h)

-- the code of an outcome has 8 bits
pub outcome_code : (code value : ℕ) → IsTrue (is_outcome code value) → code < 256
outcome_code code value h = small_in OUTCOMES code refl (some_outcome (find (λ (r : ℕ × OutcomeForm). r.0 == code) OUTCOMES) value h)

-- an event has no tape, or one of a system: by what else is asked of it, and whether it has one
abbrev pub is_shape : Bool → Bool → ℕ → ℕ → Bool
is_shape other tape_there tape system = other && (if tape_there then (system == 525) || (system == 625) else (tape == 0) && (system == 0))

pub no_tape : (a b : Bool) (tape system : ℕ) → IsTrue (is_shape a b tape system) → b ≡ false → (tape ≡ 0) × (system ≡ 0)
no_tape a b tape system h e = (grind (arith, nat_tests), grind (arith, nat_tests))

pub small_system : (a b : Bool) (tape system : ℕ) → IsTrue (is_shape a b tape system) → system < 2 ^ 16
small_system a b tape system h = grind (arith, nat_tests)
