-- What a sink was given since a command began.
use Rattle.std.specs.Prelude.{◌≡◌, ℕ, ◌-◌, List, ◌++◌, length, take, Bool, true, false, Option, Some, None, Result, Ok, Err, ⊤}
use Rattle.std.specs.Coded.{Coded-set, coded_ℕ, coded_list, ×_prop, Unit-prop, le_prop}
use Rattle.fw_outside.specs.Outside.{Grows, Rose}
use Rattle.fw_trace.specs.declared.lack.Lack.{Lack}
use Rattle.fw_trace.specs.declared.lack.Lack.TheVariants.{Memory, Sink}

-- told bytes have grown by a prefix of these; who does not tell goes on not telling
abbrev pub GrowsPrefix : Option (List ℕ) → Option (List ℕ) → List ℕ → Type 0
GrowsPrefix None None bs = ⊤
GrowsPrefix None (Some ys) bs = ⊥
GrowsPrefix (Some xs) None bs = ⊥
GrowsPrefix (Some xs) (Some ys) bs = ys ≡ xs ++ take (length ys - length xs) bs

-- These bytes were passed on to a sink, by what it held before and after, and how often it had failed; or a prefix of them, if it failed.
abbrev pub WasPassed : Bool → Option (List ℕ) → Option (List ℕ) → ℕ → ℕ → List ℕ → Type 0
WasPassed false held held' faults faults' bs = Grows held held' bs × (faults' ≡ faults)
WasPassed true held held' faults faults' bs = GrowsPrefix held held' bs × Rose faults faults'

-- a text was passed on, or nothing of it if memory ran out, or a prefix of it if the sink failed
abbrev pub PassesBy : Result (Unit {0}) Lack → Option (List ℕ) → Option (List ℕ) → ℕ → ℕ → List ℕ → Type 0
PassesBy (Ok _) held held' faults faults' text = Grows held held' text × (faults' ≡ faults)
PassesBy (Err Memory) held held' faults faults' text = (held' ≡ held) × (faults' ≡ faults)
PassesBy (Err Sink) held held' faults faults' text = GrowsPrefix held held' text × Rose faults faults'

no-prop : IsProp ⊥
no-prop x = absurd x

grows-prop : (held held' : Option (List ℕ)) (bs : List ℕ) → IsProp (Grows held held' bs)
grows-prop None None bs = Unit-prop
grows-prop None (Some ys) bs = no-prop
grows-prop (Some xs) None bs = no-prop
grows-prop (Some xs) (Some ys) bs = Coded-set (coded_list coded_ℕ) _ _

pub grows_prefix-prop : (held held' : Option (List ℕ)) (bs : List ℕ) → IsProp (GrowsPrefix held held' bs)
grows_prefix-prop None None bs = Unit-prop
grows_prefix-prop None (Some ys) bs = no-prop
grows_prefix-prop (Some xs) None bs = no-prop
grows_prefix-prop (Some xs) (Some ys) bs = Coded-set (coded_list coded_ℕ) _ _

-- it holds in one way at most
pub was_passed-prop : (failed : Bool) (held held' : Option (List ℕ)) (faults faults' : ℕ) (bs : List ℕ) → IsProp (WasPassed failed held held' faults faults' bs)
was_passed-prop false held held' faults faults' bs = ×_prop (grows-prop held held' bs) (Coded-set coded_ℕ _ _)
was_passed-prop true held held' faults faults' bs = ×_prop (grows_prefix-prop held held' bs) le_prop
