-- A bus, what keeps it, and the numbers under which it was kept last.
use Rattle.std.specs.Prelude.{ℕ, ◌≡◌, List, Bool, IsTrue, ⊤}
use Rattle.fw_bus_state.specs.declared.machine.Machine.{Machine}
use Rattle.fw_bus.specs.Buses.{BusView}
use Rattle.fw_bus.specs.Changes.{IsHalfFrom, counted_in}
use Rattle.fw_bus.specs.declared.change.Changed.{Changed}
use Rattle.fw_bus.specs.declared.change.Changed.TheVariants as Changes
use Rattle.fw_explore.specs.declared.since.Since.{Since}
use Rattle.fw_explore.specs.declared.since.Since.TheVariants.{Nothing, Counted, Half, Any}

pub record Keeping (P : Type 0) : Type 0 where
  pub bus : BusView
  pub places : P
  pub at : List ℕ

-- what was carried out since a machine stood where one was kept
abbrev pub IsSince : {P : Type 0} → (P → List ℕ → Machine → Type 0) → P → List ℕ → Since → Machine → Type 0
IsSince Kept places at Nothing now = Kept places at now
IsSince Kept places at Counted now = (m : Machine) × Kept places at m × (now ≡ counted_in m)
IsSince Kept places at (Half device asks) now = (m : Machine) × Kept places at m × IsHalfFrom device asks m now
IsSince Kept places at Any now = ⊤

-- a command followed if nothing was carried out, or no more is known
abbrev pub Follows : Since → Changed → Bool → Since → Type 0
Follows since changed silent Nothing = ⊥
Follows since changed silent Counted = (since ≡ Nothing) × IsTrue silent × ((device : ℕ) × (asks : Bool) × (changed ≡ Changes.Half device asks))
Follows since changed silent (Half device asks) = (since ≡ Nothing) × (changed ≡ Changes.Half device asks)
Follows since changed silent Any = ⊤
