-- What a command may have changed of a bus.
use Rattle.std.specs.Prelude.{ℕ, ◌≡◌, ⊤}
use Rattle.fw_bus_state.specs.declared.machine.Machine.{Machine}
-- (what a crate above a bus names of fw_bus_state and fw_bus_engine it has from here)
pub use Rattle.fw_bus_state.specs.Halves.{IsHalfFrom, counted_in}
pub use Rattle.fw_bus_engine.specs.Leaving.{WhereNothing}
use Rattle.fw_bus.specs.declared.change.Changed.{Changed}
use Rattle.fw_bus.specs.declared.change.Changed.TheVariants.{Half, Any}

-- of a machine it changed no more than this
abbrev pub IsChanged : Changed → Machine → Machine → Type 0
IsChanged (Half device asks) old new = IsHalfFrom device asks old new
IsChanged Any old new = ⊤

-- what holds of a half step
abbrev pub WhereHalf : Changed → Type 0 → Type 0
WhereHalf (Half device asks) holds = holds
WhereHalf Any holds = ⊤
