-- What is put into a room before it is written.
use Rattle.std.specs.Prelude.{◌≡◌, ℕ, List, [], ◌++◌, Option, Some, Ok, Err}
use Rattle.std.specs.declared.result.Result.{Result}
use Rattle.fw_outside.specs.Outside.{AppendsPrefix, Grows}
use Rattle.fw_model_run.specs.Desks.{DeskRelations}
use Rattle.fw_bus_state.specs.Giving.{in_room, never_fails}
use Rattle.fw_bus_state.specs.declared.machine.Machine.{Machine}
use Rattle.fw_bus_engine.specs.Performing.{Execution, Performed}
use Rattle.fw_bus_engine.specs.Framing.{PerformedWithDesk}

-- this was done, and the room grew by what it writes
abbrev pub Fills : Execution → Machine → Machine → List ℕ → List ℕ → Type 0
Fills P m now old new = Performed P m now (in_room old new) never_fails

-- the same, with what the desk gives
abbrev pub FillsBy : DeskRelations → Execution → Machine → Machine → List ℕ → List ℕ → Type 0
FillsBy D P m now old new = PerformedWithDesk D P m now (in_room old new) never_fails

-- this was done: of what it writes the one part was written, and the other stands in a room
pub record Gathers (D : DeskRelations) (P : Execution) (m now : Machine) (held after : Option (List ℕ)) (room : List ℕ) : Type 0 where
  pub before : List ℕ
  pub fills : FillsBy D P m now [] (before ++ room)
  pub grew : Grows held after before

-- a part of what a room holds was written, and the rest is left there; or a write of all, which is not nothing, was cut off
abbrev pub Passes : {T E : Type 0} → Option (List ℕ) → Option (List ℕ) → Result T E → List ℕ → List ℕ → Type 0
Passes held after (Ok _) room rest = (part : List ℕ) × (room ≡ part ++ rest) × Grows held after part
Passes held after (Err _) room rest = (room ≡ [] → ⊥) × AppendsPrefix held after room
