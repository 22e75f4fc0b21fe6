-- What half steps leave.
use Rattle.std.specs.Prelude.{ℕ, ◌≡◌, List, Bool, Option, Some, IsTrue}
use Rattle.fw_cmp.specs.Losses.{MayTurn}
use Rattle.fw_bus_state.specs.Halves.{IsHalfFrom}
use Rattle.fw_bus_state.specs.Tables.{states_of}
use Rattle.fw_bus_state.specs.declared.machine.Machine.{Machine}

-- of a half step of a device's controller that begins no bus reset: the controller asks if no request of it was outstanding
abbrev pub LeavesHalf : Machine → Machine → ℕ → Type 0
LeavesHalf old new d = (asks : Bool) → (IsTrue asks → MayTurn (states_of old.controllers d)) → IsHalfFrom d asks old new

-- it holds if a sink that tells what it holds was given nothing
abbrev pub WhereNothing : Option (List ℕ) → Option (List ℕ) → Type 0 → Type 0
WhereNothing held after holds = (bytes : List ℕ) → held ≡ Some bytes → after ≡ Some bytes → holds
