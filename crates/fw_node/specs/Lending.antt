-- The unit that a node lends.
use Rattle.std.specs.Prelude.{Option, Some}
use Rattle.std.specs.Borrow.{LendsIf, MutBor, Fml}
use Rattle.fw_avc.specs.State.{UnitState}
use Rattle.fw_avc.specs.contracts.unit.Unit.{the_row as unit_row}
use Rattle.fw_node.specs.State.{NodeState}
use Rattle.fw_node.specs.contracts.node.Node.{the_row}

-- when the unit comes back, it alone has changed; without a unit nothing has
abbrev pub LendsUnit : MutBor NodeState → Option (MutBor UnitState) → Fml
LendsUnit n unit = LendsIf the_row unit_row n unit (λ u. record n.now { unit = Some u }) n.now
