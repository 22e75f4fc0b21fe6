use Rattle.fw_bus_state.proofs.Common.{◌≡◌, ◌≤◌, take}
use Rattle.std.proofs.Common.{vec_capacity}
use Rattle.fw_bus_state.specs.Copies.{controllers_at}
use Rattle.fw_bus_state.proofs.copies.copy_controllers.Given as goal

abbrev pub invariant-loop-number : goal.invariant-loop-number
invariant-loop-number l = record {
  controllers : l.list.items ≡ controllers_at l.kept (take l.number-index l.numbers);
  room : 63 ≤ vec_capacity l.list;
}
