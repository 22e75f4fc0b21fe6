use Rattle.fw_bus_state.proofs.Common.{◌≡◌, ◌≤◌, take}
use Rattle.std.proofs.Common.{vec_capacity}
use Rattle.fw_bus_state.proofs.candidates.Candidates.copy_from.Given as goal

abbrev pub invariant-loop-candidate : goal.invariant-loop-candidate
invariant-loop-candidate l = record {
  items : l.self-inside.list.items ≡ take l.candidate-index l.other.list;
  room : 63 ≤ vec_capacity l.self-inside.list;
}
