use Rattle.fw_devices.proofs.Common.{◌≡◌, ◌≤◌, take}
use Rattle.std.proofs.Common.{vec_capacity}
use Rattle.fw_devices.specs.Frames.{nodes_at}
use Rattle.fw_devices.proofs.devices.frames.copy_nodes.Given as goal

abbrev pub invariant-loop-number : goal.invariant-loop-number
invariant-loop-number l = record {
  nodes : l.nodes.items ≡ nodes_at l.kept (take l.number-index l.numbers);
  room : 63 ≤ vec_capacity l.nodes;
}
