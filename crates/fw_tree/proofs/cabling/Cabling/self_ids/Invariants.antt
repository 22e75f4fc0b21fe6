use Rattle.fw_tree.proofs.Common.{◌≤◌, length, ArePackets}
use Rattle.std.proofs.Common.{◌*◌}
use Rattle.fw_tree.proofs.cabling.Cabling.self_ids.Given as goal

abbrev pub invariant-loop-node : goal.invariant-loop-node
invariant-loop-node l = record {
  packets : ArePackets l.self-inside.facts l.self-inside.cables l.n.number l.n.parent_port l.initiator l.node l.out;
  size : length l.out ≤ 4 * l.node;
}
