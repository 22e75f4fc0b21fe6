use Rattle.fw_map.proofs.Common.{Tree, HasPackets, Agrees, Joining}
use Rattle.fw_map.proofs.build.rebuild.Given as goal

abbrev pub invariant-loop-node : goal.invariant-loop-node
invariant-loop-node l = record {
  joining : Joining l.e l.node l.tree;
  agrees : (s : Tree) → HasPackets l.e s → Agrees s l.tree l.node 27;
}
