use Rattle.fw_tree.proofs.Common.{◌-◌, ◌<◌, IsOnBus, rank, parent_at}
use Rattle.fw_tree.proofs.root.find_root.Given as goal

abbrev pub invariant-loop-parent : goal.invariant-loop-parent
invariant-loop-parent l = record {
  low : l.d < 63;
  on : IsOnBus l.g l.d;
}

abbrev pub decreases-loop-parent : goal.decreases-loop-parent
decreases-loop-parent l = 63 - rank (parent_at l.parents l.d)
