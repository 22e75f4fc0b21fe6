use Rattle.fw_tree.proofs.Common.{ℕ, ◌<◌}
use Rattle.fw_tree.specs.Parents.{IsDue, staying}
use Rattle.fw_tree.proofs.ParentLaws.{Gone}
use Rattle.fw_tree.proofs.rounds.parents.Given as goal

abbrev pub invariant-loop-now : goal.invariant-loop-now
invariant-loop-now l = record {
  gone : Gone l.g l.round l.now.stays l.parents;
  due : (d : ℕ) → d < 63 → IsDue l.g l.now.stays l.now.due d;
}

abbrev pub decreases-loop-now : goal.decreases-loop-now
decreases-loop-now l = staying l.now.stays
