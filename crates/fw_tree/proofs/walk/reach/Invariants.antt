use Rattle.fw_tree.proofs.Common.{IsTrue, is_seen, unseen}
use Rattle.fw_tree.specs.Cables.{AllReached}
use Rattle.fw_tree.proofs.walk.reach.Given as goal

abbrev pub invariant-loop : goal.invariant-loop
invariant-loop l = record {
  reached : AllReached l.g l.a l.seen;
  first : IsTrue (is_seen l.seen l.a);
}

abbrev pub decreases-loop : goal.decreases-loop
decreases-loop l = unseen l.seen
