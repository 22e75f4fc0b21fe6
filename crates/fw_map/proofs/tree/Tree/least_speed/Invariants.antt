use Rattle.fw_map.proofs.Common.{ℕ, ◌+◌, ◌-◌, ◌<◌, ◌≤◌, List, speed_at}
use Rattle.fw_map.specs.Walks.{IsLeastSoFar, Walk}
use Rattle.fw_map.proofs.tree.Tree.least_speed.Given as goal

abbrev pub invariant-loop-a : goal.invariant-loop-a
invariant-loop-a l = record {
  a : l.a < l.self.count;
  b : l.b < l.self.count;
  at_a : l.least ≤ speed_at l.self.sp l.a;
  at_b : l.least ≤ speed_at l.self.sp l.b;
  walk : (nodes : List ℕ) → Walk l.self l.fn.a l.fn.b nodes → IsLeastSoFar l.self nodes l.a l.b l.least;
}

abbrev pub decreases-loop-a : goal.decreases-loop-a
decreases-loop-a l = (63 - l.a) + (63 - l.b)
