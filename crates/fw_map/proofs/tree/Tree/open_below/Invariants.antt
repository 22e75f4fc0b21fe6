use Rattle.fw_map.proofs.Common.{◌≡◌, ◌≤◌, ◌<◌, ℕ, true, number_at, is_there}
use Rattle.fw_map.proofs.tree.Tree.open_below.Given as goal

abbrev pub invariant-loop-c : goal.invariant-loop-c
invariant-loop-c l = (x : ℕ) → l.c ≤ x → x < l.node → is_there (number_at l.self.parent x) ≡ true
