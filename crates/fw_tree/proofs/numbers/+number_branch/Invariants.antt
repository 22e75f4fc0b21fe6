use Rattle.fw_tree.proofs.Common.{◌≡◌, ℕ, Bool, List, length, Ports, counted, has_number, rank, parent_at}
use Rattle.fw_tree.proofs.numbers.+number_branch.Given as goal

abbrev pub decreases-number_branch : goal.decreases-number_branch
decreases-number_branch l = rank (parent_at l.parents.now l.d)

abbrev pub invariant-loop-p : goal.invariant-loop-p
invariant-loop-p l = record {
  size : length l.number ≡ 63;
  ports : (root : ℕ) (on : ℕ → Bool) (paths : ℕ → List ℕ) → Ports l.g l.parents root on paths l.d l.p l.initial.number l.number;
  next : l.next ≡ counted (has_number l.number) 63;
}
