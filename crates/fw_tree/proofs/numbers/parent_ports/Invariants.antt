use Rattle.fw_tree.proofs.Common.{◌≡◌, ◌<◌, ℕ, length, has_number, number_at, parent_at}
use Rattle.fw_tree.specs.Numbers.{shown}
use Rattle.fw_tree.proofs.numbers.parent_ports.Given as goal

abbrev pub invariant-loop-d : goal.invariant-loop-d
invariant-loop-d l = record {
  ports : (k : ℕ) → k < l.d → number_at l.ports k ≡ shown (has_number l.number k) (parent_at l.parents k);
  size : length l.ports ≡ 63;
}
