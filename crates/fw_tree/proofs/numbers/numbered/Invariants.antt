use Rattle.fw_tree.proofs.Common.{◌≡◌, ◌≤◌, counted, has_number}
use Rattle.fw_tree.proofs.numbers.numbered.Given as goal

abbrev pub invariant-loop-d : goal.invariant-loop-d
invariant-loop-d l = (l.count ≡ counted (has_number l.number) l.d) × (l.count ≤ l.d)
