use Rattle.fw_tree.proofs.Common.{None, ap, replicate, sym, has_number, is_there}
use Rattle.fw_tree.proofs.CountLaws.{counted_zero}
use Rattle.fw_tree.proofs.TreeLaws.{blank_number}
use Rattle.fw_tree.proofs.numbers.numbers_from.Goals as goal

pub number_branch-requires-clause-next : goal.number_branch-requires-clause-next
number_branch-requires-clause-next c = sym (counted_zero (has_number (replicate 63 None)) 63 (λ d. ap is_there (blank_number d)))
