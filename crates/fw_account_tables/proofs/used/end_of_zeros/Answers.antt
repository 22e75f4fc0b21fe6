use Rattle.fw_account_tables.proofs.Common.{◌≤◌, ◌<◌, ◌+◌, ◌-◌, ◌^◌, ℕ, arith, subst}
use Rattle.fw_account_tables.proofs.Channels.{last_ones, few_ones}
use Rattle.fw_account_tables.proofs.used.end_of_zeros.Goals as goal

pub overflow_sub-result : goal.overflow_sub-result
overflow_sub-result c =
    let small : c.args.word + 1 < 2 ^ 64 = omega arith in
    let few = few_ones c.args.word small in
    let is = c.trailing_ones.ensures in
    omega arith

pub returns-clause-ones : goal.returns-clause-ones
returns-clause-ones c = λ ch from within.
    let small : c.args.word + 1 < 2 ^ 64 = omega arith in
    last_ones c.args.word ch small (subst (λ (t : ℕ). 64 - t ≤ ch) c.trailing_ones.ensures from) within
