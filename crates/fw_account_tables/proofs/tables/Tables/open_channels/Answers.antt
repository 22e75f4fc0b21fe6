use Rattle.fw_account_tables.proofs.Common.{arith}
use Rattle.fw_account_tables.proofs.Channels.{halves_fit, free_bits}
use Rattle.fw_account_tables.proofs.tables.Tables.open_channels.Goals as goal

pub overflow_add-result : goal.overflow_add-result
overflow_add-result c =
    let f = halves_fit _ _ _ _ _ _ c.requires.stands.1.resources in
    let a = c.from.ensures in
    let b = c.from-2.ensures in
    omega arith

pub returns : goal.returns
returns c = λ l ch h lt. rw (c.from.ensures, c.from-2.ensures) (free_bits c.args.self.now l ch h lt)
