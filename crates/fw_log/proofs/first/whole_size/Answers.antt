use Rattle.fw_log.proofs.Common.{inr, arith, position}
use Rattle.fw_log.proofs.FeedLaws.{need_most}
use Rattle.fw_log.proofs.first.whole_size.Goals as goal

pub returns-clause-prefix : goal.returns-clause-prefix
returns-clause-prefix c = omega (arith, c.need.ensures, c.requires.pending.not_complete)

pub returns-clause-room : goal.returns-clause-room
returns-clause-room c = omega (arith, c.need.ensures, need_most (position c.args.stand) c.args.taken.now c.requires.pending)

pub returns-clause-known : goal.returns-clause-known
returns-clause-known c = inr (omega (arith, c.skip.ensures, c.if-taken-skip.false), c.need.ensures)
