use Rattle.std.proofs.Common.{Some, ap, arith}
use Rattle.fw_log_entry.proofs.SizeLaws.{size_of_first, size_of_part}
use Rattle.fw_log_entry.proofs.size.entry_size.Goals as goal

pub returns-else-log-size-clause-first : goal.returns-else-log-size-clause-first
returns-else-log-size-clause-first c epoch t more f e =
    ap (λ n. Some n) (size_of_first epoch t c.args.log.now more c.from.result c.from-2.result f e c.from.ensures c.from-2.ensures)

pub returns-else-log-size-clause-part : goal.returns-else-log-size-clause-part
returns-else-log-size-clause-part c epoch t more f e some =
    absurd (omega (arith, c.if-log-size.false, size_of_part epoch t c.args.log.now more c.from.result c.from-2.result f e (omega (arith, c.if-log-lt-HEAD.false)) some c.from.ensures c.from-2.ensures))
