use Rattle.fw_ledger.proofs.Common.{rules}
use Rattle.fw_ledger.proofs.Seconds.{second_follows, no_second_follows}
use Rattle.fw_ledger.proofs.event.take_second.Goals as goal

pub returns : goal.returns
returns c = λ l h. second_follows c.args.tables.now l h (search rules)

pub returns-then-not-tables : goal.returns-then-not-tables
returns-then-not-tables c = λ l h. no_second_follows c.args.tables.now l h (search rules)
