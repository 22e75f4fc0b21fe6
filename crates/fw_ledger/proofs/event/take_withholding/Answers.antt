use Rattle.fw_ledger.proofs.Common.{rules}
use Rattle.fw_ledger.proofs.Seconds.{withholding_follows, too_late_follows}
use Rattle.fw_ledger.proofs.event.take_withholding.Goals as goal

pub returns : goal.returns
returns c = λ l h. withholding_follows c.args.tables.now l _ h (search rules) c.first_high-tables.ensures

pub returns-then-tables : goal.returns-then-tables
returns-then-tables c = λ l h. too_late_follows c.args.tables.now l h (search rules)
