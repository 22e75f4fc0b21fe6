use Rattle.std.proofs.Common.{sym, ◌∙◌}
use Rattle.fw_check_causes.proofs.RegisterLaws.{linked, not_linked}
use Rattle.fw_check_causes.proofs.registers.is_written.Goals as goal

pub returns-then-not-is_linked : goal.returns-then-not-is_linked
returns-then-not-is_linked c = λ s g st. not_linked c.args.machine.now s c.args.device c.args.offset g st (sym c.is_linked.ensures ∙ c.if-not-is_linked.true)

pub returns : goal.returns
returns c = λ s g st. linked c.args.machine.now s c.args.device c.args.offset c.read.result g st (sym c.is_linked.ensures ∙ c.if-not-is_linked.false) c.read.ensures
