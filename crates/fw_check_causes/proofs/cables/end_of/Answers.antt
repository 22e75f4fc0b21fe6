use Rattle.std.proofs.Common.{sym}
use Rattle.fw_check_causes.proofs.CableLaws.{end_gone, end_there}
use Rattle.fw_check_causes.proofs.cables.end_of.Goals as goal

pub returns-in-Some : goal.returns-in-Some
returns-in-Some c = λ s g st. sym (end_there c.args.machine.now s c.args.end.now c.in-Some.device st (sym c.in-Some.ensures.value))

pub returns-in-None : goal.returns-in-None
returns-in-None c = λ s g st. sym (end_gone c.args.machine.now s c.args.end.now st (sym c.in-None.ensures.value))
