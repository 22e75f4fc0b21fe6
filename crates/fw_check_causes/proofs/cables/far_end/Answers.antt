use Rattle.std.proofs.Common.{sym, ◌∙◌}
use Rattle.fw_check_causes.proofs.CableLaws.{far_gone, far_there}
use Rattle.fw_check_causes.proofs.cables.far_end.Goals as goal

pub returns-in-Some : goal.returns-in-Some
returns-in-Some c = λ s g st. c.joined.ensures s g st ∙ sym (far_there c.args.machine.now s c.args.number c.args.end c.in-Some.peer st (sym c.in-Some.ensures))

pub returns-in-None : goal.returns-in-None
returns-in-None c = λ s g st. sym (far_gone c.args.machine.now s c.args.number c.args.end st (sym c.in-None.ensures))
