use Rattle.std.proofs.Common.{sym, ◌∙◌}
use Rattle.fw_check_causes.proofs.CableLaws.{cable_gone, cable_there}
use Rattle.fw_check_causes.proofs.cables.cable_at.Goals as goal

pub returns-in-Some : goal.returns-in-Some
returns-in-Some c = λ s g st. c.far_end.ensures s g st ∙ sym (cable_there s c.args.number c.args.end.now c.in-Some.end (sym (c.in-Some.ensures s g st)))

pub returns-in-None : goal.returns-in-None
returns-in-None c = λ s g st. sym (cable_gone s c.args.number c.args.end.now (sym (c.in-None.ensures s g st)))
