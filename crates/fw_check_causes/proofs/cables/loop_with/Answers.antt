use Rattle.std.proofs.Common.{◌==◌, cond, sym, Some}
use Rattle.fw_check.specs.declared.why.Why.TheVariants.{Loop, OneDevice}
use Rattle.fw_check_causes.proofs.Seen.{of_none}
use Rattle.fw_check_causes.proofs.cables.loop_with.Goals as goal

pub returns-in-None : goal.returns-in-None
returns-in-None c = λ s g st. sym (of_none c.args.machine.now s c.args.b.now (λ e. Some (cond (e == c.args.device) (OneDevice c.args.a.now) (Loop c.args.a.now c.args.b.now))) st
    (sym c.in-None.ensures.value))
