use Rattle.std.proofs.Common.{sym, ◌∙◌}
use Rattle.fw_check_causes.specs.Causes.{loop_with}
use Rattle.fw_check_causes.proofs.Seen.{of_none, of_some}
use Rattle.fw_check_causes.proofs.cables.loop_of.Goals as goal

pub returns-in-Some : goal.returns-in-Some
returns-in-Some c = λ s g st.
    c.loop_with.ensures s g st
    ∙ sym (of_some c.args.machine.now s c.args.a.now c.in-Some.device (λ d. loop_with s d c.args.a.now c.args.b.now) st (sym c.in-Some.ensures.value))

pub returns-in-None : goal.returns-in-None
returns-in-None c = λ s g st. sym (of_none c.args.machine.now s c.args.a.now (λ d. loop_with s d c.args.a.now c.args.b.now) st (sym c.in-None.ensures.value))
