use Rattle.std.proofs.Common.{sym, ◌∙◌}
use Rattle.std.specs.Option.{option_map}
use Rattle.fw_check.specs.declared.why.Why.TheVariants.{NotController}
use Rattle.fw_check_causes.specs.Causes.{no_controller}
use Rattle.fw_check_causes.proofs.Seen.{of_none, of_some}
use Rattle.fw_check_causes.proofs.controllers.dead.Goals as goal

pub returns-in-Some : goal.returns-in-Some
returns-in-Some c = λ s g st.
    c.why_dead.ensures s g st
    ∙ sym (of_some c.args.machine.now s c.args.name c.in-Some.device (λ d. option_map NotController (no_controller s c.args.name d)) st (sym c.in-Some.ensures.value))

pub returns-in-None : goal.returns-in-None
returns-in-None c = λ s g st. sym (of_none c.args.machine.now s c.args.name (λ d. option_map NotController (no_controller s c.args.name d)) st (sym c.in-None.ensures.value))
