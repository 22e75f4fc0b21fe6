use Rattle.std.proofs.Common.{Bool, Some, ap, sym, ◌∙◌}
use Rattle.fw_script_command.specs.declared.command.Command.{Command}
use Rattle.fw_cmp.specs.Losses.{Listening}
use Rattle.fw_model_run.specs.State.{is_deaf}
use Rattle.fw_check.specs.declared.why.Why.TheVariants.{NothingStands}
use Rattle.fw_check_causes.specs.Causes.{nothing_stands}
use Rattle.fw_check_causes.proofs.Seen.{lost_same, of_some}
use Rattle.fw_check_causes.proofs.controllers.nothing_stands.Goals as goal

pub returns-in_ok-device-in-Lose : goal.returns-in_ok-device-in-Lose
returns-in_ok-device-in-Lose c = λ s g st.
    let d = c.in_ok-device-in-Lose.device in
    ap (λ (b : Bool). Some (NothingStands c.in-Lose.name b)) (c.is_deaf-lost.ensures ∙ ap (λ (x : Listening). x.lost) c.get.ensures ∙ lost_same c.args.machine.now s d st)
    ∙ sym (of_some c.args.machine.now s c.in-Lose.name d (λ d. Some (NothingStands c.in-Lose.name (is_deaf s d))) st (sym c.in_ok-device-in-Lose.ensures.value))
    ∙ ap (λ (x : Command). nothing_stands s x) (sym c.in-Lose.is)
