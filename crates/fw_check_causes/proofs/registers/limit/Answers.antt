use Rattle.std.proofs.Common.{List, ℕ, ◌*◌, length, Some, ap, sym, ◌∙◌}
use Rattle.fw_script_command.specs.declared.command.Command.{Command}
use Rattle.fw_bus_state.proofs.Living.{living_list}
use Rattle.fw_check.specs.declared.why.Why.{Why}
use Rattle.fw_check.specs.declared.why.Why.TheVariants.{Limit}
use Rattle.fw_check.specs.declared.why.LimitOf.TheVariants.{HalfSteps}
use Rattle.fw_check_causes.specs.Causes.{passed}
use Rattle.fw_check_causes.proofs.registers.limit.Goals as goal

pub returns-in-Settle : goal.returns-in-Settle
returns-in-Settle c = λ s g st.
    let living = c.from-in-Settle.ensures ∙ c.living.ensures.count ∙ ap (λ (l : List ℕ). length l) (living_list c.args.machine.now s g st) in
    ap (λ (w : Why). Some w) (c.half_steps.ensures s st)
    ∙ ap (λ (n : ℕ). Some (Limit HalfSteps s.half_steps (n * c.from-in-Settle.result))) c.from.ensures
    ∙ ap (λ (n : ℕ). Some (Limit HalfSteps s.half_steps (c.in-Settle.rounds * n))) living
    ∙ ap (λ (x : Command). passed s x) (sym c.in-Settle.is)
