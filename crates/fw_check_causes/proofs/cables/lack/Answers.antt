use Rattle.std.proofs.Common.{ℕ, ap, sym, ◌∙◌, Some}
use Rattle.fw_check.specs.declared.why.Why.TheVariants.{NoPort}
use Rattle.fw_check_causes.proofs.CableLaws.{lack_gone, lack_there}
use Rattle.fw_check_causes.proofs.cables.lack.Goals as goal

pub returns-in-Some : goal.returns-in-Some
returns-in-Some c = λ s g st.
    ap (λ (n : ℕ). Some (NoPort c.args.number c.args.end.now.0 n)) c.ports.ensures
    ∙ sym (lack_there c.args.machine.now s c.args.number c.args.end.now c.in-Some.device st (sym c.in-Some.ensures.value))

pub returns-in-None : goal.returns-in-None
returns-in-None c = λ s g st. sym (lack_gone c.args.machine.now s c.args.number c.args.end.now st (sym c.in-None.ensures.value))
