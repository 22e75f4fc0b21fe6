use Rattle.std.proofs.Common.{Option, ap, sym, ◌∙◌}
use Rattle.fw_check.specs.declared.why.Why.{Why}
use Rattle.fw_check_causes.specs.Causes.{cable_at, or_else}
use Rattle.fw_check_causes.proofs.CableLaws.{used_at_one, used_at_two}
use Rattle.fw_check_causes.proofs.cables.port_used.Goals as goal

pub returns-then-are_one : goal.returns-then-are_one
returns-then-are_one c = λ s g st. sym (used_at_one s c.args.a.now c.args.b.now (sym (c.are_one.ensures s g st) ∙ c.if-are_one.true))

pub returns-in-Some : goal.returns-in-Some
returns-in-Some c = λ s g st.
    ap (λ (o : Option Why). or_else o (cable_at s 3 c.args.b.now)) (c.in-Some.ensures s g st)
    ∙ sym (used_at_two s c.args.a.now c.args.b.now (sym (c.are_one.ensures s g st) ∙ c.if-are_one.false))

pub returns-in-None : goal.returns-in-None
returns-in-None c = λ s g st.
    c.cable_at-in-None.ensures s g st
    ∙ ap (λ (o : Option Why). or_else o (cable_at s 3 c.args.b.now)) (c.in-None.ensures s g st)
    ∙ sym (used_at_two s c.args.a.now c.args.b.now (sym (c.are_one.ensures s g st) ∙ c.if-are_one.false))
