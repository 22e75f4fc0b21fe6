use Rattle.std.proofs.Common.{◌≡◌, ◌+◌, ◌-◌, arith, sym, ◌∙◌, ap}
use Rattle.fw_words.specs.Quadlet.{first_set}
use Rattle.fw_words.proofs.FirstSet.{first_set_none, first_set_here, first_set_next}
use Rattle.fw_words.proofs.fields.first_set.Goals as goal

pub returns-then-field-eq1 : goal.returns-then-field-eq1
returns-then-field-eq1 c = first_set_here _ _ _ (omega arith) (sym c.field.ensures ∙ c.if-field-eq1.true) ∙ sym c.loop-bit.invariant

pub loop-bit-preserved : goal.loop-bit-preserved
loop-bit-preserved c =
    let less : c.args.last + 1 - c.loop-bit.bit - 1 ≡ c.args.last + 1 - (c.loop-bit.bit + 1) = omega arith in
    c.loop-bit.invariant ∙ first_set_next _ _ _ (omega arith) (λ h. c.if-field-eq1.false (c.field.ensures ∙ h)) ∙ ap (first_set c.args.q.0 (c.loop-bit.bit + 1)) less

pub returns : goal.returns
returns c = first_set_none _ _ _ (omega arith) ∙ sym c.loop-bit.invariant
