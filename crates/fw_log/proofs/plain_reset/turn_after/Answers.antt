use Rattle.fw_log.proofs.Common.{arith, sym, ◌∙◌}
use Rattle.fw_log.proofs.PlainIdLaws.{goes_more, goes_on}
use Rattle.fw_log.proofs.plain_reset.turn_after.Goals as goal

pub returns-then-field-eq1 : goal.returns-then-field-eq1
returns-then-field-eq1 c =
    let next = sym c.begins_self_id.ensures ∙ c.if-not-begins_self_id.false in
    goes_more c.args.q.0 c.args.turn.node c.args.turn.met (omega arith) (omega arith) (omega arith) next (sym c.field.ensures ∙ c.if-field-eq1.true)

pub returns-else-field-eq1 : goal.returns-else-field-eq1
returns-else-field-eq1 c =
    let next = sym c.begins_self_id.ensures ∙ c.if-not-begins_self_id.false in
    goes_on c.args.q.0 c.args.turn.node c.args.turn.met (omega arith) (omega arith) (omega arith) next (λ e. c.if-field-eq1.false (c.field.ensures ∙ e))
