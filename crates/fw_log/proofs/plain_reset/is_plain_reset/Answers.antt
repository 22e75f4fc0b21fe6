use Rattle.fw_log.proofs.Common.{◌+◌, ◌*◌, take, arith, ap, sym, ◌∙◌, take_rest}
use Rattle.fw_log.specs.Plain.{are_of_nodes}
use Rattle.fw_log.proofs.PlainResetLaws.{reset_whole}
use Rattle.fw_log.proofs.plain_reset.is_plain_reset.Goals as goal

pub returns : goal.returns
returns c plain =
    let n = c.count_of-count.result in
    let there = sym c.has_nodes.ensures ∙ c.if-not-has_nodes.false in
    reset_whole c.args.body.now c.nodes_of-nodes.result n (λ i. omega (arith, c.type_inv.body i)) c.count_of-count.ensures.value there
    c.nodes_of-nodes.ensures.count (c.nodes_of-nodes.ensures.same ∙ ap (take (4 * n)) (take_rest c.args.body.now 8))
    (ap (λ q. are_of_nodes q n) (sym c.quadlet_at.ensures.value) ∙ sym c.are_of_nodes.ensures ∙ c.if-not-are_of_nodes.false)
    (rw (sym c.as_slice-rows.ensures.value) (c.rows_fit.ensures.0 c.if-not-rows_fit.false))
    (rw (sym c.as_slice-rows.ensures.value) (c.are_apart.ensures.0 c.if-not-are_apart.false))
    (rw (sym (take_rest c.args.body.now (8 + 4 * n))) (c.are_plain_ids.ensures plain))
