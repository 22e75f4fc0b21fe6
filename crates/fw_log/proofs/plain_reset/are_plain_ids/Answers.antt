use Rattle.fw_log.proofs.Common.{◌-◌, length, take, drop, sym, ◌∙◌, take_rest}
use Rattle.std.proofs.lemmas.List.{nil_from_length}
use Rattle.fw_log.proofs.TestLaws.{equal}
use Rattle.fw_log.proofs.PlainResetLaws.{ids_step, ids_whole}
use Rattle.fw_log.proofs.plain_reset.are_plain_ids.Goals as goal

pub loop-rest-preserved : goal.loop-rest-preserved
loop-rest-preserved c =
    let rest = c.loop-rest.rest.now in
    ids_step c.args.bytes.now rest (take (length rest - 8) (drop 8 rest)) c.loop-rest.turn c.in-Some.next c.quadlet_at-q.result.0 c.quadlet_at.result.0
    c.loop-rest.invariant c.in-Some.ensures c.quadlet_at-q.ensures.back c.quadlet_at.ensures.back c.if-quadlet_at-q.false (take_rest rest 8)

pub returns-then-turn-eq0 : goal.returns-then-turn-eq0
returns-then-turn-eq0 c same =
    let none = nil_from_length c.loop-rest.rest.now (equal _ _ (sym c.is_empty.ensures ∙ c.if-not-is_empty.false)) in
    ids_whole c.args.bytes.now c.loop-rest.rest.now c.loop-rest.turn c.args.count c.loop-rest.invariant none c.if-turn-eq0.true (equal _ _ same) c.requires
