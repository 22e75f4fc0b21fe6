use Rattle.std.proofs.Common.{◌<◌, length, arith}
use Rattle.fw_log_explain.specs.Resets.{id_text}
use Rattle.fw_log_explain.proofs.LoopLaws.{next_id, stepped}
use Rattle.fw_log_explain.proofs.reset.put_ids.Goals as goal

pub loop-i-preserved : goal.loop-i-preserved
loop-i-preserved c =
    let within : c.loop-i.i < length c.args.ids.now = omega (arith, c.loop-i-test.true, c.loop-i.auto.i-end) in
    stepped _ _ _ _ _ _ c.loop-i.invariant c.in_ok-put_id.ensures (next_id (id_text c.args.rows.now) c.args.ids.now c.loop-i.i _ within)
