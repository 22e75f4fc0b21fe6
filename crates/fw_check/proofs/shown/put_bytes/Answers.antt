use Rattle.fw_check.specs.Shown.{shown_byte}
use Rattle.fw_check.proofs.ListLaws.{mapped_on}
use Rattle.fw_check.proofs.shown.put_bytes.Goals as goal

pub loop-b-preserved : goal.loop-b-preserved
loop-b-preserved c =
    mapped_on shown_byte c.args.bytes.now c.loop-b.text.items c.push.new.self.items _ c.loop-b.b-index c.shown_byte.result
    c.loop-b-test.true c.shown_byte.ensures c.loop-b.invariant c.in_ok-push.ensures.items
