use Rattle.std.proofs.Common.{◌<◌, length, arith}
use Rattle.fw_trace_names.specs.Names.{blank_device}
use Rattle.fw_trace_names.proofs.LoopLaws.{next_text, stepped}
use Rattle.fw_trace_names.proofs.naming.put_devices.Goals as goal

pub loop-i-preserved : goal.loop-i-preserved
loop-i-preserved c =
    let within : c.loop-i.i < length c.args.nodes.now = omega (arith, c.loop-i-test.true, c.loop-i.auto.i-end) in
    stepped _ _ _ _ _ _ c.loop-i.invariant c.in_ok-put_blank_device.ensures (next_text (blank_device c.args.names.now) c.args.nodes.now c.loop-i.i _ within)
