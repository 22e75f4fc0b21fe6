use Rattle.std.proofs.Common.{codes}
use Rattle.fw_trace_names.specs.Names.{device_text}
use Rattle.fw_trace_lines.specs.Told.{missing_text}
use Rattle.fw_trace_names.proofs.LoopLaws.{then_put}
use Rattle.fw_trace_lines.proofs.events.put_missing.Goals as goal

pub returns : goal.returns
unfolding missing_text
returns c =
    let said = device_text c.args.names.now c.args.device in
    then_put c.put_device.result c.args.text.now.items c.put_word.new.text.items c.put_device.new.text.items (codes ", missing device ") said c.in_ok-put_word.ensures c.put_device.ensures
