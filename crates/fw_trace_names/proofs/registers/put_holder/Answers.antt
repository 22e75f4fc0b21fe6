use Rattle.std.proofs.Common.{codes}
use Rattle.fw_trace_names.specs.Names.{holder_text}
use Rattle.fw_trace_names.specs.Registers.{holder_is}
use Rattle.fw_trace_names.proofs.LoopLaws.{then_put}
use Rattle.fw_trace_names.proofs.registers.put_holder.Goals as goal

pub returns : goal.returns
unfolding holder_is
returns c =
    let said = holder_text c.args.names.now c.args.number in
    then_put c.put_holder.result c.args.text.now.items c.put_word.new.text.items c.put_holder.new.text.items (codes ", bus manager ") said c.in_ok-put_word.ensures c.put_holder.ensures
