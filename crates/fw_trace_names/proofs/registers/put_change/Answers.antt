use Rattle.std.proofs.Common.{◌++◌, codes, refl}
use Rattle.fw_trace_names.specs.Names.{holder_text}
use Rattle.fw_trace_names.specs.Registers.{holder_told}
use Rattle.fw_trace_names.proofs.LoopLaws.{stepped, then_put}
use Rattle.fw_trace_names.proofs.registers.put_change.Goals as goal

pub returns : goal.returns
unfolding holder_told
returns c =
    let before = c.args.text.now.items in
    let word = codes ", bus manager " in
    let old = holder_text c.args.names.now c.args.old in
    let new = holder_text c.args.names.now c.args.new in
    let two = stepped before c.put_word.new.text.items c.put_holder.new.text.items word old (word ++ old) c.in_ok-put_word.ensures c.in_ok-put_holder.ensures refl in
    let three = stepped before c.put_holder.new.text.items c.put_word-2.new.text.items (word ++ old) (codes " to ") (word ++ old ++ codes " to ") two c.in_ok-put_word-2.ensures refl in
    then_put c.put_holder-2.result before c.put_word-2.new.text.items c.put_holder-2.new.text.items (word ++ old ++ codes " to ") new three c.put_holder-2.ensures
