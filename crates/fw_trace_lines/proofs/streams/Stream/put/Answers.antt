use Rattle.std.proofs.Common.{◌≡◌, ◌++◌, ℕ, codes, decimal, subst, refl, append_assoc}
use Rattle.fw_trace_names.specs.Names.{node_text}
use Rattle.fw_trace_lines.specs.Streams.{stream_text, amounts_text}
use Rattle.fw_trace_names.proofs.LoopLaws.{stepped, then_put}
use Rattle.fw_trace_lines.proofs.streams.Stream.put.Goals as goal

pub returns : goal.returns
unfolding stream_text
returns c =
    let before = c.args.text.now.items in
    let node = node_text c.args.names.now c.args.self.now.sender in
    let word = codes " on channel " in
    let channel = decimal c.args.channel in
    let first = subst (λ (n : ℕ). c.put_node.new.text.items ≡ before ++ node_text c.args.names.now n) c.from.ensures c.in_ok-put_node.ensures in
    let second = subst (λ (n : ℕ). c.put_part.new.text.items ≡ c.put_node.new.text.items ++ (codes " on channel " ++ decimal n)) c.from-2.ensures c.in_ok-put_part.ensures in
    let two = stepped before c.put_node.new.text.items c.put_part.new.text.items node (word ++ channel) (node ++ word ++ channel) first second (append_assoc node word channel) in
    let three = stepped before c.put_part.new.text.items c.put_word.new.text.items (node ++ word ++ channel) (codes ": ") (node ++ word ++ channel ++ codes ": ") two c.in_ok-put_word.ensures refl in
    then_put c.put_amounts.result before c.put_word.new.text.items c.put_amounts.new.text.items (node ++ word ++ channel ++ codes ": ") (amounts_text c.args.self.now) three c.put_amounts.ensures
