use Rattle.std.proofs.Common.{◌≡◌, ◌++◌, codes, length, refl, arith}
use Rattle.fw_trace_names.specs.CausedLines.{at_cycle}
use Rattle.fw_trace_names.specs.Names.{id_text}
use Rattle.fw_trace_requests.specs.Answers.{asked_text}
use Rattle.fw_trace_requests.specs.Carried.{frame_told}
use Rattle.fw_trace_requests.proofs.RowLaws.{prefix_is, told_is, held_same}
use Rattle.fw_trace_requests.proofs.made.MadeLine.hold_bare.Goals as goal

pub returns : goal.returns
returns c =
    let n = c.args.names.now in
    let q = c.args.q in
    let prefix = at_cycle c.args.cycle ++ id_text n q.source in
    let told = id_text n q.destination ++ codes " " ++ asked_text q ++ frame_told c.args.carried in
    let line = c.set_prefix.new.line.items in
    let with_arrow = c.put_word.new.text.items in
    let whole = c.put_bare.new.line.items in
    let end : c.len-arrow.result ≡ length line = omega (arith, c.len-arrow.ensures, c.set_prefix.new.line.ok.0) in
    held_same q _ _ _ _ _ _
    (prefix_is prefix (codes " -> ") told line with_arrow whole c.len-arrow.result c.in_ok-set_prefix.ensures end c.in_ok-put_word.ensures c.in_ok-put_bare.ensures)
    (told_is (codes " -> ") told line with_arrow whole c.len-arrow.result refl end c.in_ok-put_word.ensures c.in_ok-put_bare.ensures)
    c.in_ok-set_changes.ensures
