use Rattle.std.proofs.Common.{◌≡◌, ◌++◌, ◌∙◌, List, ℕ, codes, decimal, ap}
use Rattle.std.proofs.lemmas.Result.{on_ok_weaker}
use Rattle.fw_words.specs.Quadlet.{field}
use Rattle.fw_log_entry.specs.declared.entry.Entry.TheVariants.{Async}
use Rattle.fw_log_text.specs.Line.{entry_line}
use Rattle.fw_log_text.proofs.PacketLaws.{at_most, code_in, line_is}
use Rattle.fw_log_text.proofs.lines.Lines.put_packet_line.Goals as goal

pub put_line-requires : goal.put_line-requires
put_line-requires c = at_most c.requires.packet c.args.bytes.now c.requires.spells

pub returns : goal.returns
returns c p s =
    let prefix : c.of_cycle.result ≡ decimal c.args.cycle ++ codes " " = c.of_cycle.ensures ∙ c.set.ensures in
    let word = c.word_by_code-word.ensures p (c.field.ensures ∙ (ap (λ (q : ℕ). field q 24 27) c.quadlet_at.ensures.value ∙ code_in p c.args.bytes.now s)) in
    let line = line_is c.args.cycle p c.args.bytes.now c.of_cycle.result c.word_by_code-word.result s prefix word in
    on_ok_weaker c.put_line.result (λ e. e ∙ ap (λ (l : List ℕ). c.self.inside.text ++ l) line
    ∙ ap (λ (t : List ℕ). t ++ entry_line (record { cycle = c.args.cycle; what = Async p })) c.self.view_is) c.put_line.ensures
