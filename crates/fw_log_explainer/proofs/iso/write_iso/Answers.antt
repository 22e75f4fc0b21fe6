use Rattle.std.proofs.Common.{Bool, List, ℕ, ◌++◌, ◌∙◌, ◌%◌, ◌^◌, append_assoc, ap, sym, codes, take, arith}
use Rattle.std.specs.Option.{is_some}
use Rattle.fw_log_names.specs.Names.{format_name}
use Rattle.fw_text.specs.Texts.{hex}
use Rattle.fw_log_explain.specs.Lines.{block_word, format_text, iso_text, stream_text}
use Rattle.fw_log_explainer.proofs.JoinLaws.{after_row, one_more, parts_of_iso}
use Rattle.fw_log_explainer.proofs.iso.write_iso.Goals as goal

pub returns : goal.returns
unfolding iso_text
returns c =
    let row : List ℕ = take c.args.size c.args.row.now in
    let p = c.args.p.now in
    let stream : List ℕ = stream_text p in
    let format : List ℕ = c.in_ok-words.words ++ hex 4 (p.cip.fdf % 2 ^ 16) in
    let last : List ℕ = block_word (is_some p.block) ++ codes "\n" in (
      omega (arith, c.write_presence.ensures.end),
      one_more row (stream ++ format) last _ _
          (one_more row stream format _ _ (after_row row stream _ _ c.write_cycle-at.ensures.text c.write_stream-at.ensures.text) c.write_format-at.ensures.text)
          (c.write_presence.ensures.text ∙ ap (λ (b : Bool). take c.write_format-at.result c.write_format-at.new.out ++ (block_word b ++ codes "\n")) c.is_some.ensures)
          ∙ ap (λ (l : List ℕ). row ++ (stream ++ l ++ last)) c.in_ok-words.ensures
          ∙ ap (λ (l : List ℕ). row ++ l) (parts_of_iso stream (codes " ") (format_text (format_name p.cip) p.cip) (block_word (is_some p.block)) (codes "\n")),
    )
