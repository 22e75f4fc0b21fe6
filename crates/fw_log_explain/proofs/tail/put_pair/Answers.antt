use Rattle.std.proofs.Common.{◌++◌, ◌∙◌, List, ℕ, ap, refl}
use Rattle.std.proofs.lemmas.Result.{on_ok_weaker}
use Rattle.fw_log_explain.specs.Lines.{at_text, written_block}
use Rattle.fw_log_explain.specs.Tails.{pair_text}
use Rattle.fw_log_explain.proofs.LoopLaws.{stepped}
use Rattle.fw_log_explain.proofs.tail.put_pair.Goals as goal

pub returns : goal.returns
unfolding pair_text
returns c =
    on_ok_weaker c.put_written_block.result
    (λ piece. stepped _ _ _ _ _ _ c.in_ok-put_word.ensures (piece ∙ ap (λ (b : List ℕ). c.put_word.new.text.items ++ (at_text c.args.place ++ written_block c.args.place b)) c.pair_bytes.ensures) refl)
    c.put_written_block.ensures
