use Rattle.std.proofs.Common.{refl, ◌++◌}
use Rattle.std.specs.Prelude.{codes}
use Rattle.fw_log_registers.specs.Words.{word_text}
use Rattle.fw_log_explain.specs.Lines.{rcode_text, at_text}
use Rattle.std.proofs.lemmas.Result.{on_ok_weaker}
use Rattle.fw_log_explain.specs.Tails.{brought_text}
use Rattle.fw_log_explain.proofs.LoopLaws.{stepped}
use Rattle.fw_log_explain.proofs.tail.put_brought.Goals as goal

pub returns : goal.returns
unfolding brought_text
returns c =
    on_ok_weaker c.append_register_word.result
    (λ piece. stepped _ _ _ (codes " read_quadlet_response" ++ rcode_text 0 ++ at_text c.args.place) (word_text c.args.place c.args.value) _
    (stepped _ _ _ (codes " read_quadlet_response" ++ rcode_text 0) (at_text c.args.place) (codes " read_quadlet_response" ++ rcode_text 0 ++ at_text c.args.place)
    (stepped _ _ _ (codes " read_quadlet_response") (rcode_text 0)
    (codes " read_quadlet_response" ++ rcode_text 0) c.in_ok-put_word.ensures c.in_ok-put_rcode.ensures refl) c.in_ok-put_at.ensures refl) piece refl)
    c.append_register_word.ensures
