use Rattle.std.proofs.Common.{refl, ◌++◌}
use Rattle.std.specs.Prelude.{codes}
use Rattle.fw_log_explain.specs.Lines.{rcode_text, at_text}
use Rattle.std.proofs.lemmas.Result.{on_ok_weaker}
use Rattle.fw_log_explain.specs.Tails.{failed_text}
use Rattle.fw_log_explain.proofs.LoopLaws.{stepped}
use Rattle.fw_log_explain.proofs.tail.put_failed.Goals as goal

pub returns : goal.returns
unfolding failed_text
returns c =
    on_ok_weaker c.put_at.result (λ piece. stepped _ _ _ (codes " read_quadlet_response" ++ rcode_text c.args.rcode) (at_text c.args.place) _
    (stepped _ _ _ (codes " read_quadlet_response") (rcode_text c.args.rcode)
    (codes " read_quadlet_response" ++ rcode_text c.args.rcode) c.in_ok-put_word.ensures c.in_ok-put_rcode.ensures refl) piece refl) c.put_at.ensures
