use Rattle.std.proofs.Common.{refl}
use Rattle.std.proofs.lemmas.Result.{on_ok_weaker}
use Rattle.fw_log_explain.specs.Tails.{reading_text}
use Rattle.fw_log_explain.proofs.LoopLaws.{stepped}
use Rattle.fw_log_explain.proofs.tail.put_asked.Goals as goal

pub returns : goal.returns
unfolding reading_text
returns c = on_ok_weaker c.put_at.result (λ piece. stepped _ _ _ _ _ _ c.in_ok-put_word.ensures piece refl) c.put_at.ensures
