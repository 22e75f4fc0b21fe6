use Rattle.std.proofs.Common.{refl}
use Rattle.std.proofs.lemmas.Result.{on_ok_weaker}
use Rattle.fw_log_explain.specs.Tails.{write_text}
use Rattle.fw_log_explain.proofs.LoopLaws.{stepped}
use Rattle.fw_log_explain.proofs.tail.put_write.Goals as goal

pub returns : goal.returns
unfolding write_text
returns c = on_ok_weaker c.put_written_quadlet.result (λ piece. stepped _ _ _ _ _ _ c.in_ok-put_word.ensures piece refl) c.put_written_quadlet.ensures
