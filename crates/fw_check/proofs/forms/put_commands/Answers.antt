use Rattle.std.proofs.lemmas.Result.{on_ok_weaker}
use Rattle.fw_check.proofs.Joins.{then}
use Rattle.fw_check.proofs.forms.put_commands.Goals as goal

pub returns : goal.returns
returns c = on_ok_weaker c.put_word-2.result (λ piece. then _ _ _ _ _ c.in_ok-put_word.ensures piece) c.put_word-2.ensures
