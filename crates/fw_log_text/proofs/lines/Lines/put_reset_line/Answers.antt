use Rattle.std.proofs.Common.{◌∙◌}
use Rattle.std.proofs.lemmas.Result.{on_ok_weaker}
use Rattle.fw_log_text.proofs.JoinLaws.{then}
use Rattle.fw_log_text.proofs.lines.Lines.put_reset_line.Goals as goal

pub returns : goal.returns
returns c r f s =
    let prefix = c.self.view_is ∙ c.in_ok-put_cycle.ensures in
    let reset = then _ _ _ _ _ prefix (c.in_ok-put_reset_bytes.ensures r f s) in
    on_ok_weaker c.put_word.result (λ piece. then _ _ _ _ _ reset piece) c.put_word.ensures
