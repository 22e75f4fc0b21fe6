use Rattle.fw_log_json.proofs.Common.{◌++◌, ◌∙◌, ℕ, List, ap, on_ok_weaker, then}
use Rattle.fw_log_json.proofs.digits.put_two.Goals as goal

pub returns : goal.returns
returns c =
    let first = c.in_ok-put_text.ensures ∙ ap (λ (t : List ℕ). c.args.text.now.items ++ t) c.digits_of.ensures in
    on_ok_weaker c.put_text-2.result (λ piece. then _ _ _ _ _ first (piece ∙ ap (λ (t : List ℕ). c.put_text.new.text.items ++ t) c.digits_of-2.ensures)) c.put_text-2.ensures
