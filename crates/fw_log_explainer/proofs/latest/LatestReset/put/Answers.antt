use Rattle.std.proofs.Common.{◌≡◌, ◌++◌, ◌∙◌, List, ℕ, ap, refl}
use Rattle.std.proofs.lemmas.Result.{on_ok_weaker}
use Rattle.fw_log_explain.proofs.LoopLaws.{stepped}
use Rattle.fw_log_explainer.proofs.latest.LatestReset.put.Goals as goal

pub returns : goal.returns
returns c =
    let same : c.deref.result.now ≡ c.args.self.now = c.deref.ensures.value ∙ c.self.view_is in
    on_ok_weaker c.put_text.result
    (λ piece. stepped _ _ _ _ _ _ c.in_ok-put_epoch.ensures (piece ∙ ap (λ (t : List ℕ). c.put_epoch.new.text.items ++ t) same) refl)
    c.put_text.ensures
