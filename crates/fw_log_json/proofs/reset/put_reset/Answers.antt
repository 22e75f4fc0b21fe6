use Rattle.fw_log_json.proofs.Common.{◌++◌, ◌∙◌, List, ℕ, ap, on_ok_weaker, then, counted}
use Rattle.fw_log_json.proofs.LaterLaws.{whole_fields}
use Rattle.fw_log_json.proofs.reset.put_reset.Goals as goal

pub returns : goal.returns
returns c =
    let first = counted _ _ _ _ _ c.from.ensures c.in_ok-put_count.ensures in
    on_ok_weaker c.put_later.result
    (λ piece. then _ _ _ _ _ first piece ∙ ap (λ (t : List ℕ). c.args.text.now.items ++ t) (whole_fields c.args.r.now))
    c.put_later.ensures
