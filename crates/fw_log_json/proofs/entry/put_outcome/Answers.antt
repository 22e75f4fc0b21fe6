use Rattle.fw_log_json.proofs.Common.{on_ok_weaker, then, counted, coded}
use Rattle.fw_log_json.proofs.entry.put_outcome.Goals as goal

pub returns : goal.returns
returns c =
    let t2 = then _ _ _ _ _ (coded _ _ _ _ _ _ _ _ c.from.ensures c.outcome_name.ensures c.in_ok-put_code.ensures) (counted _ _ _ _ _ c.from-2.ensures c.in_ok-put_count.ensures) in
    let t3 = then _ _ _ _ _ t2 (counted _ _ _ _ _ c.from-3.ensures c.in_ok-put_count-2.ensures) in
    on_ok_weaker c.put_eight.result (λ piece. then _ _ _ _ _ t3 piece) c.put_eight.ensures
