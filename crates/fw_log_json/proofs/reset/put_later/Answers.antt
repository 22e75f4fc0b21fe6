use Rattle.fw_log_json.proofs.Common.{on_ok_weaker, then, counted}
use Rattle.fw_log_json.proofs.reset.put_later.Goals as goal

pub returns : goal.returns
returns c =
    let t1 = counted _ _ _ _ _ c.from.ensures c.in_ok-put_count.ensures in
    let t2 = then _ _ _ _ _ t1 c.in_ok-put_number_or_null.ensures in
    let t3 = then _ _ _ _ _ t2 (counted _ _ _ _ _ c.from-2.ensures c.in_ok-put_count-2.ensures) in
    on_ok_weaker c.put_lists.result (λ piece. then _ _ _ _ _ t3 piece) c.put_lists.ensures
