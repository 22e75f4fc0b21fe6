use Rattle.fw_log_json.proofs.Common.{on_ok_weaker, then, counted, coded}
use Rattle.fw_log_json.proofs.reset.put_node_object.Goals as goal

pub returns : goal.returns
returns c =
    let t2 = then _ _ _ _ _ c.in_ok-put_count.ensures (counted _ _ _ _ _ c.from.ensures c.in_ok-put_count-2.ensures) in
    let t3 = then _ _ _ _ _ t2 (counted _ _ _ _ _ c.from-2.ensures c.in_ok-put_count-3.ensures) in
    let t4 = then _ _ _ _ _ t3 (counted _ _ _ _ _ c.from-3.ensures c.in_ok-put_count-4.ensures) in
    let t5 = then _ _ _ _ _ t4 (coded _ _ _ _ _ _ _ _ c.from-4.ensures c.device_name-kind.ensures c.in_ok-put_code.ensures) in
    on_ok_weaker c.put_word.result (λ piece. then _ _ _ _ _ t5 piece) c.put_word.ensures
