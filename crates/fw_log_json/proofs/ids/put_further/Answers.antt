use Rattle.fw_log_json.proofs.Common.{on_ok_weaker, then, counted}
use Rattle.fw_log_json.proofs.ids.put_further.Goals as goal

pub returns : goal.returns
returns c =
    let t2 = then _ _ _ _ _ (counted _ _ _ _ _ c.from.ensures c.in_ok-put_count.ensures) c.in_ok-put_flag.ensures in
    let t3 = then _ _ _ _ _ t2 (counted _ _ _ _ _ c.from-2.ensures c.in_ok-put_count-2.ensures) in
    let t4 = then _ _ _ _ _ t3 c.in_ok-put_flag-2.ensures in
    let t5 = then _ _ _ _ _ t4 c.in_ok-put_ports.ensures in
    on_ok_weaker c.put_word.result (λ piece. then _ _ _ _ _ t5 piece) c.put_word.ensures
