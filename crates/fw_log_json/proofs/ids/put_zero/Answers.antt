use Rattle.fw_log_json.proofs.Common.{on_ok_weaker, then, counted, coded}
use Rattle.fw_log_json.proofs.ids.put_zero.Goals as goal

pub returns : goal.returns
returns c =
    let t2 = then _ _ _ _ _ (counted _ _ _ _ _ c.from.ensures c.in_ok-put_count.ensures) c.in_ok-put_flag.ensures in
    let t3 = then _ _ _ _ _ t2 c.in_ok-put_flag-2.ensures in
    let t4 = then _ _ _ _ _ t3 (counted _ _ _ _ _ c.from-2.ensures c.in_ok-put_count-2.ensures) in
    let t5 = then _ _ _ _ _ t4 (coded _ _ _ _ _ _ _ _ c.from-3.ensures c.speed_name-speed.ensures c.in_ok-put_code.ensures) in
    let t6 = then _ _ _ _ _ t5 (counted _ _ _ _ _ c.from-4.ensures c.in_ok-put_count-3.ensures) in
    let t7 = then _ _ _ _ _ t6 c.in_ok-put_flag-3.ensures in
    let t8 = then _ _ _ _ _ t7 (counted _ _ _ _ _ c.from-5.ensures c.in_ok-put_count-4.ensures) in
    let t9 = then _ _ _ _ _ t8 c.in_ok-put_flag-4.ensures in
    let t10 = then _ _ _ _ _ t9 c.in_ok-put_flag-5.ensures in
    let t11 = then _ _ _ _ _ t10 c.in_ok-put_ports.ensures in
    on_ok_weaker c.put_word.result (λ piece. then _ _ _ _ _ t11 piece) c.put_word.ensures
