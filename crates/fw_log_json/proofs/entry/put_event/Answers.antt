use Rattle.fw_log_json.proofs.Common.{ℕ, Option, field, number_value, on_ok_weaker, then, coded, moved}
use Rattle.fw_log_json.proofs.entry.put_event.Goals as goal

pub returns : goal.returns
returns c =
    let t2 = then _ _ _ _ _ (coded _ _ _ _ _ _ _ _ c.from.ensures c.event_name.ensures c.in_ok-put_code.ensures)
    (moved (λ (d : Option ℕ). field _ (number_value d)) _ _ _ _ c.device_of.ensures c.in_ok-put_number_or_null.ensures) in
    on_ok_weaker c.put_tape.result (λ piece. then _ _ _ _ _ t2 piece) c.put_tape.ensures
