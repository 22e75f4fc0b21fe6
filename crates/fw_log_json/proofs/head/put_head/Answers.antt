use Rattle.fw_log_json.proofs.Common.{◌≡◌, ◌++◌, codes, decimal, ℕ, List, ap, refl, ◌∙◌, on_ok_weaker, retry_name, hex, code, field, quoted, then}
use Rattle.fw_log_json_packets.proofs.Joins.{value_after}
use Rattle.fw_log_json.proofs.head.put_head.Goals as goal

pub returns : goal.returns
returns c =
    let h = c.args.h.now in
    let retry : List ℕ = code (codes ",\"retry\":") h.rt (codes ",\"retry_name\":") (retry_name h.rt) in
    let priority : List ℕ = field (codes ",\"priority\":") (decimal h.pri) in
    let start : List ℕ = c.put_number.new.text.items in
    let t1 = c.in_ok-put_text.ensures ∙ ap (λ (t : List ℕ). c.args.text.now.items ++ t) c.addressee.ensures in
    let t2 = value_after _ _ _ _ _ _ t1 (c.in_ok-put_number.ensures ∙ ap (λ (n : ℕ). c.put_text.new.text.items ++ decimal n) c.from.ensures) in
    let t3 = then _ _ (start ++ retry) _ retry t2 refl in
    let t4 = then _ _ (start ++ retry ++ priority) _ priority t3 refl in
    on_ok_weaker c.put_sender.result (λ piece. then _ _ _ _ _ t4 piece) c.put_sender.ensures
