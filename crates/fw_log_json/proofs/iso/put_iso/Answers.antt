use Rattle.fw_log_json.proofs.Common.{◌++◌, ◌∙◌, ℕ, List, codes, ap, hex_bytes, field, quoted, on_ok_weaker, then, counted, moved}
use Rattle.fw_log_json.proofs.iso.put_iso.Goals as goal

pub returns : goal.returns
returns c =
    let t2 = c.in_ok-put_word.ensures ∙ ap (λ (t : List ℕ). c.args.text.now.items ++ t) c.opening.ensures in
    let t3 = then _ _ _ _ _ t2 (counted _ _ _ _ _ c.from.ensures c.in_ok-put_count.ensures) in
    let t4 = then _ _ _ _ _ t3 c.in_ok-put_iso_code.ensures in
    let t5 = then _ _ _ _ _ t4 (counted _ _ _ _ _ c.from-2.ensures c.in_ok-put_count-2.ensures) in
    let t6 = then _ _ _ _ _ t5 c.in_ok-put_cip.ensures in
    on_ok_weaker c.put_data.result (λ piece. then _ _ _ _ _ t6 (moved (λ (b : List ℕ). field (codes ",\"data\":") (quoted (hex_bytes b))) _ _ _ _ c.block_bytes.ensures piece)) c.put_data.ensures
