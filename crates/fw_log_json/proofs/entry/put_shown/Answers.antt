use Rattle.fw_log_json.proofs.Common.{ap, ℕ, ◌+◌, codes, hex, field, quoted, on_ok_weaker, then, counted, moved}
use Rattle.fw_csr.specs.declared.offset.TheConstants.{REGISTER_SPACE}
use Rattle.fw_log_json.proofs.entry.put_shown.Goals as goal

pub returns : goal.returns
returns c =
    let t2 = then _ _ _ _ _ (counted _ _ _ _ _ c.from.ensures c.in_ok-put_count.ensures)
    (moved (λ (n : ℕ). field (codes ",\"offset\":") (quoted (hex 12 n))) _ _ _ _ (ap (λ (k : ℕ). REGISTER_SPACE + k) c.from-2.ensures) c.in_ok-put_twelve.ensures) in
    on_ok_weaker c.put_eight.result (λ piece. then _ _ _ _ _ t2 piece) c.put_eight.ensures
