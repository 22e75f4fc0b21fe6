use Rattle.fw_log_json.proofs.Common.{◌++◌, refl, ℕ, List, codes, decimal, hex, field, quoted, on_ok_weaker, then, counted}
use Rattle.fw_log_json.proofs.iso.put_cip.Goals as goal

pub returns : goal.returns
returns c =
    let h = c.args.c.now in
    let dbs : List ℕ = field (codes ",\"dbs\":") (decimal h.dbs) in
    let fraction : List ℕ = field (codes ",\"fn\":") (decimal h.fraction) in
    let qpc : List ℕ = field (codes ",\"qpc\":") (decimal h.qpc) in
    let start : List ℕ = c.put_count.new.text.items in
    let t1 = counted _ _ _ _ _ c.from.ensures c.in_ok-put_count.ensures in
    let t2 = then _ _ (start ++ dbs) _ dbs t1 refl in
    let t3 = then _ _ (start ++ dbs ++ fraction) _ fraction t2 refl in
    let t4 = then _ _ (start ++ dbs ++ fraction ++ qpc) _ qpc t3 refl in
    let t5 = then _ _ _ _ _ t4 c.in_ok-put_sizes.ensures in
    let t6 = then _ _ _ _ _ t5 (counted _ _ _ _ _ c.from-2.ensures c.in_ok-put_count-2.ensures) in
    let format : List ℕ = field (codes ",\"fmt\":") (decimal h.fmt) in
    let bits : List ℕ = field (codes ",\"fdf\":") (quoted (hex 6 h.fdf)) in
    let next : List ℕ = c.put_count-2.new.text.items in
    let t7 = then _ _ (next ++ format) _ format t6 refl in
    let t8 = then _ _ (next ++ format ++ bits) _ bits t7 refl in
    on_ok_weaker c.put_format.result (λ piece. then _ _ _ _ _ t8 piece) c.put_format.ensures
