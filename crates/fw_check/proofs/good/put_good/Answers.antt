use Rattle.std.proofs.Common.{ℕ, List, ◌++◌, codes}
use Rattle.std.proofs.lemmas.Result.{on_ok_weaker}
use Rattle.fw_check.specs.Goods.{counted}
use Rattle.fw_check.proofs.Joins.{moved, then}
use Rattle.fw_check.proofs.good.put_good.Goals as goal

pub returns : goal.returns
returns c =
    let old : List ℕ = c.args.text.now.items in
    let comma : List ℕ = codes ", " in
    let n = c.args.counts.now in
    let p1 = codes "good: " ++ counted n.commands (codes "command") in
    let p2 = p1 ++ comma ++ counted n.devices (codes "device") in
    let p3 = p2 ++ comma ++ counted n.resets (codes "bus reset") in
    let p4 = p3 ++ comma ++ counted n.half_steps (codes "half step") in
    let p5 = p4 ++ comma ++ counted n.written (codes "written cycle") in
    let t1 = then old _ _ (codes "good: ") _ c.in_ok-put_word.ensures (moved (λ (n : ℕ). counted n (codes "command")) _ _ _ _ c.from.ensures c.in_ok-put_count.ensures) in
    let t2 = then old _ _ (p1 ++ comma) _ (then old _ _ p1 comma t1 c.in_ok-put_word-2.ensures)
    (moved (λ (n : ℕ). counted n (codes "device")) _ _ _ _ c.from-2.ensures c.in_ok-put_count-2.ensures) in
    let t3 = then old _ _ (p2 ++ comma) _ (then old _ _ p2 comma t2 c.in_ok-put_word-3.ensures)
    (moved (λ (n : ℕ). counted n (codes "bus reset")) _ _ _ _ c.from-3.ensures c.in_ok-put_count-3.ensures) in
    let t4 = then old _ _ (p3 ++ comma) _ (then old _ _ p3 comma t3 c.in_ok-put_word-4.ensures)
    (moved (λ (n : ℕ). counted n (codes "half step")) _ _ _ _ c.from-4.ensures c.in_ok-put_count-4.ensures) in
    let t5 = then old _ _ (p4 ++ comma) _ (then old _ _ p4 comma t4 c.in_ok-put_word-5.ensures)
    (moved (λ (n : ℕ). counted n (codes "written cycle")) _ _ _ _ c.from-5.ensures c.in_ok-put_count-5.ensures) in
    let t6 = then old _ _ (p5 ++ codes ", up to cycle ") _ (then old _ _ p5 (codes ", up to cycle ") t5 c.in_ok-put_word-6.ensures) c.in_ok-put_number.ensures in
    on_ok_weaker c.put_word-7.result (λ piece. then old _ _ _ (codes "\n") t6 piece) c.put_word-7.ensures
