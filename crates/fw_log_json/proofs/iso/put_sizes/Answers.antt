use Rattle.fw_log_json.proofs.Common.{◌≡◌, ◌++◌, ◌∙◌, Bool, OnOk, codes, decimal, ℕ, List, ap, sym, subst, on_ok_weaker, field, counted}
use Rattle.fw_cip.specs.Iso.{bit}
use Rattle.fw_log_json_packets.proofs.IsoTexts.{usual_sizes}
use Rattle.fw_log_json.proofs.iso.put_sizes.Goals as goal

pub returns-then-has_usual_sizes : goal.returns-then-has_usual_sizes
returns-then-has_usual_sizes c =
    let size = c.has_usual_sizes.ensures.size c.if-has_usual_sizes.true in
    let none = c.has_usual_sizes.ensures.none c.if-has_usual_sizes.true in
    let P : ℕ → ℕ → ℕ → Bool → Type 0 = λ dbs fraction qpc sph. OnOk c.put_word.result (c.put_word.new.text.items ≡ c.args.text.now.items
    ++ field (codes ",\"dbs\":") (decimal dbs) ++ field (codes ",\"fn\":") (decimal fraction) ++ field (codes ",\"qpc\":") (decimal qpc) ++ field (codes ",\"sph\":") (decimal (bit sph))) in
    let h = c.args.c.now in
    subst (λ (n : ℕ). P n h.fraction h.qpc h.sph) (sym size.0) (subst (λ (n : ℕ). P 120 n h.qpc h.sph) (sym size.1)
    (subst (λ (n : ℕ). P 120 0 n h.sph) (sym none.0) (subst (λ (b : Bool). P 120 0 0 b) (sym none.1)
    (on_ok_weaker c.put_word.result (λ e. usual_sizes _ _ e) c.put_word.ensures))))

pub returns : goal.returns
returns c =
    let h = c.args.c.now in
    let t1 = counted _ _ _ _ _ c.from.ensures c.in_ok-put_count.ensures in
    let t2 = counted _ _ _ _ _ c.from-2.ensures c.in_ok-put_count-2.ensures ∙ ap (λ (t : List ℕ). t ++ field (codes ",\"fn\":") (decimal h.fraction)) t1 in
    let t3 = counted _ _ _ _ _ c.from-3.ensures c.in_ok-put_count-3.ensures ∙ ap (λ (t : List ℕ). t ++ field (codes ",\"qpc\":") (decimal h.qpc)) t2 in
    on_ok_weaker c.put_count-4.result
    (λ piece. counted _ _ _ _ _ c.bit.ensures piece ∙ ap (λ (t : List ℕ). t ++ field (codes ",\"sph\":") (decimal (bit h.sph))) t3) c.put_count-4.ensures
