use Rattle.fw_log_json.proofs.Common.{◌≡◌, ◌++◌, OnOk, codes, decimal, ℕ, List, arith, ap, refl, sym, ◌∙◌, subst, append_assoc, on_ok_weaker, retry_name, hex, code, field, quoted, counted}
use Rattle.fw_log_json_packets.proofs.HeadTexts.{usual}
use Rattle.fw_log_json.proofs.head.put_sender.Goals as goal

pub returns-then-is_usual : goal.returns-then-is_usual
returns-then-is_usual c =
    let before : List ℕ = c.args.text.now.items in
    let is = c.is_usual.ensures c.if-is_usual.true in
    let order : List ℕ = codes ",\"retry\":1,\"retry_name\":\"retry_x\",\"priority\":0" in
    let source : List ℕ = field (codes ",\"src_id\":") (quoted (hex 4 c.args.h.now.source)) in
    let P : ℕ → ℕ → Type 0 = λ rt pri. OnOk c.put_text.result (c.put_text.new.text.items
    ≡ before ++ code (codes ",\"retry\":") rt (codes ",\"retry_name\":") (retry_name rt) ++ field (codes ",\"priority\":") (decimal pri) ++ source) in
    subst (λ (rt : ℕ). P rt c.args.h.now.pri) (sym is.0) (subst (λ (pri : ℕ). P 1 pri) (sym is.1)
    (on_ok_weaker c.put_text.result
    (λ e. e ∙ ap (λ (t : List ℕ). before ++ t) c.usual_sender.ensures ∙ sym (append_assoc before order source) ∙ ap (λ (t : List ℕ). t ++ source) (usual before))
    c.put_text.ensures))

pub returns : goal.returns
returns c =
    let h = c.args.h.now in
    let source : List ℕ = field (codes ",\"src_id\":") (quoted (hex 4 h.source)) in
    let t2 = counted _ _ _ _ _ c.from.ensures c.in_ok-put_count.ensures ∙ ap (λ (t : List ℕ). t ++ field (codes ",\"priority\":") (decimal h.pri)) c.in_ok-put_retry.ensures in
    on_ok_weaker c.put_text-2.result
    (λ piece. piece ∙ ap (λ (t : List ℕ). c.put_count.new.text.items ++ t) c.sender.ensures ∙ ap (λ (t : List ℕ). t ++ source) t2) c.put_text-2.ensures
