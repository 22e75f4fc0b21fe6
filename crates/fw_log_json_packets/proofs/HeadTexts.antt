-- The texts of heads that are put together beforehand.
use Rattle.std.proofs.Common.{◌≡◌, ◌++◌, codes, decimal, ℕ, List, arith, ap, refl, sym, ◌∙◌, append_assoc}
use Rattle.fw_async.specs.declared.packet.Head.{Head}
use Rattle.fw_log_names.specs.Names.{retry_name}
use Rattle.fw_text.specs.Texts.{hex}
use Rattle.fw_log_json_packets.specs.Values.{code, field, quoted}
use Rattle.fw_log_json_packets.specs.Packets.{head_fields}
use Rattle.fw_log_json_packets.specs.Usual.{IsUsualHead}
use Rattle.fw_log_json_packets.proofs.Joins.{then, one_text, digit_field, value_after}

-- the usual retry code and priority
pub usual : (before : List ℕ) → before ++ codes ",\"retry\":1,\"retry_name\":\"retry_x\",\"priority\":0"
    ≡ before ++ code (codes ",\"retry\":") 1 (codes ",\"retry_name\":") (retry_name 1) ++ field (codes ",\"priority\":") (decimal 0)
usual before =
    let retry : List ℕ = codes ",\"retry\":1,\"retry_name\":\"retry_x\"" in
    let priority : List ℕ = codes ",\"priority\":0" in
    let first : before ++ retry ≡ before ++ code (codes ",\"retry\":") 1 (codes ",\"retry_name\":") (retry_name 1) =
    one_text before (before ++ retry) (codes ",\"retry\":") 1 (codes ",\"retry_name\":") (codes "retry_x") (omega arith) refl in
    let second : priority ≡ field (codes ",\"priority\":") (decimal 0) = digit_field (codes ",\"priority\":") 0 (omega arith) in
    sym (append_assoc before retry priority) ∙ ap (λ (t : List ℕ). t ++ priority) first
    ∙ ap (λ (t : List ℕ). before ++ code (codes ",\"retry\":") 1 (codes ",\"retry_name\":") (retry_name 1) ++ t) second

-- the head of a usual packet
pub head_written : (before first second last : List ℕ) (h : Head) → IsUsualHead h
    → first ≡ before ++ (field (codes ",\"dst_id\":") (quoted (hex 4 h.destination)) ++ codes ",\"tlabel\":") → second ≡ first ++ decimal h.tl
    → last ≡ second ++ (codes ",\"retry\":1,\"retry_name\":\"retry_x\",\"priority\":0" ++ field (codes ",\"src_id\":") (quoted (hex 4 h.source)))
    → last ≡ before ++ head_fields h
head_written before first second last h is e f g =
    let order : List ℕ = codes ",\"retry\":1,\"retry_name\":\"retry_x\",\"priority\":0" in
    let addressee : List ℕ = field (codes ",\"dst_id\":") (quoted (hex 4 h.destination)) ++ field (codes ",\"tlabel\":") (decimal h.tl) in
    let retry : List ℕ = code (codes ",\"retry\":") 1 (codes ",\"retry_name\":") (retry_name 1) in
    let priority : List ℕ = field (codes ",\"priority\":") (decimal 0) in
    let source : List ℕ = field (codes ",\"src_id\":") (quoted (hex 4 h.source)) in
    let labelled : second ≡ before ++ addressee = value_after before first second (field (codes ",\"dst_id\":") (quoted (hex 4 h.destination))) (codes ",\"tlabel\":") (decimal h.tl) e f in
    let tried : second ++ retry ≡ before ++ (addressee ++ retry) = then before second (second ++ retry) addressee retry labelled refl in
    let ordered : second ++ order ≡ before ++ (addressee ++ retry ++ priority) =
    usual second ∙ then before (second ++ retry) (second ++ retry ++ priority) (addressee ++ retry) priority tried refl in
    let all : last ≡ before ++ (addressee ++ retry ++ priority ++ source) =
    then before (second ++ order) last (addressee ++ retry ++ priority) source ordered (g ∙ sym (append_assoc second order source)) in
    all ∙ ap (λ (rt : ℕ). before ++ (addressee ++ code (codes ",\"retry\":") rt (codes ",\"retry_name\":") (retry_name rt) ++ priority ++ source)) (sym is.1)
    ∙ ap (λ (pri : ℕ). before ++ (addressee ++ code (codes ",\"retry\":") h.rt (codes ",\"retry_name\":") (retry_name h.rt) ++ field (codes ",\"priority\":") (decimal pri) ++ source)) (sym is.2)
