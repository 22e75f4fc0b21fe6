-- The texts of packets of the usual kinds, put together from pieces.
use Rattle.std.proofs.Common.{◌≡◌, ◌++◌, codes, List, ℕ, Some, ap, sym, ◌∙◌, append_assoc}
use Rattle.fw_async.specs.Heads.{head_of}
use Rattle.fw_async.specs.declared.packet.Packet.{Packet}
use Rattle.fw_log_names.specs.Names.{tcode, tcode_name}
use Rattle.fw_log_json_packets.specs.Values.{code}
use Rattle.fw_log_json_packets.specs.Packets.{head_fields, target_fields, data_fields, packet_fields}
use Rattle.fw_log_json_packets.proofs.Joins.{then}

-- a prefix, the transaction code and the head, and what comes after them
pub fields_written : (p q : Packet) (before first last prefix kind : List ℕ) → q ≡ p
    → kind ≡ code (codes ",\"tcode\":") (tcode q) (codes ",\"tcode_name\":") (Some (tcode_name q))
    → first ≡ before ++ (prefix ++ (kind ++ head_fields (head_of q))) → last ≡ first ++ (target_fields q ++ data_fields q)
    → last ≡ before ++ (prefix ++ packet_fields p)
fields_written p q before first last prefix kind same e f g =
    let head : List ℕ = head_fields (head_of q) in
    let place : List ℕ = target_fields q in
    let block : List ℕ = data_fields q in
    let all : last ≡ before ++ ((prefix ++ (kind ++ head)) ++ (place ++ block)) = then before first last (prefix ++ (kind ++ head)) (place ++ block) f g in
    all ∙ ap (λ (t : List ℕ). before ++ t) (append_assoc prefix (kind ++ head) (place ++ block))
    ∙ ap (λ (t : List ℕ). before ++ (prefix ++ t)) (sym (append_assoc (kind ++ head) place block))
    ∙ ap (λ (k : List ℕ). before ++ (prefix ++ (k ++ head ++ place ++ block))) e
    ∙ ap (λ (x : Packet). before ++ (prefix ++ packet_fields x)) same

-- the end of an object
pub ended : (before first last prefix fields : List ℕ) → first ≡ before ++ (prefix ++ fields) → last ≡ first ++ codes "}\n"
    → last ≡ before ++ (prefix ++ (fields ++ codes "}\n"))
ended before first last prefix fields e f =
    then before first last (prefix ++ fields) (codes "}\n") e f ∙ ap (λ (t : List ℕ). before ++ t) (append_assoc prefix fields (codes "}\n"))
