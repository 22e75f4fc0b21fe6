-- The self-ID packets in the body of a reset entry.
use Rattle.std.proofs.Common.{◌≡◌, refl, ap, ◌∙◌, sym, ℕ, zero, suc, ◌+◌, ◌*◌, ◌/◌, ◌≤◌, ◌<◌}
use Rattle.std.proofs.Common.{List, [], ◌∷◌, ◌++◌, length, take, drop, flat_map, arith, length-append, length-drop, append_assoc, add-one}
use Rattle.std.specs.Int.{to_be_bytes, from_be_bytes, w32}
use Rattle.std.proofs.lemmas.List.{append-nil, drop_at, drop-drop, length-map}
use Rattle.std.proofs.Math.Seq.{drop-append-add}
use Rattle.fw_words.specs.Quadlet.{quadlet_at}
use Rattle.fw_phy.specs.Phy.{spelling}
use Rattle.fw_log_text.specs.Line.{id_text, quadlet_text, first_quadlets, quadlets_text}
use Rattle.fw_phy.specs.declared.packet.PhyPacket.{PhyPacket}
use Rattle.fw_log_entry.specs.Log.{quads, reset_quads, node_quad}
use Rattle.fw_log_entry.specs.declared.entry.ResetEntry.{ResetEntry}

length-quads : (qs : List ℕ) → length (quads qs) ≡ 4 * length qs
length-quads [] = refl
length-quads (q ∷ qs) = omega (arith, length-quads qs, length-append (to_be_bytes w32 q) (quads qs))

-- where the packets begin
pub length-nodes : (r : ResetEntry) → length (quads (reset_quads r)) ≡ 8 + 4 * length r.nodes
length-nodes r = omega (arith, length-quads (reset_quads r), length-map r.nodes node_quad)

pub ids_from : (r : ResetEntry) → drop (8 + 4 * length r.nodes) (quads (reset_quads r) ++ flat_map spelling r.ids) ≡ flat_map spelling r.ids
ids_from r = drop_at (quads (reset_quads r)) (flat_map spelling r.ids) (8 + 4 * length r.nodes) (length-nodes r)

pub length-spellings : (ids : List PhyPacket) → length (flat_map spelling ids) ≡ 8 * length ids
length-spellings [] = refl
length-spellings (p ∷ ps) = omega (arith, length-spellings ps, length-append (spelling p) (flat_map spelling ps))

-- a quadlet after a packet
past : (p : PhyPacket) (rest : List ℕ) (n : ℕ) → quadlet_at (spelling p ++ rest) (8 + n) ≡ quadlet_at rest n
past p rest n = ap (λ (x : List ℕ). from_be_bytes w32 (take 4 x)) (drop-append-add (spelling p) rest n)

-- the first quadlet of one packet more
pub ids_next : (ids : List PhyPacket) (i : ℕ) → i < length ids → flat_map id_text (take (i + 1) ids) ≡ flat_map id_text (take i ids) ++ quadlet_text (quadlet_at (flat_map spelling ids) (8 * i))
ids_next [] i h = absurd (omega (arith, h))
ids_next (p ∷ ps) zero h = append-nil (id_text p)
ids_next (p ∷ ps) (suc i) h =
    let rest : List ℕ = flat_map spelling ps in
    let before : List ℕ = flat_map id_text (take i ps) in
    let e : take (suc i + 1) (p ∷ ps) ≡ p ∷ take (i + 1) ps = rw (add-one (suc i), add-one i) refl in
    let at : quadlet_at rest (8 * i) ≡ quadlet_at (spelling p ++ rest) (8 * suc i) =
    sym (past p rest (8 * i)) ∙ ap (quadlet_at (spelling p ++ rest)) (omega arith) in
    ap (λ (x : List PhyPacket). flat_map id_text x) e ∙ ap (λ (x : List ℕ). id_text p ++ x) (ids_next ps i (omega (arith, h)))
    ∙ sym (append_assoc (id_text p) before (quadlet_text (quadlet_at rest (8 * i)))) ∙ ap (λ (q : ℕ). (id_text p ++ before) ++ quadlet_text q) at

-- The text of the first quadlets is that of the first one, and of those after it.
first_then : (bytes : List ℕ) (n : ℕ) → first_quadlets bytes (suc n) ≡ quadlet_text (quadlet_at bytes 0) ++ first_quadlets (drop 4 bytes) n
first_then bytes zero = sym (append-nil (quadlet_text (quadlet_at bytes 0)))
first_then bytes (suc n) =
    let following : quadlet_at (drop 4 bytes) (4 * n) ≡ quadlet_at bytes (4 * suc n) =
    ap (λ t. from_be_bytes w32 (take 4 t)) (drop-drop (4 * n) 4 bytes ∙ ap (λ k. drop k bytes) (omega arith)) in
    ap (λ t. t ++ quadlet_text (quadlet_at bytes (4 * suc n))) (first_then bytes n)
    ∙ append_assoc (quadlet_text (quadlet_at bytes 0)) (first_quadlets (drop 4 bytes) n) (quadlet_text (quadlet_at bytes (4 * suc n)))
    ∙ ap (λ (q : ℕ). quadlet_text (quadlet_at bytes 0) ++ (first_quadlets (drop 4 bytes) n ++ quadlet_text q)) (sym following)

pub quadlets_then : (bytes : List ℕ) → 4 ≤ length bytes → quadlets_text bytes ≡ quadlet_text (quadlet_at bytes 0) ++ quadlets_text (drop 4 bytes)
quadlets_then bytes some =
    let count : length bytes / 4 ≡ suc (length (drop 4 bytes) / 4) = omega (arith, length-drop 4 bytes) in
    ap (first_quadlets bytes) count ∙ first_then bytes (length (drop 4 bytes) / 4)
