-- A spelling is as long as it needs, and no proper prefix of another.
use Rattle.fw_async.proofs.Common.{◌≡◌, ℕ, ◌+◌, ◌/◌, ◌%◌, ◌^◌, ◌≤◌, ◌<◌, List, [], ◌∷◌, ◌++◌, length, drop, replicate, true, arith, refl, ap, sym, subst, ◌∙◌, length-append, nat_tests, to_be_bytes}
use Rattle.fw_async.proofs.Common.{w32, field, quadlet_at, packed, Fits, spelling, head_fields, size, padding, padded, has_data, need, tcode_of, Packet, WriteQuadlet, WriteBlock, WriteReply}
use Rattle.fw_async.proofs.Common.{ReadQuadlet, ReadQuadletReply, CycleStart, Lock, LockReply}
use Rattle.std.proofs.lemmas.List.{length-replicate, nil_from_length}
use Rattle.fw_async_fields.specs.Tcode.{has_quadlet_3}
use Rattle.fw_async.specs.declared.packet.Packet.TheVariants.{ReadBlock, ReadBlockReply}
use Rattle.fw_async_fields.proofs.NeedLaws.{need_of, need_done, need_most}
use Rattle.fw_async.proofs.SpelledLaws.{spelled_tcode, size_of, size_len, with_data, lock_few, reply_few, spelled_none}

-- A spelling is as long as it needs.
need_at : (bytes : List ℕ) (t : ℕ) → tcode_of bytes ≡ t → need bytes ≡ need_of (length bytes) (has_quadlet_3 t) (has_data t) (field (quadlet_at bytes 12) 0 15)
need_at bytes t e = ap (λ k. need_of (length bytes) (has_quadlet_3 k) (has_data k) (field (quadlet_at bytes 12) 0 15)) e

data_need : (n len : ℕ) → n ≡ 16 + len + padding len → need_of n true true len ≡ n
data_need n len e = grind (arith, nat_tests)

data_length : (a b c d : ℕ) (bytes : List ℕ) → length (with_data a b c d bytes) ≡ 16 + length bytes + padding (length bytes)
data_length a b c d bytes = omega (arith, length-append bytes (replicate (padding (length bytes)) 0), length-replicate {A = ℕ} (padding (length bytes)) 0)

need_data : (a b c low : ℕ) (bytes : List ℕ) → length bytes < 2 ^ 16 → low < 2 ^ 16
    → need_of (length (with_data a b c (size (length bytes) low) bytes)) true true (field (quadlet_at (with_data a b c (size (length bytes) low) bytes) 12) 0 15)
    ≡ length (with_data a b c (size (length bytes) low) bytes)
need_data a b c low bytes few small =
    let len : field (quadlet_at (to_be_bytes w32 (size (length bytes) low) ++ padded bytes) 0) 0 15 ≡ length bytes =
    ap (λ q. field q 0 15) (size_of (length bytes) low (padded bytes) few small) ∙ size_len (length bytes) low few small in
    rw len (data_need (length (with_data a b c (size (length bytes) low) bytes)) (length bytes) (data_length a b c (size (length bytes) low) bytes))

pub spelled_need : (p : Packet) → Fits p → need (spelling p) ≡ length (spelling p)
spelled_need (WriteQuadlet h o v) fits =
    let all = spelling (WriteQuadlet h o v) in
    need_at all 0 (spelled_tcode 0 h (drop 4 all) (omega arith) fits.0) ∙ refl
spelled_need (WriteBlock h o bytes) fits =
    let all = spelling (WriteBlock h o bytes) in
    need_at all 1 (spelled_tcode 1 h (drop 4 all) (omega arith) fits.0)
    ∙ need_data (packed (head_fields 1 h) 0) (packed ((16, h.source) ∷ (16, o / 2 ^ 32) ∷ []) 0) (o % 2 ^ 32) 0 bytes (omega (arith, fits.2)) (omega arith)
spelled_need (WriteReply h r) fits =
    let all = spelling (WriteReply h r) in
    need_at all 2 (spelled_tcode 2 h (drop 4 all) (omega arith) fits.0) ∙ refl
spelled_need (ReadQuadlet h o) fits =
    let all = spelling (ReadQuadlet h o) in
    need_at all 4 (spelled_tcode 4 h (drop 4 all) (omega arith) fits.0) ∙ refl
spelled_need (ReadBlock h o len) fits =
    let all = spelling (ReadBlock h o len) in
    need_at all 5 (spelled_tcode 5 h (drop 4 all) (omega arith) fits.0) ∙ refl
spelled_need (ReadQuadletReply h r v) fits =
    let all = spelling (ReadQuadletReply h r v) in
    need_at all 6 (spelled_tcode 6 h (drop 4 all) (omega arith) fits.0) ∙ refl
spelled_need (ReadBlockReply h r bytes) fits =
    let all = spelling (ReadBlockReply h r bytes) in
    need_at all 7 (spelled_tcode 7 h (drop 4 all) (omega arith) fits.0)
    ∙ need_data (packed (head_fields 7 h) 0) (packed ((16, h.source) ∷ (4, r) ∷ (12, 0) ∷ []) 0) 0 0 bytes (omega (arith, fits.2)) (omega arith)
spelled_need (CycleStart h o time) fits =
    let all = spelling (CycleStart h o time) in
    need_at all 8 (spelled_tcode 8 h (drop 4 all) (omega arith) fits.0) ∙ refl
spelled_need (Lock h o f bytes) fits =
    let all = spelling (Lock h o f bytes) in
    need_at all 9 (spelled_tcode 9 h (drop 4 all) (omega arith) fits.0)
    ∙ need_data (packed (head_fields 9 h) 0) (packed ((16, h.source) ∷ (16, o / 2 ^ 32) ∷ []) 0) (o % 2 ^ 32) f bytes (lock_few f (length bytes) fits.4) (omega (arith, fits.3))
spelled_need (LockReply h r f bytes) fits =
    let all = spelling (LockReply h r f bytes) in
    need_at all 11 (spelled_tcode 11 h (drop 4 all) (omega arith) fits.0)
    ∙ need_data (packed (head_fields 11 h) 0) (packed ((16, h.source) ∷ (4, r) ∷ (12, 0) ∷ []) 0) 0 f bytes (reply_few (length bytes) fits.4) (omega (arith, fits.3))

-- No packet is longer than 528 bytes.
pub spelled_most : (p : Packet) → Fits p → length (spelling p) ≤ 528
spelled_most p f = omega (arith, need_most (spelling p) (spelled_none p f), spelled_need p f)

no_more : (n : ℕ) (more : List ℕ) → n + length more ≡ n → more ≡ []
no_more n more e = nil_from_length more (omega arith)

-- No spelling is a proper prefix of another.
pub no_proper_prefix : (p q : Packet) (more : List ℕ) → Fits p → Fits q → spelling q ≡ spelling p ++ more → more ≡ []
no_proper_prefix p q more f g e =
    let done : need (spelling p ++ more) ≡ length (spelling p) = need_done (spelling p) more (sym (spelled_need p f)) in
    let all : need (spelling p ++ more) ≡ length (spelling p ++ more) = let P : List ℕ → Type 0 = λ s. need s ≡ length s in subst P e (spelled_need q g) in
    no_more (length (spelling p)) more (sym (length-append (spelling p) more) ∙ sym all ∙ done)
