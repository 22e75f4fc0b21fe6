-- Quadlets and parts of bytes.
use Rattle.fw_log.proofs.Common.{◌≡◌, ℕ, ◌+◌, ◌≤◌, List, ◌++◌, length, take, drop, Option, Some, None, arith, refl, ap, sym, ◌∙◌, take-append-drop, take-append-le, drop-drop, to_be_bytes, w32}
use Rattle.fw_log.proofs.Common.{quadlet_at, AreBytes}
use Rattle.std.proofs.lemmas.Grind.{common_steps}
use Rattle.std.proofs.lemmas.List.{drop-append-le, length-drop}
use Rattle.std.proofs.lemmas.Nat.{be_bytes_4}
use Rattle.std.specs.Int.{from_be_bytes}

pub none_by : {A : Type 0} (o : Option A) → ((x : A) → o ≡ Some x → ⊥) → o ≡ None
none_by None h = refl
none_by (Some x) h = absurd (h x refl)

pub are_bytes_part : (xs : List ℕ) (n k : ℕ) → AreBytes xs → AreBytes (take n (drop k xs))
are_bytes_part xs n k h i = grind (arith, common_steps, h (k + i))

-- the bytes from a quadlet on: the quadlet, and the bytes after it
pub peel : (bytes : List ℕ) (at : ℕ) → AreBytes bytes → at + 4 ≤ length bytes → drop at bytes ≡ to_be_bytes w32 (quadlet_at bytes at) ++ drop (at + 4) bytes
peel bytes at fit enough =
    let size : length (take 4 (drop at bytes)) ≡ 4 = grind (arith, common_steps) in
    let four = be_bytes_4 (take 4 (drop at bytes)) (quadlet_at bytes at) size (are_bytes_part bytes 4 at fit) refl in
    sym (take-append-drop 4 (drop at bytes)) ∙ ap (λ t. t ++ drop 4 (drop at bytes)) (sym four) ∙ ap (λ t. to_be_bytes w32 (quadlet_at bytes at) ++ t) (drop-drop 4 at bytes)

-- a quadlet is the same whatever follows
pub quadlet_at-append : (bytes more : List ℕ) (at : ℕ) → at + 4 ≤ length bytes → quadlet_at (bytes ++ more) at ≡ quadlet_at bytes at
quadlet_at-append bytes more at enough =
    let first : at ≤ length bytes = omega arith in
    let second : 4 ≤ length (drop at bytes) = simp length-drop (omega arith) in
    ap (λ t. from_be_bytes w32 (take 4 t)) (drop-append-le at bytes more first) ∙ ap (from_be_bytes w32) (take-append-le 4 (drop at bytes) more second)
