-- A packet of a transaction of one quadlet, read at once from its bytes.
use Rattle.fw_async.proofs.Common.{◌≡◌, ℕ, ◌+◌, ◌≤◌, List, ◌++◌, length, take, drop, true, IsTrue, nat_lt, if◌then◌else◌, arith, refl, ap, sym, subst, ◌∙◌, nat_tests, length-take-le, field}
use Rattle.fw_async.proofs.Common.{quadlet_at, AreBytes, is_lock_size, padding, tcode_of, Spells, Packet}
use Rattle.std.proofs.Math.Seq.{take-add}
use Rattle.std.proofs.lemmas.List.{drop-drop, length-drop}
use Rattle.fw_async.specs.Whole.{IsComplete, ReadsAs}
use Rattle.fw_async.proofs.ExactLaws.{whole_from_spells, clear_from_spells}
use Rattle.fw_async_fields.proofs.NeedLaws.{need_least}
use Rattle.fw_async_fields.proofs.ReadingLaws.{are_bytes_part}
use Rattle.fw_async.proofs.SameLaws.{same_packet}
use Rattle.fw_async.proofs.WholeLaws.{is_whole, spells_whole}
use Rattle.fw_async_fields.proofs.SoundLaws.{need_fourth}

pub least : (p : Packet) (bytes : List ℕ) → Spells p bytes → 12 ≤ length bytes
least p bytes s = omega (arith, need_least bytes, whole_from_spells p bytes s)

-- the bytes of a packet of this tcode are all there
pub complete_of : (t : ℕ) (p : Packet) (bytes : List ℕ) → AreBytes bytes → Spells p bytes → tcode_of bytes ≡ t → IsComplete t bytes
complete_of t p bytes fit s kind =
    let P : ℕ → Type 0 = λ k. IsComplete k bytes in
    subst P kind (is_whole bytes (least p bytes s) (whole_from_spells p bytes s) fit (clear_from_spells p bytes s))

pub long_lock : (bytes : List ℕ) → IsComplete 9 bytes → 16 ≤ length bytes
long_lock bytes c = need_fourth (length bytes) _ true true c.all refl

-- what is read from them is that packet
pub read_back : (t : ℕ) (p q : Packet) (bytes : List ℕ) → AreBytes bytes → Spells p bytes → tcode_of bytes ≡ t → ReadsAs t bytes q → p ≡ q
read_back t p q bytes fit s kind reads =
    let P : ℕ → Type 0 = λ k. ReadsAs k bytes q in
    let r = spells_whole bytes q fit (least p bytes s) (whole_from_spells p bytes s) (clear_from_spells p bytes s) (subst P (sym kind) reads) in
    same_packet p q s.fits r.fits (s.same ∙ sym r.same)

-- a whole compare_swap of a quadlet has two quadlets of data
pub swap_end : (bytes : List ℕ) → IsComplete 9 bytes → quadlet_at bytes 12 ≡ 524290 → 24 ≤ length bytes
swap_end bytes c e = omega (arith, lock_end (length bytes) (field (quadlet_at bytes 12) 0 15) c.all, e)
  where
    lock_end : (n len : ℕ) → n ≡ (if nat_lt n 4 then 12 else if nat_lt n 16 then 16 else 16 + len + padding len) → 16 + len ≤ n
    lock_end n len h = grind (arith, nat_tests)

-- which are these bytes
pub swap_data : (bytes argument new : List ℕ) → argument ≡ take 4 (drop 16 bytes) → new ≡ take 4 (drop 20 bytes) → argument ++ new ≡ take 8 (drop 16 bytes)
swap_data bytes argument new first second =
    ap (λ t. t ++ new) first
    ∙ (ap (λ t. take 4 (drop 16 bytes) ++ t) (second ∙ ap (take 4) (sym (drop-drop 4 16 bytes)))
    ∙ sym (take-add 4 4 (drop 16 bytes)))

-- what a packet of a compare_swap asks of its data
pub record SwapFits (pair : List ℕ) : Type 0 where
  pub size : length pair ≡ 8
  pub lock : IsTrue (is_lock_size 2 (length pair))
  pub bytes : AreBytes pair

pub swap_fits : (bytes pair : List ℕ) → AreBytes bytes → pair ≡ take 8 (drop 16 bytes) → 24 ≤ length bytes → SwapFits pair
swap_fits bytes pair fit same long =
    let eight : length (take 8 (drop 16 bytes)) ≡ 8 = length-take-le 8 (drop 16 bytes) (omega (arith, length-drop 16 bytes, long)) in
    let size : length pair ≡ 8 = ap length same ∙ eight in
    let P : ℕ → Type 0 = λ n. IsTrue (is_lock_size 2 n) in
    let Q : List ℕ → Type 0 = λ xs. AreBytes xs in
    record {
      size = size;
      lock = subst P (sym size) refl;
      bytes = subst Q (sym same) (are_bytes_part bytes 8 16 fit);
    }
