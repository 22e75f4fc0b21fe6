-- How many bytes a packet takes, as more of it comes.
use Rattle.fw_async_fields.proofs.Common.{◌≡◌, inl, inr, ℕ, zero, suc, ◌+◌, ◌-◌, sym, get_or, ◌≤◌, ◌<◌, List, ◌++◌, length, take, drop, Bool, true, false, IsTrue, nat_lt, Option, Some, None}
use Rattle.fw_async_fields.proofs.Common.{arith, refl, ap}
use Rattle.fw_async_fields.proofs.Common.{◌∙◌, ◌==◌, if◌then◌else◌, length-append, cases_lt, nat_tests, w32, field, quadlet_at, padding, is_lock_size, is_reply_size, has_data, IsPending}
use Rattle.fw_async_fields.proofs.Common.{fault_in_quadlet_0}
use Rattle.fw_async_fields.proofs.Common.{fault_in_quadlet_1, fault_in_quadlet_2, fault_in_padding, end_of_data, fault_of, fault_in_quadlet_3, tcode_of, need, PacketFault}
use Rattle.std.proofs.Common.{◌⊎◌}
use Rattle.std.proofs.Common.{length-drop}
use Rattle.std.proofs.lemmas.Bool.{cases_eq}
use Rattle.std.proofs.lemmas.List.{take-append-le, drop-append-le, get_or_append_left}
use Rattle.std.specs.Int.{from_be_bytes}
use Rattle.fw_async_fields.specs.Tcode.{has_quadlet_3, is_block, is_lock}
use Rattle.fw_async_fields.specs.Reading.{or_else}
use Rattle.fw_async_fields.proofs.ReadingLaws.{no_fault, padding_none, padding_here, padding_next}
use Rattle.fw_async_fields.proofs.SoundLaws.{block_of, lock_of}

pub quadlet_at-append : (bytes more : List ℕ) (at : ℕ) → at + 4 ≤ length bytes → quadlet_at (bytes ++ more) at ≡ quadlet_at bytes at
quadlet_at-append bytes more at enough =
    let first : at ≤ length bytes = omega arith in
    let second : 4 ≤ length (drop at bytes) = simp length-drop (omega arith) in
    ap (λ t. from_be_bytes w32 (take 4 t)) (drop-append-le at bytes more first) ∙ ap (from_be_bytes w32) (take-append-le 4 (drop at bytes) more second)

-- the numbers of need
abbrev pub need_of : ℕ → Bool → Bool → ℕ → ℕ
need_of n f b len = if nat_lt n 4 then 12 else if f then (if nat_lt n 16 then 16 else if b then 16 + len + padding len else 16) else 12

least : (n len : ℕ) (f b : Bool) → 12 ≤ need_of n f b len
least n len f b = grind (arith, nat_tests)

grows_begun : (n m k l : ℕ) (f b : Bool) → n ≤ m → n < 16 → need_of n f b k ≤ need_of m f b l
grows_begun n m k l f b le short = grind (arith, nat_tests)

grows_long : (n m l : ℕ) (f b : Bool) → n ≤ m → 16 ≤ n → need_of n f b l ≤ need_of m f b l
grows_long n m l f b le long = grind (arith, nat_tests)

grows_unbegun : (n m k l : ℕ) (f b g c : Bool) → n < 4 → need_of n f b k ≤ need_of m g c l
grows_unbegun n m k l f b g c short = grind (arith, nat_tests)

by_cases : (n : ℕ) (P : Type 0) → (n < 4 → P) → (4 ≤ n → n < 16 → P) → (4 ≤ n → 16 ≤ n → P) → P
by_cases n P a b c = elim (cases_lt n 4) [ inl h ↦ a h | inr h ↦ elim (cases_lt n 16) [ inl i ↦ b h i | inr i ↦ c h i ] ]

-- One byte more never makes a packet shorter.
pub need_grows : (bytes more : List ℕ) → need bytes ≤ need (bytes ++ more)
need_grows bytes more =
    let longer : length bytes ≤ length (bytes ++ more) = omega (arith, length-append bytes more) in
    by_cases (length bytes) (need bytes ≤ need (bytes ++ more))
    (λ short. grows_unbegun _ (length (bytes ++ more)) _ (field (quadlet_at (bytes ++ more) 12) 0 15) _ _ (has_quadlet_3 (tcode_of (bytes ++ more))) (has_data (tcode_of (bytes ++ more))) short)
    (λ begun short. rw (quadlet_at-append bytes more 0 begun) (grows_begun (length bytes) (length (bytes ++ more)) (field (quadlet_at bytes 12) 0 15) (field (quadlet_at (bytes ++ more) 12) 0 15)
    (has_quadlet_3 (tcode_of bytes)) (has_data (tcode_of bytes)) longer short))
    (λ begun long. rw (quadlet_at-append bytes more 0 begun, quadlet_at-append bytes more 12 long)
    (grows_long (length bytes) (length (bytes ++ more)) (field (quadlet_at bytes 12) 0 15) (has_quadlet_3 (tcode_of bytes)) (has_data (tcode_of bytes)) longer long))

-- No packet without a fault is longer than 528 bytes.
most : (n len : ℕ) (f b : Bool) → (16 ≤ n → IsTrue b → len ≤ 512) → need_of n f b len ≤ 528
most n len f b small = grind (arith, nat_tests, small)

data_kind : (t : ℕ) → IsTrue (has_data t) → IsTrue (is_block t) ⊎ IsTrue (is_lock t)
data_kind t b = grind (arith, nat_tests)

lock_sizes : (t low len : ℕ) → IsTrue (if t == 9 then is_lock_size low len else is_reply_size len) → len ≤ 512
lock_sizes t low len h = grind (arith, nat_tests)

pub need_least : (bytes : List ℕ) → 12 ≤ need bytes
need_least bytes = least (length bytes) (field (quadlet_at bytes 12) 0 15) (has_quadlet_3 (tcode_of bytes)) (has_data (tcode_of bytes))

sizes : (t q : ℕ) → fault_in_quadlet_3 t q ≡ None → IsTrue (has_data t) → field q 0 15 ≤ 512
sizes t q h b = elim (data_kind t b) [ inl k ↦ (block_of t q h k).1 | inr k ↦ lock_sizes t (field q 16 31) (field q 0 15) (lock_of t q h k).2 ]

pub need_most : (bytes : List ℕ) → fault_of bytes ≡ None → need bytes ≤ 528
need_most bytes h = most (length bytes) (field (quadlet_at bytes 12) 0 15) (has_quadlet_3 (tcode_of bytes)) (has_data (tcode_of bytes))
    (λ long b. let n = (no_fault bytes (omega arith) h).fourth long in sizes (tcode_of bytes) (quadlet_at bytes 12) n b)

pub reach : (n m r k : ℕ) → k ≤ m → r ≡ m → r ≤ n → k ≤ n
reach n m r k least e below = omega arith

pub none_by : {A : Type 0} (o : Option A) → ((x : A) → o ≡ Some x → ⊥) → o ≡ None
none_by None h = refl
none_by (Some x) h = absurd (h x refl)

done_short : (n m k l : ℕ) (f b : Bool) → 4 ≤ n → n < 16 → n ≤ m → n ≡ need_of n f b k → need_of m f b l ≡ n
done_short n m k l f b begun short le e = grind (arith, nat_tests)

done_long : (n m l : ℕ) (f b : Bool) → 16 ≤ n → n ≤ m → n ≡ need_of n f b l → need_of m f b l ≡ n
done_long n m l f b long le e = grind (arith, nat_tests)

past : (n m x : ℕ) → n ≤ m → x ≡ n → m < x → ⊥
past n m x le e h = omega arith

-- What is whole stays as long as it is, whatever follows.
pub need_done : (prefix more : List ℕ) → length prefix ≡ need prefix → need (prefix ++ more) ≡ length prefix
need_done prefix more whole =
    let longer : length prefix ≤ length (prefix ++ more) = omega (arith, length-append prefix more) in
    by_cases (length prefix) (need (prefix ++ more) ≡ length prefix)
    (λ short. absurd (low (length prefix) (need prefix) short whole (need_least prefix)))
    (λ begun short. rw (quadlet_at-append prefix more 0 begun) (done_short (length prefix) (length (prefix ++ more)) (field (quadlet_at prefix 12) 0 15) (field (quadlet_at (prefix ++ more) 12) 0 15)
    (has_quadlet_3 (tcode_of prefix)) (has_data (tcode_of prefix)) begun short longer whole))
    (λ begun long. rw (quadlet_at-append prefix more 0 begun, quadlet_at-append prefix more 12 long)
    (done_long (length prefix) (length (prefix ++ more)) (field (quadlet_at prefix 12) 0 15) (has_quadlet_3 (tcode_of prefix)) (has_data (tcode_of prefix)) long longer whole))
  where
    low : (n m : ℕ) → n < 4 → n ≡ m → 12 ≤ m → ⊥
    low n m short e least = omega arith

-- Bytes that are pending have no prefix that is a whole packet.
pub no_whole_prefix : (prefix more : List ℕ) → IsPending (prefix ++ more) → length prefix ≡ need prefix → ⊥
no_whole_prefix prefix more pending whole =
    let longer : length prefix ≤ length (prefix ++ more) = omega (arith, length-append prefix more) in
    past (length prefix) (length (prefix ++ more)) (need (prefix ++ more)) longer (need_done prefix more whole) pending.not_whole

-- A fault that is shown stays, whatever follows.
pass : (n k : ℕ) (x : Option PacketFault) → k ≤ n → (if nat_lt n k then None else x) ≡ x
pass n k x enough = grind (arith, nat_tests)

early : (n k : ℕ) (x : Option PacketFault) → n < k → (if nat_lt n k then None else x) ≡ None
early n k x short = grind (arith, nat_tests)

late : (n m k : ℕ) (x y z w : Option PacketFault) (f : PacketFault) → n ≤ m → k ≤ n → z ≡ x → (y ≡ Some f → w ≡ Some f) → (if nat_lt n k then None else or_else x y) ≡ Some f
    → (if nat_lt m k then None else or_else z w) ≡ Some f
late n m k None y z w f le long e more h = pass m k (or_else z w) (omega arith) ∙ ap (λ o. or_else o w) e ∙ more (sym (pass n k y long) ∙ h)
late n m k (Some g) y z w f le long e more h = pass m k (or_else z w) (omega arith) ∙ ap (λ o. or_else o w) e ∙ sym (pass n k (Some g) long) ∙ h

level : (n m k : ℕ) (x y z w : Option PacketFault) (f : PacketFault) → n ≤ m → (k ≤ n → z ≡ x) → (k ≤ n → y ≡ Some f → w ≡ Some f) → (if nat_lt n k then None else or_else x y) ≡ Some f
    → (if nat_lt m k then None else or_else z w) ≡ Some f
level n m k x y z w f le same more h = elim (cases_lt n k) [ inl short ↦ cc (early n k (or_else x y) short) | inr long ↦ late n m k x y z w f le long (same long) (more long) h ]

padding_stays : (bytes more : List ℕ) (at n k : ℕ) (f : PacketFault) → at + n ≤ length bytes → fault_in_padding bytes at n ≡ Some f → fault_in_padding (bytes ++ more) at (n + k) ≡ Some f
padding_stays bytes more at zero k f within h = cc (padding_none bytes at zero refl)
padding_stays bytes more at (suc n) k f within h =
    let same : get_or (bytes ++ more) at 0 ≡ get_or bytes at 0 = get_or_append_left bytes more 0 at (omega arith) in
    let one : suc n - 1 ≡ n = omega arith in
    let rest : suc n + k - 1 ≡ n + k = omega arith in
    elim (cases_eq (get_or bytes at 0) 0) [
      | inl clear ↦ padding_next (bytes ++ more) at (suc n + k) (omega arith) (same ∙ clear) ∙ ap (fault_in_padding (bytes ++ more) (at + 1)) rest
          ∙ padding_stays bytes more (at + 1) n k f (omega arith) (ap (fault_in_padding bytes (at + 1)) (sym one) ∙ sym (padding_next bytes at (suc n) (omega arith) clear) ∙ h)
      | inr set ↦ sym (padding_here (bytes ++ more) at (suc n + k) (omega arith) (λ e. set (sym same ∙ e))) ∙ padding_here bytes at (suc n) (omega arith) set ∙ h
    ]

padding_grows : (bytes more : List ℕ) (at : ℕ) (f : PacketFault) → fault_in_padding bytes at (length bytes - at) ≡ Some f → fault_in_padding (bytes ++ more) at (length (bytes ++ more) - at) ≡ Some f
padding_grows bytes more at f h =
    elim (cases_lt at (length bytes)) [
      | inl within ↦ let e : length (bytes ++ more) - at ≡ length bytes - at + length more = omega (arith, length-append bytes more) in
          ap (fault_in_padding (bytes ++ more) at) e ∙ padding_stays bytes more at (length bytes - at) (length more) f (omega arith) h
      | inr past ↦ cc (padding_none bytes at (length bytes - at) (omega arith))
    ]

with_bytes : (b : Bool) (x y : Option PacketFault) (f : PacketFault) → (x ≡ Some f → y ≡ Some f) → (if b then x else None) ≡ Some f → (if b then y else None) ≡ Some f
with_bytes true x y f i h = i h
with_bytes false x y f i h = cc

pub fault_stays : (bytes more : List ℕ) (f : PacketFault) → fault_of bytes ≡ Some f → fault_of (bytes ++ more) ≡ Some f
fault_stays bytes more f h =
    let le : length bytes ≤ length (bytes ++ more) = omega (arith, length-append bytes more) in
    let tcode = λ (k : 4 ≤ length bytes). ap (λ q. field q 24 27) (quadlet_at-append bytes more 0 k) in
    level (length bytes) (length (bytes ++ more)) 4 _ _ _ _ f le
    (λ k. ap fault_in_quadlet_0 (tcode k))
    (λ begun. level (length bytes) (length (bytes ++ more)) 8 _ _ _ _ f le
    (λ k. cong (tcode begun) (quadlet_at-append bytes more 4 k))
    (λ j. level (length bytes) (length (bytes ++ more)) 12 _ _ _ _ f le
    (λ k. cong_2 (tcode begun) (quadlet_at-append bytes more 8 k))
    (λ i. level (length bytes) (length (bytes ++ more)) 16 _ _ _ _ f le
    (λ k. cong_3 (tcode begun) (quadlet_at-append bytes more 12 k))
    (λ k. rest_of (tcode begun) (quadlet_at-append bytes more 12 k)))))
    h
  where
    cong : {t u q r : ℕ} → t ≡ u → q ≡ r → fault_in_quadlet_1 t q ≡ fault_in_quadlet_1 u r
    cong e g = cc

    cong_2 : {t u q r : ℕ} → t ≡ u → q ≡ r → fault_in_quadlet_2 t q ≡ fault_in_quadlet_2 u r
    cong_2 e g = cc

    cong_3 : {t u q r : ℕ} → t ≡ u → q ≡ r → fault_in_quadlet_3 t q ≡ fault_in_quadlet_3 u r
    cong_3 e g = cc

    rest_of : {t : ℕ} → t ≡ tcode_of bytes → quadlet_at (bytes ++ more) 12 ≡ quadlet_at bytes 12
        → (if has_data (tcode_of bytes) then fault_in_padding bytes (end_of_data bytes) (length bytes - end_of_data bytes) else None) ≡ Some f
        → (if has_data t then fault_in_padding (bytes ++ more) (end_of_data (bytes ++ more)) (length (bytes ++ more) - end_of_data (bytes ++ more)) else None) ≡ Some f
    rest_of e g h = rw (e, g) (with_bytes (has_data (tcode_of bytes)) _ _ f (padding_grows bytes more (end_of_data bytes) f) h)
