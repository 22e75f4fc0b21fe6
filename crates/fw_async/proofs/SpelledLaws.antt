-- A spelling shows no fault.
use Rattle.fw_async.proofs.Common.{◌≡◌, ℕ, zero, suc, ◌+◌, ◌-◌, ◌%◌, ◌^◌, ◌≤◌, ◌<◌, List, [], ◌∷◌, ◌++◌, get_or, length, drop, replicate, nat_lt, Bool, true, false, IsTrue, Option, Some, None, arith}
use Rattle.fw_async.proofs.Common.{refl, ap, sym, subst, ◌∙◌, ◌==◌, ◌||◌, if◌then◌else◌, length-append, nat_tests, to_be_bytes, w32, field, quadlet_at, packed, HeadFits, Fits, spelling, head_fields}
use Rattle.fw_async.proofs.Common.{size, padding, padded, is_lock_size, is_reply_size, has_data, fault_in_quadlet_0, fault_in_quadlet_1, fault_in_quadlet_2, fault_in_quadlet_3, fault_in_padding}
use Rattle.fw_async.proofs.Common.{fault_of, tcode_of, end_of_data, PacketFault, Head, Packet, WriteQuadlet, WriteBlock, WriteReply, ReadQuadlet, ReadQuadletReply, CycleStart, Lock, LockReply}
use Rattle.std.proofs.Common.{add_assoc, add-zero}
use Rattle.std.proofs.lemmas.List.{get_or-append-add, get_or-replicate, length-replicate}
use Rattle.std.proofs.lemmas.Nat.{from_be_bytes-to_be_bytes_4}
use Rattle.std.specs.Option.{option_map}
use Rattle.fw_words.specs.Quadlet.{first_set}
use Rattle.fw_words.proofs.FirstSet.{first_set_zero}
use Rattle.fw_async_fields.specs.Tcode.{is_response, is_block, is_lock}
use Rattle.fw_async_fields.specs.Reading.{or_else}
use Rattle.fw_async_fields.specs.declared.PacketFault.TheVariants.{Reserved, TooLong, BadLength}
use Rattle.fw_async.specs.declared.packet.Packet.TheVariants.{ReadBlock, ReadBlockReply}
use Rattle.fw_async_fields.proofs.ReadingLaws.{padding_next}

pub back : (a : ℕ) (rest : List ℕ) → a < 2 ^ 32 → quadlet_at (to_be_bytes w32 a ++ rest) 0 ≡ a
back a rest h = from_be_bytes-to_be_bytes_4 a h

-- quadlet 0 has its tcode, and fits
pub first_fits : (tcode : ℕ) (h : Head) → tcode < 16 → HeadFits h → packed (head_fields tcode h) 0 < 2 ^ 32
first_fits tcode h t f = omega (arith, f)

first_tcode : (tcode : ℕ) (h : Head) → tcode < 16 → HeadFits h → field (packed (head_fields tcode h) 0) 24 27 ≡ tcode
first_tcode tcode h t f = omega (arith, f)

pub spelled_tcode : (tcode : ℕ) (h : Head) (rest : List ℕ) → tcode < 16 → HeadFits h → tcode_of (to_be_bytes w32 (packed (head_fields tcode h) 0) ++ rest) ≡ tcode
spelled_tcode tcode h rest t f = ap (λ q. field q 24 27) (back (packed (head_fields tcode h) 0) rest (first_fits tcode h t f)) ∙ first_tcode tcode h t f

-- no quadlet shows a fault, nor does the padding
clear_by : (n : ℕ) (w x y z p : Option PacketFault) (b : Bool) → w ≡ None → x ≡ None → y ≡ None → z ≡ None → (IsTrue b → p ≡ None)
    → (if nat_lt n 4 then None else or_else w (if nat_lt n 8 then None else or_else x (if nat_lt n 12 then None else or_else y (if nat_lt n 16 then None else or_else z (if b then p else None)))))
    ≡ None
clear_by n w x y z p true e f g h i = rw (e, f, g, h, i refl) (grind (arith, nat_tests))
clear_by n w x y z p false e f g h i = rw (e, f, g, h) (grind (arith, nat_tests))

clear : (bytes : List ℕ) (t : ℕ) → tcode_of bytes ≡ t → fault_in_quadlet_0 t ≡ None → fault_in_quadlet_1 t (quadlet_at bytes 4) ≡ None → fault_in_quadlet_2 t (quadlet_at bytes 8) ≡ None
    → fault_in_quadlet_3 t (quadlet_at bytes 12) ≡ None
    → (IsTrue (has_data t) → fault_in_padding bytes (end_of_data bytes) (length bytes - end_of_data bytes) ≡ None) → fault_of bytes ≡ None
clear bytes t e w x y z p =
    let P : ℕ → Type 0 = λ k. (if nat_lt (length bytes) 4 then None
    else or_else (fault_in_quadlet_0 k) (if nat_lt (length bytes) 8 then None
    else or_else (fault_in_quadlet_1 k (quadlet_at bytes 4)) (if nat_lt (length bytes) 12 then None
    else or_else (fault_in_quadlet_2 k (quadlet_at bytes 8)) (if nat_lt (length bytes) 16 then None
    else or_else (fault_in_quadlet_3 k (quadlet_at bytes 12)) (if has_data k then fault_in_padding bytes (end_of_data bytes) (length bytes - end_of_data bytes) else None))))) ≡ None in
    subst P (sym e) (clear_by (length bytes) (fault_in_quadlet_0 t) (fault_in_quadlet_1 t (quadlet_at bytes 4)) (fault_in_quadlet_2 t (quadlet_at bytes 8)) (fault_in_quadlet_3 t (quadlet_at bytes 12))
    (fault_in_padding bytes (end_of_data bytes) (length bytes - end_of_data bytes)) (has_data t) w x y z p)

none_map : (before : ℕ) (x : Option ℕ) → x ≡ None → option_map (λ bit. Reserved (before + bit)) x ≡ None
none_map before x e = rw e refl

response_second : (t source rcode : ℕ) (rest : List ℕ) → source < 2 ^ 16 → rcode < 2 ^ 4
    → fault_in_quadlet_1 t (quadlet_at (to_be_bytes w32 (packed ((16, source) ∷ (4, rcode) ∷ (12, 0) ∷ []) 0) ++ rest) 0) ≡ None
unfolding fault_in_quadlet_1
response_second t source rcode rest s r =
    let q = packed ((16, source) ∷ (4, rcode) ∷ (12, 0) ∷ []) 0 in
    let small : packed ((16, source) ∷ (4, rcode) ∷ (12, 0) ∷ []) 0 < 2 ^ 32 = omega arith in
    let low : packed ((16, source) ∷ (4, rcode) ∷ (12, 0) ∷ []) 0 % 2 ^ 12 ≡ 0 = omega arith in
    let none = none_map 32 (first_set (packed ((16, source) ∷ (4, rcode) ∷ (12, 0) ∷ []) 0) 20 12) (first_set_zero (packed ((16, source) ∷ (4, rcode) ∷ (12, 0) ∷ []) 0) 20 12 refl low) in
    rw (back (packed ((16, source) ∷ (4, rcode) ∷ (12, 0) ∷ []) 0) rest small) (both (is_response t) _ none)
  where
    both : (b : Bool) (x : Option PacketFault) → x ≡ None → (if b then x else None) ≡ None
    both true x e = e
    both false x e = refl

response_third : (t : ℕ) (rest : List ℕ) → fault_in_quadlet_2 t (quadlet_at (to_be_bytes w32 0 ++ rest) 0) ≡ None
unfolding fault_in_quadlet_2
response_third t rest =
    let none = none_map 64 (first_set 0 0 32) (first_set_zero 0 0 32 refl refl) in
    rw (back 0 rest (omega arith)) (both (is_response t) _ none)
  where
    both : (b : Bool) (x : Option PacketFault) → x ≡ None → (if b then x else None) ≡ None
    both true x e = e
    both false x e = refl

-- the quadlet of a size
pub size_of : (len low : ℕ) (rest : List ℕ) → len < 2 ^ 16 → low < 2 ^ 16 → quadlet_at (to_be_bytes w32 (size len low) ++ rest) 0 ≡ size len low
size_of len low rest l s = back (size len low) rest (omega arith)

pub size_len : (len low : ℕ) → len < 2 ^ 16 → low < 2 ^ 16 → field (size len low) 0 15 ≡ len
size_len len low l s = omega arith

pub size_low : (len low : ℕ) → len < 2 ^ 16 → low < 2 ^ 16 → field (size len low) 16 31 ≡ low
size_low len low l s = omega arith

-- what a spelled quadlet 3 has
pub record HasSize (len low : ℕ) (rest : List ℕ) : Type 0 where
  pub count : field (quadlet_at (to_be_bytes w32 (size len low) ++ rest) 0) 0 15 ≡ len
  pub function : field (quadlet_at (to_be_bytes w32 (size len low) ++ rest) 0) 16 31 ≡ low

pub size_in : (len low : ℕ) (rest : List ℕ) → len < 2 ^ 16 → low < 2 ^ 16 → HasSize len low rest
size_in len low rest few small =
    let q = size_of len low rest few small in
    record { count = ap (λ q. field q 0 15) q ∙ size_len len low few small; function = ap (λ q. field q 16 31) q ∙ size_low len low few small }

block_size : (t q len : ℕ) → IsTrue (is_block t) → field q 16 31 ≡ 0 → field q 0 15 ≡ len → len ≤ 512 → fault_in_quadlet_3 t q ≡ None
unfolding fault_in_quadlet_3
block_size t q len b low l few = rw (low, l) (block (is_block t) len _ b few)
  where
    block : (b : Bool) (len : ℕ) (x : Option PacketFault) → IsTrue b → len ≤ 512 → (if b then (if nat_lt 512 len then Some (TooLong len) else None) else x) ≡ None
    block b len x h few = grind (arith, nat_tests)

lock_size : (t q len low : ℕ) → is_block t ≡ false → field q 16 31 ≡ low → field q 0 15 ≡ len → 0 < low → low < 8 → IsTrue (if t == 9 then is_lock_size low len else is_reply_size len)
    → fault_in_quadlet_3 t q ≡ None
unfolding fault_in_quadlet_3
lock_size t q len low b e l some few fits = rw (b, e, l) (lock (is_lock t) len low (if t == 9 then is_lock_size low len else is_reply_size len) some few fits)
  where
    lock : (b : Bool) (len low : ℕ) (c : Bool) → 0 < low → low < 8 → IsTrue c
        → (if b then (if (low == 0) || nat_lt 7 low then Some (Reserved 112) else if c then None else Some (BadLength len)) else None) ≡ None
    lock b len low c some few h = grind (arith, nat_tests)

-- zeros show no fault
zeros_clear : (bytes : List ℕ) (at n : ℕ) → ((i : ℕ) → i < n → get_or bytes (at + i) 0 ≡ 0) → fault_in_padding bytes at n ≡ None
unfolding fault_in_padding
zeros_clear bytes at zero h = refl
zeros_clear bytes at (suc n) h =
    let here : get_or bytes at 0 ≡ 0 = ap (λ (k : ℕ). get_or bytes k 0) (sym (add-zero at)) ∙ h 0 (omega arith) in
    let less : suc n - 1 ≡ n = omega arith in
    padding_next bytes at (suc n) (omega arith) here ∙ ap (fault_in_padding bytes (at + 1)) less
    ∙ zeros_clear bytes (at + 1) n (λ i in_rest. subst (λ (k : ℕ). get_or bytes k 0 ≡ 0) (sym (add_assoc at 1 i)) (h (1 + i) (omega arith)))

after_zeros : (prefix : List ℕ) (k at i n : ℕ) → at ≡ length prefix → n ≡ length (prefix ++ replicate k 0) - at → i < n → get_or (prefix ++ replicate k 0) (at + i) 0 ≡ 0
after_zeros prefix k at i n e m less =
    let inside : i < k = omega (arith, length-append prefix (replicate k 0), length-replicate {A = ℕ} k 0) in
    ap (λ (j : ℕ). get_or (prefix ++ replicate k 0) (j + i) 0) e ∙ get_or-append-add prefix (replicate k 0) i 0 ∙ get_or-replicate k i 0 0 inside

-- what stands after the bytes of a packet with data shows no fault
padding_clear : (prefix : List ℕ) (k at : ℕ) → at ≡ length prefix → fault_in_padding (prefix ++ replicate k 0) at (length (prefix ++ replicate k 0) - at) ≡ None
padding_clear prefix k at e = zeros_clear (prefix ++ replicate k 0) at (length (prefix ++ replicate k 0) - at) (λ i less. after_zeros prefix k at i (length (prefix ++ replicate k 0) - at) e refl less)

-- four quadlets, bytes and their padding
abbrev pub with_data : ℕ → ℕ → ℕ → ℕ → List ℕ → List ℕ
with_data a b c d bytes = to_be_bytes w32 a ++ (to_be_bytes w32 b ++ (to_be_bytes w32 c ++ (to_be_bytes w32 d ++ padded bytes)))

data_clear : (a b c low : ℕ) (bytes : List ℕ) → length bytes < 2 ^ 16 → low < 2 ^ 16
    → let all = with_data a b c (size (length bytes) low) bytes in fault_in_padding all (end_of_data all) (length all - end_of_data all) ≡ None
data_clear a b c low bytes few small =
    let all = with_data a b c (size (length bytes) low) bytes in
    let len : field (quadlet_at (to_be_bytes w32 (size (length bytes) low) ++ padded bytes) 0) 0 15 ≡ length bytes =
    ap (λ q. field q 0 15) (size_of (length bytes) low (padded bytes) few small) ∙ size_len (length bytes) low few small in
    rw len (padding_clear (to_be_bytes w32 a ++ (to_be_bytes w32 b ++ (to_be_bytes w32 c ++ (to_be_bytes w32 (size (length bytes) low) ++ bytes)))) (padding (length bytes)) (16 + length bytes)
    (omega arith))

pub lock_few : (f len : ℕ) → IsTrue (is_lock_size f len) → len < 2 ^ 16
lock_few f len h = grind (arith, nat_tests)

pub reply_few : (len : ℕ) → IsTrue (is_reply_size len) → len < 2 ^ 16
reply_few len h = grind (arith, nat_tests)

pub spelled_none : (p : Packet) → Fits p → fault_of (spelling p) ≡ None
unfolding fault_in_quadlet_0 fault_in_quadlet_1 fault_in_quadlet_2 fault_in_quadlet_3
spelled_none (WriteQuadlet h o v) fits =
    let all = spelling (WriteQuadlet h o v) in
    clear all 0 (spelled_tcode 0 h (drop 4 all) (omega arith) fits.0) refl refl refl refl (λ b. cc)
spelled_none (WriteBlock h o bytes) fits =
    let all = spelling (WriteBlock h o bytes) in
    let s = size_in (length bytes) 0 (padded bytes) (omega (arith, fits.2)) (omega arith) in
    clear all 1 (spelled_tcode 1 h (drop 4 all) (omega arith) fits.0) refl refl refl
    (block_size 1 (quadlet_at all 12) (length bytes) refl s.function s.count fits.2) (λ b. data_clear _ _ _ 0 bytes (omega (arith, fits.2)) (omega arith))
spelled_none (WriteReply h r) fits =
    let all = spelling (WriteReply h r) in
    clear all 2 (spelled_tcode 2 h (drop 4 all) (omega arith) fits.0) refl (response_second 2 h.source r (drop 8 all) fits.0.4 fits.1) (response_third 2 (drop 12 all)) refl (λ b. cc)
spelled_none (ReadQuadlet h o) fits =
    let all = spelling (ReadQuadlet h o) in
    clear all 4 (spelled_tcode 4 h (drop 4 all) (omega arith) fits.0) refl refl refl refl (λ b. cc)
spelled_none (ReadBlock h o len) fits =
    let all = spelling (ReadBlock h o len) in
    let s = size_in len 0 [] (omega (arith, fits.2)) (omega arith) in
    clear all 5 (spelled_tcode 5 h (drop 4 all) (omega arith) fits.0) refl refl refl
    (block_size 5 (quadlet_at all 12) len refl s.function s.count fits.2) (λ b. cc)
spelled_none (ReadQuadletReply h r v) fits =
    let all = spelling (ReadQuadletReply h r v) in
    clear all 6 (spelled_tcode 6 h (drop 4 all) (omega arith) fits.0) refl (response_second 6 h.source r (drop 8 all) fits.0.4 fits.1) (response_third 6 (drop 12 all)) refl (λ b. cc)
spelled_none (ReadBlockReply h r bytes) fits =
    let all = spelling (ReadBlockReply h r bytes) in
    let s = size_in (length bytes) 0 (padded bytes) (omega (arith, fits.2)) (omega arith) in
    clear all 7 (spelled_tcode 7 h (drop 4 all) (omega arith) fits.0) refl (response_second 7 h.source r (drop 8 all) fits.0.4 fits.1) (response_third 7 (drop 12 all))
    (block_size 7 (quadlet_at all 12) (length bytes) refl s.function s.count fits.2) (λ b. data_clear _ _ 0 0 bytes (omega (arith, fits.2)) (omega arith))
spelled_none (CycleStart h o time) fits =
    let all = spelling (CycleStart h o time) in
    clear all 8 (spelled_tcode 8 h (drop 4 all) (omega arith) fits.0) refl refl refl refl (λ b. cc)
spelled_none (Lock h o f bytes) fits =
    let all = spelling (Lock h o f bytes) in
    let s = size_in (length bytes) f (padded bytes) (lock_few f (length bytes) fits.4) (omega (arith, fits.3)) in
    clear all 9 (spelled_tcode 9 h (drop 4 all) (omega arith) fits.0) refl refl refl
    (lock_size 9 (quadlet_at all 12) (length bytes) f refl s.function s.count fits.2 fits.3 fits.4) (λ b. data_clear _ _ _ f bytes (lock_few f (length bytes) fits.4) (omega (arith, fits.3)))
spelled_none (LockReply h r f bytes) fits =
    let all = spelling (LockReply h r f bytes) in
    let s = size_in (length bytes) f (padded bytes) (reply_few (length bytes) fits.4) (omega (arith, fits.3)) in
    clear all 11 (spelled_tcode 11 h (drop 4 all) (omega arith) fits.0) refl (response_second 11 h.source r (drop 8 all) fits.0.4 fits.1) (response_third 11 (drop 12 all))
    (lock_size 11 (quadlet_at all 12) (length bytes) f refl s.function s.count fits.2 fits.3 fits.4) (λ b. data_clear _ _ 0 f bytes (reply_few (length bytes) fits.4) (omega (arith, fits.3)))
