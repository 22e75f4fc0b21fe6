-- What the quadlets of a packet have that shows no fault.
use Rattle.fw_async_fields.proofs.Common.{◌≡◌, ℕ, ◌+◌, ◌%◌, ◌^◌, ◌≤◌, ◌<◌, List, length, Bool, true, false, IsTrue, nat_lt, Option, Some, None, arith, refl, ◌==◌, ◌||◌, if◌then◌else◌}
use Rattle.fw_async_fields.proofs.Common.{nat_tests, field, quadlet_at, AreBytes, padding, is_lock_size, is_reply_size, has_data, fault_in_quadlet_0, fault_in_quadlet_1, fault_in_quadlet_2}
use Rattle.fw_async_fields.proofs.Common.{fault_in_quadlet_3, fault_of, tcode_of, need, PacketFault}
use Rattle.std.specs.Option.{option_map}
use Rattle.fw_words.specs.Quadlet.{first_set}
use Rattle.fw_words.proofs.FirstSet.{low_zero}
use Rattle.fw_async_fields.specs.Tcode.{has_quadlet_3, is_known, is_response, is_block, is_lock}
use Rattle.fw_async_fields.specs.Reading.{reserved, IsSound}
use Rattle.fw_async_fields.specs.declared.PacketFault.TheVariants.{Reserved, TooLong, BadLength}
use Rattle.fw_async_fields.proofs.ReadingLaws.{no_fault, are_bytes_part}

block_low : (low len : ℕ) (x : Option PacketFault) → (if low == 0 then (if nat_lt 512 len then Some (TooLong len) else None) else x) ≡ None → (x ≡ None → low ≡ 0) → (low ≡ 0) × (len ≤ 512)
block_low low len x h clear = (grind (arith, nat_tests, clear), grind (arith, nat_tests, clear))

lock_no_block : (t : ℕ) → IsTrue (is_lock t) → is_block t ≡ false
lock_no_block t b = grind (arith, nat_tests)

lock_low : (low len : ℕ) (b : Bool) → (if (low == 0) || nat_lt 7 low then Some (Reserved 112) else if b then None else Some (BadLength len)) ≡ None → (0 < low) × (low < 8) × IsTrue b
lock_low low len b h = (grind (arith, nat_tests), grind (arith, nat_tests), grind (arith, nat_tests))

pub known_of : (t : ℕ) → fault_in_quadlet_0 t ≡ None → IsTrue (is_known t)
unfolding fault_in_quadlet_0
known_of t h = grind (arith, nat_tests)

map_none : {A B : Type 0} (f : A → B) (x : Option A) → option_map f x ≡ None → x ≡ None
map_none f None h = refl
map_none f (Some x) h = cc

yes : {A : Type 0} (b : Bool) (x y z : A) → IsTrue b → (if b then x else y) ≡ z → x ≡ z
yes true x y z t h = h
yes false x y z t h = cc

no : {A : Type 0} (b : Bool) (x y z : A) → b ≡ false → (if b then x else y) ≡ z → y ≡ z
no true x y z t h = cc
no false x y z t h = h

low_of : (before q at n : ℕ) → at + n ≡ 32 → reserved before q at n ≡ None → q % 2 ^ n ≡ 0
low_of before q at n whole h = low_zero q at n whole (map_none (λ bit. Reserved (before + bit)) (first_set q at n) h)

second_of : (t q : ℕ) → fault_in_quadlet_1 t q ≡ None → IsTrue (is_response t) → q % 4096 ≡ 0
unfolding fault_in_quadlet_1
second_of t q h r = low_of 32 q 20 12 refl (yes (is_response t) _ _ _ r h)

third_of : (t q : ℕ) → q < 2 ^ 32 → fault_in_quadlet_2 t q ≡ None → IsTrue (is_response t) → q ≡ 0
unfolding fault_in_quadlet_2
third_of t q small h r = let low = low_of 64 q 0 32 refl (yes (is_response t) _ _ _ r h) in omega arith

pub block_of : (t q : ℕ) → fault_in_quadlet_3 t q ≡ None → IsTrue (is_block t) → (field q 16 31 ≡ 0) × (field q 0 15 ≤ 512)
unfolding fault_in_quadlet_3
block_of t q h b =
    let e = yes (is_block t) _ _ _ b h in
    let low = block_low (field q 16 31) (field q 0 15) (reserved 96 q 16 16) e (λ none. omega (arith, low_of 96 q 16 16 refl none)) in
    low

pub lock_of : (t q : ℕ) → fault_in_quadlet_3 t q ≡ None → IsTrue (is_lock t) → (0 < field q 16 31) × (field q 16 31 < 8)
    × IsTrue (if t == 9 then is_lock_size (field q 16 31) (field q 0 15) else is_reply_size (field q 0 15))
unfolding fault_in_quadlet_3
lock_of t q h b =
    let differ : is_block t ≡ false = lock_no_block t b in
    let e = yes (is_lock t) _ _ _ b (no (is_block t) _ _ _ differ h) in
    lock_low (field q 16 31) (field q 0 15) (if t == 9 then is_lock_size (field q 16 31) (field q 0 15) else is_reply_size (field q 0 15)) e

pub need_fourth : (n len : ℕ) (f b : Bool) → n ≡ (if nat_lt n 4 then 12 else if f then (if nat_lt n 16 then 16 else if b then 16 + len + padding len else 16) else 12) → IsTrue f → 16 ≤ n
need_fourth n len f b h t = grind (arith, nat_tests)

block_fourth : (t : ℕ) → IsTrue (is_block t) → IsTrue (has_quadlet_3 t)
block_fourth t b = grind (arith, nat_tests)

lock_fourth : (t : ℕ) → IsTrue (is_lock t) → IsTrue (has_quadlet_3 t)
lock_fourth t b = grind (arith, nat_tests)

request_size : (t : ℕ) (x y : Bool) → t ≡ 9 → IsTrue (if t == 9 then x else y) → IsTrue x
request_size t x y e h = grind (arith, nat_tests)

response_size : (t : ℕ) (x y : Bool) → t ≡ 11 → IsTrue (if t == 9 then x else y) → IsTrue y
response_size t x y e h = grind (arith, nat_tests)

pub below : (bytes : List ℕ) (at : ℕ) → AreBytes bytes → quadlet_at bytes at < 2 ^ 32
below bytes at fit = let p = are_bytes_part bytes 4 at fit in omega (arith, p 0, p 1, p 2, p 3)

pub sound_of : (bytes : List ℕ) → 12 ≤ length bytes → length bytes ≡ need bytes → AreBytes bytes → fault_of bytes ≡ None
    → IsSound (tcode_of bytes) (quadlet_at bytes 4) (quadlet_at bytes 8) (quadlet_at bytes 12)
sound_of bytes begun whole fit h =
    let n = no_fault bytes (omega arith) h in
    let fourth = λ (t : IsTrue (has_quadlet_3 (tcode_of bytes))). need_fourth (length bytes) (field (quadlet_at bytes 12) 0 15) (has_quadlet_3 (tcode_of bytes)) (has_data (tcode_of bytes)) whole t in
    let lock = λ (b : IsTrue (is_lock (tcode_of bytes))). lock_of _ _ (n.fourth (fourth (lock_fourth (tcode_of bytes) b))) b in
    record {
      known = known_of (tcode_of bytes) n.known;
      response = λ r. (second_of _ _ (n.second (omega arith)) r, third_of _ _ (below bytes 8 fit) (n.third begun) r);
      block = λ b. block_of _ _ (n.fourth (fourth (block_fourth (tcode_of bytes) b))) b;
      lock = λ b. ((lock b).0, (lock b).1);
      lock_request = λ e. request_size _ _ _ e (lock (grind (arith, nat_tests))).2;
      lock_response = λ e. response_size _ _ _ e (lock (grind (arith, nat_tests))).2;
    }
