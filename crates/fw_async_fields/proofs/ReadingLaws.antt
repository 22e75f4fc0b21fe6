-- Laws of the words of specs/Reading.antt.
use Rattle.fw_async_fields.proofs.Common.{◌≡◌, ◌≢◌, ℕ, suc, ◌+◌, ◌-◌, ◌/◌, ◌%◌, ◌^◌, ◌≤◌, ◌<◌, List, slice_index, length, take, drop, Bool, true, false, IsTrue, nat_lt, Option, Some, None}
use Rattle.fw_async_fields.proofs.Common.{arith, refl, ap}
use Rattle.fw_async_fields.proofs.Common.{◌∙◌, ◌==◌, if◌then◌else◌, nat_tests, common_steps, quadlet_at, field, AreBytes, has_data, fault_in_padding, fault_in_quadlet_0, fault_in_quadlet_1}
use Rattle.fw_async_fields.proofs.Common.{fault_in_quadlet_2, fault_in_quadlet_3, fault_of, tcode_of, end_of_data, PacketFault}
use Rattle.std.specs.Option.{option_map}
use Rattle.fw_words.specs.Quadlet.{first_set}
use Rattle.fw_words.proofs.FirstSet.{first_set_zero}
use Rattle.fw_async_fields.specs.Reading.{reserved, or_else}
use Rattle.fw_async_fields.specs.declared.PacketFault.TheVariants.{BadPadding, Reserved}

padding_step : (bytes : List ℕ) (at n : ℕ) → fault_in_padding bytes at (suc n) ≡ (if slice_index bytes at == 0 then fault_in_padding bytes (at + 1) n else Some (BadPadding at))
unfolding fault_in_padding
padding_step bytes at n = refl

pub padding_none : (bytes : List ℕ) (at n : ℕ) → n ≡ 0 → None ≡ fault_in_padding bytes at n
unfolding fault_in_padding
padding_none bytes at n e = rw e refl

pub padding_here : (bytes : List ℕ) (at n : ℕ) → 0 < n → slice_index bytes at ≢ 0 → Some (BadPadding at) ≡ fault_in_padding bytes at n
padding_here bytes at n some h = let e : n ≡ suc (n - 1) = omega arith in rw (e, padding_step) (grind (arith, nat_tests))

pub padding_next : (bytes : List ℕ) (at n : ℕ) → 0 < n → slice_index bytes at ≡ 0 → fault_in_padding bytes at n ≡ fault_in_padding bytes (at + 1) (n - 1)
padding_next bytes at n some h = let e : n ≡ suc (n - 1) = omega arith in rw e (padding_step bytes at (n - 1) ∙ grind (arith, nat_tests))

-- Bytes of a part are bytes.
pub are_bytes_part : (xs : List ℕ) (n k : ℕ) → AreBytes xs → AreBytes (take n (drop k xs))
are_bytes_part xs n k h i = grind (arith, common_steps, h (k + i))

none_of : (x y : Option PacketFault) → or_else x y ≡ None → (x ≡ None) × (y ≡ None)
none_of None y h = (refl, h)
none_of (Some x) y h = cc

-- what no fault says of each quadlet
pub record NoFault (bytes : List ℕ) : Type 0 where
  pub known : fault_in_quadlet_0 (tcode_of bytes) ≡ None
  pub second : 8 ≤ length bytes → fault_in_quadlet_1 (tcode_of bytes) (quadlet_at bytes 4) ≡ None
  pub third : 12 ≤ length bytes → fault_in_quadlet_2 (tcode_of bytes) (quadlet_at bytes 8) ≡ None
  pub fourth : 16 ≤ length bytes → fault_in_quadlet_3 (tcode_of bytes) (quadlet_at bytes 12) ≡ None
  pub padding : 16 ≤ length bytes → IsTrue (has_data (tcode_of bytes)) → fault_in_padding bytes (end_of_data bytes) (length bytes - end_of_data bytes) ≡ None

open_test : (m n : ℕ) (x : Option PacketFault) → n ≤ m → (if nat_lt m n then None else x) ≡ None → x ≡ None
open_test m n x h e = grind (arith, nat_tests)

open_bytes : (b : Bool) (x : Option PacketFault) → IsTrue b → (if b then x else None) ≡ None → x ≡ None
open_bytes true x t e = e
open_bytes false x t e = cc

pub no_fault : (bytes : List ℕ) → 4 ≤ length bytes → fault_of bytes ≡ None → NoFault bytes
no_fault bytes begun h =
    let a = none_of _ _ (open_test (length bytes) 4 _ begun h) in
    let b = λ (m : 8 ≤ length bytes). none_of _ _ (open_test (length bytes) 8 _ m a.1) in
    let c = λ (m : 12 ≤ length bytes). none_of _ _ (open_test (length bytes) 12 _ m (b (omega arith)).1) in
    let d = λ (m : 16 ≤ length bytes). none_of _ _ (open_test (length bytes) 16 _ m (c (omega arith)).1) in
    record {
      known = a.0;
      second = λ m. (b m).0;
      third = λ m. (c m).0;
      fourth = λ m. (d m).0;
      padding = λ m t. open_bytes _ _ t (d m).1;
    }

none_map : (before : ℕ) (x : Option ℕ) → x ≡ None → option_map (λ bit. Reserved (before + bit)) x ≡ None
none_map before x e = rw e refl

-- if no bit from first on is 1, none is reserved
pub reserved_none : (before q first : ℕ) → first ≤ 31 → field q first 31 ≡ 0 → reserved before q first (32 - first) ≡ None
reserved_none before q first within h =
    let e : first + (32 - first) ≡ 32 = omega arith in
    let wide : 32 - first ≡ 31 - first + 1 = omega arith in
    let whole : q ≡ q / 1 = omega arith in
    let low : q % 2 ^ (32 - first) ≡ 0 = ap (λ (n : ℕ). q % 2 ^ n) wide ∙ ap (λ (x : ℕ). x % 2 ^ (31 - first + 1)) whole ∙ h in
    none_map before (first_set q first (32 - first)) (first_set_zero q first (32 - first) e low)
