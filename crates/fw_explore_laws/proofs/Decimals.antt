-- Numbers as they are written: digits, which a script reads as the number.
use Rattle.fw_explore_laws.proofs.Common.{ℕ, zero, suc, ◌≡◌, ◌+◌, ◌≤◌, ◌<◌, ◌==◌, ◌&&◌, not, nat_le, List, [], ◌∷◌, Bool, true, false, decimal, length, Some, if◌then◌else◌, refl, sym, subst, arith}
use Rattle.fw_explore_laws.proofs.Common.{list_all, and_parts, nat_tests, same_Some}
use Rattle.std.proofs.Common.{◌/◌, ◌%◌, ◌^◌, ◌||◌, nat_lt}
use Rattle.std.proofs.Common.{slice_index}
use Rattle.std.specs.Char.{is_ascii_digit}
use Rattle.std.specs.Fmt.{digit_glyph, digits_onto, digits}
use Rattle.std.specs.Str.Parse.{digits_value}
use Rattle.std.proofs.lemmas.Fmt.{decimal_is_IsNumeral, decimal_nonempty, first_decimal}
use Rattle.fw_script_command.specs.Words.{is_decimal, number_in, only_if}
use Rattle.fw_explore_laws.proofs.Words.{both_true}

-- what a digit of ten has, the number has
digit_at : (test : ℕ → Bool) → ((d : ℕ) → d < 10 → test (48 + d) ≡ true) → (d : ℕ) → d < 10 → test (digit_glyph false d) ≡ true
digit_at test so d low = go (nat_lt d 10) refl
  where
    go : (b : Bool) → nat_lt d 10 ≡ b → test (if b then 48 + d else 87 + d) ≡ true
    go true e = so d low
    go false e = absurd (let high : 10 ≤ d = grind (arith, nat_tests) in omega (arith, low, high))

digits_all : (test : ℕ → Bool) → ((d : ℕ) → d < 10 → test (48 + d) ≡ true) → (k n : ℕ) (rest : List ℕ) → list_all test rest ≡ true → list_all test (digits_onto k 10 false n rest) ≡ true
digits_all test so zero n rest all = all
digits_all test so (suc k) n rest all =
    go (n / 10 == 0) (digit_glyph false (n % 10) ∷ rest) (digits_onto k 10 false (n / 10) (digit_glyph false (n % 10) ∷ rest)) (both_true (digit_at test so (n % 10) (omega arith)) all)
    (digits_all test so k (n / 10) (digit_glyph false (n % 10) ∷ rest) (both_true (digit_at test so (n % 10) (omega arith)) all))
  where
    go : (b : Bool) (x y : List ℕ) → list_all test x ≡ true → list_all test y ≡ true → list_all test (if b then x else y) ≡ true
    go true x y p q = p
    go false x y p q = q

pub decimal_all : (test : ℕ → Bool) → ((d : ℕ) → d < 10 → test (48 + d) ≡ true) → (n : ℕ) → list_all test (decimal n) ≡ true
unfolding digits
decimal_all test so n = digits_all test so 64 n [] refl

digit_is : (d : ℕ) → d < 10 → is_ascii_digit (48 + d) ≡ true
digit_is d low = grind (arith, nat_tests)

pub decimal_digits : (n : ℕ) → list_all is_ascii_digit (decimal n) ≡ true
decimal_digits n = decimal_all is_ascii_digit digit_is n

-- a number that is not 0 is read back
pub decimal_read : (low high n : ℕ) → low ≤ n → n ≤ high → 0 < n → n < 2 ^ 64 → number_in low high (decimal n) ≡ Some n
decimal_read low high n least most some small = go (digits_value 10 (decimal n)) (decimal_is_IsNumeral n small).1
  where
    at_least : nat_le 1 (length (decimal n)) ≡ true
    at_least = let l = decimal_nonempty n small in grind (arith, nat_tests)

    no_zero : not (slice_index (decimal n) 0 == 48) ≡ true
    no_zero = let l = first_decimal n some small in grind (arith, nat_tests)

    either : (x : Bool) {y : Bool} → y ≡ true → (x || y) ≡ true
    either true e = refl
    either false e = e

    is : is_decimal (decimal n) ≡ true
    is = both_true (both_true at_least (decimal_digits n)) (either (nat_le (length (decimal n)) 1) no_zero)

    within_low : nat_le low n ≡ true
    within_low = grind (arith, nat_tests)

    within_high : nat_le n high ≡ true
    within_high = grind (arith, nat_tests)

    so : (b : Bool) (x : ℕ) → b ≡ true → only_if b x ≡ Some x
    so true x e = refl
    so false x e = absurd cc

    go : (v : ℕ) → v ≡ n → only_if (is_decimal (decimal n) && nat_le low v && nat_le v high) v ≡ Some n
    go v e = subst (λ (z : ℕ). only_if (is_decimal (decimal n) && nat_le low z && nat_le z high) z ≡ Some n) (sym e)
        (so (is_decimal (decimal n) && nat_le low n && nat_le n high) n (both_true (both_true is within_low) within_high))

-- what is read is in its range
pub number_range : (low high : ℕ) (w : List ℕ) (n : ℕ) → number_in low high w ≡ Some n → (low ≤ n) × (n ≤ high)
number_range low high w n e = go (digits_value 10 w) e
  where
    only : (b : Bool) (x : ℕ) → only_if b x ≡ Some n → (b ≡ true) × (x ≡ n)
    only true x h = (refl, same_Some x n h)
    only false x h = absurd cc

    go : (v : ℕ) → only_if (is_decimal w && nat_le low v && nat_le v high) v ≡ Some n → (low ≤ n) × (n ≤ high)
    go v h =
        let is = only (is_decimal w && nat_le low v && nat_le v high) v h in
        let last = and_parts (is_decimal w && nat_le low v) (nat_le v high) is.0 in
        let first = and_parts (is_decimal w) (nat_le low v) last.0 in
        (grind (arith, nat_tests), grind (arith, nat_tests))
