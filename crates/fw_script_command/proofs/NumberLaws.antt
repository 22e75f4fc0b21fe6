-- Decimal digits, as `parse` reads them.
use Rattle.std.proofs.Common.{◌≡◌, ℕ, zero, suc, ◌^◌, ◌<◌, ◌≤◌, List, [], ◌∷◌, length, true, IsTrue, Result, Ok, Err, arith}
use Rattle.std.proofs.lemmas.Bool.Decides.{nat_tests}
use Rattle.std.specs.List.{list_all}
use Rattle.std.specs.Char.{is_ascii_digit}
use Rattle.std.specs.Str.{all_ascii_digits, IsAscii, IsUtf8}
use Rattle.std.specs.Str.Parse.{ParsesUnsigned, digits_value}
use Rattle.std.proofs.lemmas.Str.{IsUtf8-from_ascii}
use Rattle.std.proofs.lemmas.Str.Parse.{IsNumeralModel, numerals_by_value, tells_all_ascii_digits, parse_gives}
use Rattle.fw_script_command.specs.Words.{is_decimal}

own : IsNumeralModel (λ ds. all_ascii_digits ds ≡ true) (digits_value 10)
own = numerals_by_value (λ ds. all_ascii_digits ds ≡ true) tells_all_ascii_digits

pub all_digits : (w : List ℕ) → is_decimal w ≡ true → list_all is_ascii_digit w ≡ true
all_digits w h = grind (arith, nat_tests)

some_digit : (w : List ℕ) → is_decimal w ≡ true → 0 < length w
some_digit w h = grind (arith, nat_tests)

pub parsed : {E : Type 0} (w : List ℕ) (r : Result ℕ E) → ParsesUnsigned 32 10 w r → is_decimal w ≡ true → digits_value 10 w < 2 ^ 32 → r ≡ Ok (digits_value 10 w)
parsed w r h is small = parse_gives own 32 w r h (all_digits w is) (some_digit w is) small

-- what is not read is too large
pub too_large : {E : Type 0} (w : List ℕ) (r : Result ℕ E) (e : E) → ParsesUnsigned 32 10 w r → r ≡ Err e → is_decimal w ≡ true → 2 ^ 32 ≤ digits_value 10 w
too_large w r e h is d = by_size (digits_value 10 w) (λ small. let p = parsed w r h d small in cc)
  where
    by_size : (n : ℕ) → (n < 2 ^ 32 → ⊥) → 2 ^ 32 ≤ n
    by_size n not = omega arith

digits_ascii : (w : List ℕ) → IsTrue (list_all is_ascii_digit w) → IsAscii w
digits_ascii [] h i = omega arith
digits_ascii (b ∷ w) h zero = grind (arith, nat_tests)
digits_ascii (b ∷ w) h (suc i) = digits_ascii w (grind (arith, nat_tests)) i

pub digits_utf8 : (w : List ℕ) → is_decimal w ≡ true → IsUtf8 w
digits_utf8 w h = IsUtf8-from_ascii w (digits_ascii w (all_digits w h))
