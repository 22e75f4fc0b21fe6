-- A name and a number, cut at the first full stop: the digits of the number have none.
use Rattle.std.proofs.Common.{◌≡◌, ℕ, zero, suc, List, [], ◌∷◌, ◌++◌, ◌&&◌, nat_le, Bool, true, false, IsTrue, Option, Some, None, cond, arith, refl, ap, sym, ◌∙◌}
use Rattle.std.proofs.lemmas.Bool.Decides.{nat_tests}
use Rattle.std.specs.List.{list_all}
use Rattle.std.specs.Char.{is_ascii_digit}
use Rattle.std.specs.Str.Parse.{digits_value}
use Rattle.fw_script_command.specs.Pieces.{IsFree, pieces, separated}
use Rattle.fw_script_command.specs.Words.{both, is_decimal, name_in, number_in, place_by, place_in}
use Rattle.fw_script_command.proofs.NumberLaws.{all_digits}
use Rattle.fw_script_command.proofs.PiecesLaws.{pieces_cut, pieces_free, pieces_part, pieces_some}

digits_free : (w : List ℕ) → IsTrue (list_all is_ascii_digit w) → IsFree 46 w
digits_free [] h k low e = omega (arith, low)
digits_free (b ∷ w) h zero low e = grind (arith, nat_tests)
digits_free (b ∷ w) h (suc k) low e = digits_free w (grind (arith, nat_tests)) k (omega (arith, low)) e

number_free : (low high n : ℕ) (w : List ℕ) → number_in low high w ≡ Some n → IsFree 46 w
number_free low high n w is = go (is_decimal w) refl is
  where
    go : (b : Bool) → is_decimal w ≡ b → cond (b && nat_le low (digits_value 10 w) && nat_le (digits_value 10 w) high) (Some (digits_value 10 w)) None ≡ Some n → IsFree 46 w
    go true e is = digits_free w (all_digits w e)
    go false e is = absurd (let z : ⊥ = cc in z)

pub both_none : (name : Option (List ℕ)) → None ≡ both name None
both_none None = refl
both_none (Some name) = refl

-- the number is what comes after the full stop, whole
one_number : (high : ℕ) (u v : List ℕ) (ws : List (List ℕ)) → pieces 46 v ≡ ws → both (name_in u) (number_in 0 high v) ≡ place_by high (u ∷ ws)
one_number high u v [] is = absurd (pieces_some 46 v is)
one_number high u v (x ∷ []) is = ap (λ w. both (name_in u) (number_in 0 high w)) (sym (pieces_part 46 v).0 ∙ ap (λ ws. separated 46 ws) is)
one_number high u v (x ∷ y ∷ ws) is = go (number_in 0 high v) refl
  where
    go : (n : Option ℕ) → number_in 0 high v ≡ n → both (name_in u) n ≡ None
    go None e = sym (both_none (name_in u))
    go (Some n) e = absurd (let one = pieces_free 46 v (number_free 0 high n v e) in let two : v ∷ [] ≡ x ∷ y ∷ ws = sym one ∙ is in cc)

pub place_cut : (high : ℕ) (w u v : List ℕ) → w ≡ u ++ 46 ∷ v → IsFree 46 u → both (name_in u) (number_in 0 high v) ≡ place_in high w
place_cut high w u v is free = one_number high u v (pieces 46 v) refl ∙ ap (place_by high) (sym (ap (pieces 46) is ∙ pieces_cut 46 u v free))

pub place_whole : (high : ℕ) (w : List ℕ) → IsFree 46 w → None ≡ place_in high w
place_whole high w free = sym (ap (place_by high) (pieces_free 46 w free))
