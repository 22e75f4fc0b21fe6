-- What is left of a list.
use Rattle.std.proofs.Common.{◌≡◌, ℕ, zero, suc, ◌+◌, ◌≤◌, ◌<◌, List, [], ◌∷◌, ◌++◌, length, drop, map, get_or, refl, ap, sym, ◌∙◌, arith, append_assoc, add-one, drop-cons}
use Rattle.fw_script_command.specs.Form.{after_first}

-- nothing is left after all
pub none_left : {A : Type 0} (xs : List A) (i : ℕ) → length xs ≤ i → drop i xs ≡ []
none_left [] zero h = refl
none_left [] (suc i) h = refl
none_left (x ∷ xs) zero h = absurd (omega arith)
none_left (x ∷ xs) (suc i) h = none_left xs i (omega arith)

-- after the first of what is left
pub after_left : (xs : List (List ℕ)) (i : ℕ) → after_first (drop i xs) ≡ drop (i + 1) xs
after_left xs i = by xs i ∙ ap (λ (k : ℕ). drop k xs) (sym (add-one i))
  where
    by : (xs : List (List ℕ)) (i : ℕ) → after_first (drop i xs) ≡ drop (suc i) xs
    by [] zero = refl
    by [] (suc i) = refl
    by (x ∷ xs) zero = refl
    by (x ∷ xs) (suc i) = by xs i

-- a text that grows by what is made of each byte
pub mapped_on : (f : ℕ → ℕ) (bs text new all : List ℕ) (i y : ℕ) → i < length bs → y ≡ f (get_or bs i 0) → text ++ map f (drop i bs) ≡ all → new ≡ text ++ y ∷ [] → new ++ map f (drop (i + 1) bs) ≡ all
mapped_on f bs text new all i y lt is before grew =
    ap (λ (t : List ℕ). t ++ map f (drop (i + 1) bs)) grew ∙ append_assoc text (y ∷ []) (map f (drop (i + 1) bs))
    ∙ ap (λ (t : List ℕ). text ++ t) (ap (λ (k : ℕ). y ∷ map f (drop k bs)) (add-one i) ∙ ap (λ (x : ℕ). x ∷ map f (drop (suc i) bs)) is ∙ ap (λ (l : List ℕ). map f l) (sym (drop-cons bs i 0 lt)))
    ∙ before
