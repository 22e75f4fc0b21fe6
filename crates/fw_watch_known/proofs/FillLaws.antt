-- A list that is filled from its beginning on.
use Rattle.std.proofs.Common.{◌≡◌, refl, ap, sym, ◌∙◌, ℕ, zero, suc, ◌+◌, ◌<◌, List, [], ◌∷◌, ◌++◌, length, take, replicate, add-one, arith}
use Rattle.std.proofs.lemmas.List.{replicate_more}
use Rattle.std.proofs.Math.ListN.{set}

-- so many places at the beginning have this, and the length is this
pub record Filled {X : Type 0} (xs : List X) (n total : ℕ) (y : X) : Type 0 where
  pub prefix : take n xs ≡ replicate n y
  pub size : length xs ≡ total

pub take_all : {X : Type 0} → (xs : List X) → take (length xs) xs ≡ xs
take_all [] = refl
take_all (x ∷ xs) = ap (λ ys. x ∷ ys) (take_all xs)

take_set : {X : Type 0} → (xs : List X) (i : ℕ) (y : X) → i < length xs → take (suc i) (set xs i y) ≡ take i xs ++ y ∷ []
take_set [] i y h = absurd (omega (arith, h))
take_set (x ∷ xs) zero y h = refl
take_set (x ∷ xs) (suc i) y h = ap (λ ys. x ∷ ys) (take_set xs i y (omega (arith, h)))

length_set : {X : Type 0} → (xs : List X) (i : ℕ) (y : X) → length (set xs i y) ≡ length xs
length_set [] i y = refl
length_set (x ∷ xs) zero y = refl
length_set (x ∷ xs) (suc i) y = ap suc (length_set xs i y)

pub filled_none : {X : Type 0} → (xs : List X) (y : X) → Filled xs 0 (length xs) y
filled_none xs y = record { prefix = refl; size = refl }

pub filled_more : {X : Type 0} → (xs : List X) (n size : ℕ) (y : X) → n < size → Filled xs n size y → Filled (set xs n y) (n + 1) size y
filled_more xs n size y h f =
    let within : n < length xs = omega (arith, h, f.size) in
    record {
      prefix = ap (λ k. take k (set xs n y)) (add-one n) ∙ take_set xs n y within ∙ ap (λ ys. ys ++ y ∷ []) f.prefix ∙ replicate_more n y;
      size = length_set xs n y ∙ f.size;
    }

pub filled_all : {X : Type 0} → (xs : List X) (n size : ℕ) (y : X) → n ≡ size → Filled xs n size y → xs ≡ replicate size y
filled_all xs n size y e f = sym (take_all xs) ∙ ap (λ k. take k xs) (f.size ∙ sym e) ∙ f.prefix ∙ ap (λ k. replicate k y) e
