-- Texts that are not empty.
use Rattle.std.proofs.Common.{◌≡◌, ℕ, List, [], ◌∷◌, ◌++◌, refl}

-- a text with something at its beginning, or at its end
pub some_begin : (x : ℕ) (xs : List ℕ) → x ∷ xs ≡ [] → ⊥
some_begin x xs e = cc

pub some_end : (xs : List ℕ) (y : ℕ) (ys : List ℕ) → xs ++ y ∷ ys ≡ [] → ⊥
some_end [] y ys e = cc
some_end (x ∷ xs) y ys e = cc

-- if two texts together are empty, each is
pub first_empty : (xs ys : List ℕ) → xs ++ ys ≡ [] → xs ≡ []
first_empty [] ys e = refl
first_empty (x ∷ xs) ys e = let z : ⊥ = cc in absurd z

pub second_empty : (xs ys : List ℕ) → xs ++ ys ≡ [] → ys ≡ []
second_empty [] ys e = e
second_empty (x ∷ xs) ys e = let z : ⊥ = cc in absurd z
