-- What loops append, one part after another.
use Rattle.std.proofs.Common.{◌≡◌, refl, ap, sym, ◌∙◌, ℕ, zero, suc, ◌+◌, ◌<◌, List, [], ◌∷◌, ◌++◌, length, take, get_or, map, flat_map, add-one, append_assoc, OnOk, Ok, Err, arith}
use Rattle.std.specs.declared.result.Result.{Result}
use Rattle.std.proofs.lemmas.List.{append-nil}

-- one element more, each of which gives a text
pub next_text : {X : Type 0} (f : X → List ℕ) (xs : List X) (i : ℕ) (d : X) → i < length xs → flat_map f (take (i + 1) xs) ≡ flat_map f (take i xs) ++ f (get_or xs i d)
next_text f [] i d h = absurd (omega (arith, h))
next_text f (x ∷ xs) zero d h = append-nil (f x)
next_text f (x ∷ xs) (suc i) d h =
    let e : take (suc i + 1) (x ∷ xs) ≡ x ∷ take (i + 1) xs = rw (add-one (suc i), add-one i) refl in
    ap (flat_map f) e ∙ ap (λ t. f x ++ t) (next_text f xs i d (omega (arith, h))) ∙ sym (append_assoc (f x) (flat_map f (take i xs)) (f (get_or xs i d)))

-- one element more, each of which gives one
pub next_one : {X Y : Type 0} (f : X → Y) (xs : List X) (i : ℕ) (d : X) → i < length xs → map f (take (i + 1) xs) ≡ map f (take i xs) ++ f (get_or xs i d) ∷ []
next_one f [] i d h = absurd (omega (arith, h))
next_one f (x ∷ xs) zero d h = refl
next_one f (x ∷ xs) (suc i) d h =
    let e : take (suc i + 1) (x ∷ xs) ≡ x ∷ take (i + 1) xs = rw (add-one (suc i), add-one i) refl in
    ap (map f) e ∙ ap (λ t. f x ∷ t) (next_one f xs i d (omega (arith, h)))

-- one part more after others
pub stepped : {X : Type 0} (s t u a b all : List X) → t ≡ s ++ a → u ≡ t ++ b → all ≡ a ++ b → u ≡ s ++ all
stepped s t u a b all e f g = f ∙ ap (λ x. x ++ b) e ∙ append_assoc s a b ∙ ap (λ x. s ++ x) (sym g)

-- the last part after others, if it was put
pub then_put : {X E : Type 0} (r : Result X E) (s t u a b : List ℕ) → t ≡ s ++ a → OnOk r (u ≡ t ++ b) → OnOk r (u ≡ s ++ (a ++ b))
then_put (Ok x) s t u a b e f = f ∙ ap (λ l. l ++ b) e ∙ append_assoc s a b
then_put (Err x) s t u a b e f = tt
