-- Arrays tell their values: one value after another, until a bracket ends them.
use Rattle.fw_log_json.proofs.Common.{◌≡◌, ℕ, ◌+◌, true, List, [], ◌∷◌, ◌++◌, map, refl, ap, sym, ◌∙◌, arith, append_assoc, join_with_byte, array}
use Rattle.std.proofs.lemmas.List.{append-nil}
use Rattle.fw_log_json.proofs.Told.{stops, Value, first_byte}

-- each value holds, each at its place, counted from this number on
abbrev pub Each : {X : Type 0} → (ℕ → X → Type 0) → ℕ → List X → Type 0
Each V n [] = Unit {0}
Each V n (x ∷ xs) = V n x × Each V (n + 1) xs

-- the values, each after a comma
abbrev pub more_values : {X : Type 0} → (ℕ → X → List ℕ) → ℕ → List X → List ℕ
more_values f n [] = []
more_values f n (x ∷ xs) = 44 ∷ (f n x ++ more_values f (n + 1) xs)

-- the values, a comma between each two
abbrev pub values : {X : Type 0} → (ℕ → X → List ℕ) → ℕ → List X → List ℕ
values f n [] = []
values f n (x ∷ xs) = f n x ++ more_values f (n + 1) xs

-- two values of the same place tell which they are, and no value begins with the bracket at the end
pub record Tells {X : Type 0} (f : ℕ → X → List ℕ) (V : ℕ → X → Type 0) : Type 0 where
  pub value : (n : ℕ) (x y : X) → V n x → V n y → Value (f n x) (f n y) (x ≡ y)
  pub begins : (n : ℕ) (x : X) (r s : List ℕ) → V n x → stops r ≡ true → f n x ++ r ≡ 93 ∷ s → ⊥

ends : {X : Type 0} (f : ℕ → X → List ℕ) (n : ℕ) (xs : List X) (r : List ℕ) → stops (more_values f n xs ++ 93 ∷ r) ≡ true
ends f n [] r = refl
ends f n (x ∷ xs) r = refl

more_tell : {X : Type 0} (f : ℕ → X → List ℕ) (V : ℕ → X → Type 0) → Tells f V → (n : ℕ) (xs ys : List X) → Each V n xs → Each V n ys → (r s : List ℕ)
    → more_values f n xs ++ 93 ∷ r ≡ more_values f n ys ++ 93 ∷ s → (xs ≡ ys) × (r ≡ s)
more_tell f V t n [] [] a b r s e = (refl, cc e)
more_tell f V t n [] (y ∷ ys) a b r s e = let first : 93 ≡ 44 = first_byte e in absurd (omega (arith, first))
more_tell f V t n (x ∷ xs) [] a b r s e = let first : 44 ≡ 93 = first_byte e in absurd (omega (arith, first))
more_tell f V t n (x ∷ xs) (y ∷ ys) a b r s e =
    let xr : List ℕ = more_values f (n + 1) xs in
    let yr : List ℕ = more_values f (n + 1) ys in
    let rest : (f n x ++ xr) ++ 93 ∷ r ≡ (f n y ++ yr) ++ 93 ∷ s = cc e in
    let g = (t.value n x y a.0 b.0).by (xr ++ 93 ∷ r) (yr ++ 93 ∷ s) (ends f (n + 1) xs r) (ends f (n + 1) ys s)
    (sym (append_assoc (f n x) xr (93 ∷ r)) ∙ rest ∙ append_assoc (f n y) yr (93 ∷ s)) in
    let h = more_tell f V t (n + 1) xs ys a.1 b.1 r s g.1 in
    let first : x ≡ y = g.0 in
    let others : xs ≡ ys = h.0 in
    (cc (first, others), h.1)

values_tell : {X : Type 0} (f : ℕ → X → List ℕ) (V : ℕ → X → Type 0) → Tells f V → (n : ℕ) (xs ys : List X) → Each V n xs → Each V n ys → (r s : List ℕ)
    → values f n xs ++ 93 ∷ r ≡ values f n ys ++ 93 ∷ s → (xs ≡ ys) × (r ≡ s)
values_tell f V t n [] [] a b r s e = (refl, cc e)
values_tell f V t n [] (y ∷ ys) a b r s e =
    let yr : List ℕ = more_values f (n + 1) ys in
    absurd (t.begins n y (yr ++ 93 ∷ s) r b.0 (ends f (n + 1) ys s) (sym (append_assoc (f n y) yr (93 ∷ s)) ∙ sym e))
values_tell f V t n (x ∷ xs) [] a b r s e =
    let xr : List ℕ = more_values f (n + 1) xs in
    absurd (t.begins n x (xr ++ 93 ∷ r) s a.0 (ends f (n + 1) xs r) (sym (append_assoc (f n x) xr (93 ∷ r)) ∙ e))
values_tell f V t n (x ∷ xs) (y ∷ ys) a b r s e =
    let xr : List ℕ = more_values f (n + 1) xs in
    let yr : List ℕ = more_values f (n + 1) ys in
    let g = (t.value n x y a.0 b.0).by (xr ++ 93 ∷ r) (yr ++ 93 ∷ s) (ends f (n + 1) xs r) (ends f (n + 1) ys s)
    (sym (append_assoc (f n x) xr (93 ∷ r)) ∙ e ∙ append_assoc (f n y) yr (93 ∷ s)) in
    let h = more_tell f V t (n + 1) xs ys a.1 b.1 r s g.1 in
    let first : x ≡ y = g.0 in
    let others : xs ≡ ys = h.0 in
    (cc (first, others), h.1)

-- ---- arrays

in_brackets : (texts : List (List ℕ)) (inner r : List ℕ) → join_with_byte 44 texts ≡ inner → array texts ++ r ≡ 91 ∷ (inner ++ 93 ∷ r)
unfolding array
in_brackets texts inner r e = ap (λ (t : List ℕ). 91 ∷ ((t ++ 93 ∷ []) ++ r)) e ∙ ap (λ (t : List ℕ). 91 ∷ t) (append_assoc inner (93 ∷ []) r)

-- the texts of an array are these values
pub array_tells : {X : Type 0} (f : ℕ → X → List ℕ) (V : ℕ → X → Type 0) → Tells f V → (xs ys : List X) → Each V 0 xs → Each V 0 ys → (texts others : List (List ℕ))
    → join_with_byte 44 texts ≡ values f 0 xs → join_with_byte 44 others ≡ values f 0 ys → Value (array texts) (array others) (xs ≡ ys)
array_tells f V t xs ys a b texts others p q = record {
  by = λ r s h k e.
      let rest : 91 ∷ (values f 0 xs ++ 93 ∷ r) ≡ 91 ∷ (values f 0 ys ++ 93 ∷ s) = sym (in_brackets texts (values f 0 xs) r p) ∙ e ∙ in_brackets others (values f 0 ys) s q in
      values_tell f V t 0 xs ys a b r s (cc rest);
}

-- the texts of values, which are of one form
mapped_more : {X : Type 0} (f : X → List ℕ) (n : ℕ) (x : X) (xs : List X) → join_with_byte 44 (map f (x ∷ xs)) ≡ f x ++ more_values (λ _. f) n xs
mapped_more f n x [] = sym (append-nil (f x))
mapped_more f n x (y ∷ ys) = ap (λ (t : List ℕ). f x ++ 44 ∷ t) (mapped_more f (n + 1) y ys)

pub mapped : {X : Type 0} (f : X → List ℕ) (xs : List X) → join_with_byte 44 (map f xs) ≡ values (λ _. f) 0 xs
mapped f [] = refl
mapped f (x ∷ xs) = mapped_more f 1 x xs
