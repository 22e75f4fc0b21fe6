-- Paths of ports, and which comes before which.
use Rattle.fw_map.proofs.Common.{◌≡◌, ◌⊎◌, inl, inr, ℕ, ◌<◌, ◌==◌, ◌&&◌, nat_lt, List, [], ◌∷◌, ◌++◌, Bool, true, if◌then◌else◌, arith, refl, sym, cases_eq, cases_lt, nat_tests, comes_before}
use Rattle.fw_tree.specs.Paths.{is_left, is_prefix}

-- the order is transitive and total
pub transitive : (u v w : List ℕ) → comes_before u v ≡ true → comes_before v w ≡ true → comes_before u w ≡ true
transitive [] v w h k = absurd (let z : ⊥ = cc in z)
transitive (x ∷ u) [] w h k = absurd (let z : ⊥ = cc in z)
transitive (x ∷ u) (y ∷ v) [] h k = refl
transitive (x ∷ u) (y ∷ v) (z ∷ w) h k = step x y z (comes_before u v) (comes_before v w) (comes_before u w) (transitive u v w) h k
  where
    step : (x y z : ℕ) (a b c : Bool) → (a ≡ true → b ≡ true → c ≡ true) → (if x == y then a else nat_lt x y) ≡ true → (if y == z then b else nat_lt y z) ≡ true
        → (if x == z then c else nat_lt x z) ≡ true
    step x y z a b c e h k = grind (arith, nat_tests)

pub total : (u v : List ℕ) → (comes_before u v ≡ true) ⊎ (u ≡ v) ⊎ (comes_before v u ≡ true)
total [] [] = inr (inl refl)
total [] (y ∷ v) = inr (inr refl)
total (x ∷ u) [] = inl refl
total (x ∷ u) (y ∷ v) = step x y u v (total u v)
  where
    lt : (x y : ℕ) → x < y → (a : Bool) → (if x == y then a else nat_lt x y) ≡ true
    lt x y h a = grind (arith, nat_tests)

    eq : (x y : ℕ) → x ≡ y → (a : Bool) → a ≡ true → (if x == y then a else nat_lt x y) ≡ true
    eq x y h a k = grind (arith, nat_tests)

    step : (x y : ℕ) (u v : List ℕ) → (comes_before u v ≡ true) ⊎ (u ≡ v) ⊎ (comes_before v u ≡ true) → (comes_before (x ∷ u) (y ∷ v) ≡ true) ⊎ (x ∷ u ≡ y ∷ v) ⊎ (comes_before (y ∷ v) (x ∷ u) ≡ true)
    step x y u v t = elim (cases_lt x y) [
      | inl low ↦ inl (lt x y low (comes_before u v))
      | inr more ↦ elim (cases_eq x y) [
        | inl same ↦ elim t [ inl a ↦ inl (eq x y same (comes_before u v) a) | inr r ↦ elim r [ inl e ↦ inr (inl (cc)) | inr b ↦ inr (inr (eq y x (sym same) (comes_before v u) b)) ] ]
        | inr differ ↦ inr (inr (lt y x (omega arith) (comes_before v u)))
      ]
    ]

-- a child comes before its parent
pub child_first : (k : List ℕ) (p : ℕ) → comes_before (k ++ p ∷ []) k ≡ true
child_first [] p = refl
child_first (x ∷ k) p = let e = child_first k p in grind (arith, nat_tests)

-- of two children the one at the lower port comes first, with its branch
pub sibling_port : (k : List ℕ) (p q : ℕ) → comes_before (k ++ p ∷ []) (k ++ q ∷ []) ≡ true → p < q
sibling_port [] p q h = grind (arith, nat_tests)
sibling_port (x ∷ k) p q h = sibling_port k p q (step x (comes_before (k ++ p ∷ []) (k ++ q ∷ [])) h)
  where
    step : (x : ℕ) (a : Bool) → (if x == x then a else nat_lt x x) ≡ true → a ≡ true
    step x a h = grind (arith, nat_tests)

pub sibling_left : (k : List ℕ) (p q : ℕ) → p < q → is_left (k ++ p ∷ []) (k ++ q ∷ []) ≡ true
sibling_left [] p q h = grind (arith, nat_tests)
sibling_left (x ∷ k) p q h = step x (is_left (k ++ p ∷ []) (k ++ q ∷ [])) (sibling_left k p q h)
  where
    step : (x : ℕ) (a : Bool) → a ≡ true → (if x == x then a else nat_lt x x) ≡ true
    step x a h = grind (arith, nat_tests)

-- what comes between a child and its parent is in the parent's branch
pub between : (k v : List ℕ) (p : ℕ) → comes_before (k ++ p ∷ []) v ≡ true → comes_before v k ≡ true → is_prefix k v ≡ true
between [] v p h l = refl
between (x ∷ k) [] p h l = absurd (let z : ⊥ = cc in z)
between (x ∷ k) (y ∷ v) p h l = step x y (comes_before (k ++ p ∷ []) v) (comes_before v k) (is_prefix k v) (between k v p) h l
  where
    step : (x y : ℕ) (a b c : Bool) → (a ≡ true → b ≡ true → c ≡ true) → (if x == y then a else nat_lt x y) ≡ true → (if y == x then b else nat_lt y x) ≡ true → ((x == y) && c) ≡ true
    step x y a b c e h l = grind (arith, nat_tests)

pub prefix_of_child : (y k : List ℕ) (p : ℕ) → is_prefix y (k ++ p ∷ []) ≡ true → (is_prefix y k ≡ true) ⊎ (y ≡ k ++ p ∷ [])
prefix_of_child [] k p h = inl refl
prefix_of_child (y ∷ []) [] p h = inr (let e : y ≡ p = grind (arith, nat_tests) in cc)
prefix_of_child (y ∷ z ∷ ys) [] p h = absurd (let e : ⊥ = grind (arith, nat_tests) in e)
prefix_of_child (y ∷ ys) (x ∷ k) p h = step y x ys k p (prefix_of_child ys k p) h
  where
    same : (y x : ℕ) (a : Bool) → ((y == x) && a) ≡ true → y ≡ x
    same y x a h = grind (arith, nat_tests)

    rest : (y x : ℕ) (a : Bool) → ((y == x) && a) ≡ true → a ≡ true
    rest y x a h = grind (arith, nat_tests)

    join : (y x : ℕ) (a : Bool) → y ≡ x → a ≡ true → ((y == x) && a) ≡ true
    join y x a e h = grind (arith, nat_tests)

    step : (y x : ℕ) (ys k : List ℕ) (p : ℕ) → (is_prefix ys (k ++ p ∷ []) ≡ true → (is_prefix ys k ≡ true) ⊎ (ys ≡ k ++ p ∷ [])) → ((y == x) && is_prefix ys (k ++ p ∷ [])) ≡ true
        → (((y == x) && is_prefix ys k) ≡ true) ⊎ (y ∷ ys ≡ x ∷ (k ++ p ∷ []))
    step y x ys k p f h =
        let e = same y x (is_prefix ys (k ++ p ∷ [])) h in
        elim (f (rest y x (is_prefix ys (k ++ p ∷ [])) h)) [ inl u ↦ inl (join y x (is_prefix ys k) e u) | inr s ↦ inr (cc) ]

-- what a path is a prefix of is the same or comes before it
pub prefix_first : (k v : List ℕ) → is_prefix k v ≡ true → (v ≡ k) ⊎ (comes_before v k ≡ true)
prefix_first [] [] h = inl refl
prefix_first [] (x ∷ v) h = inr refl
prefix_first (y ∷ k) [] h = absurd (let z : ⊥ = cc in z)
prefix_first (y ∷ k) (x ∷ v) h = elim (prefix_first k v (rest y x (is_prefix k v) h)) [
  | inl e ↦ inl (let s = same y x (is_prefix k v) h in cc)
  | inr e ↦ inr (step y x (comes_before v k) (same y x (is_prefix k v) h) e)
]
  where
    same : (y x : ℕ) (a : Bool) → ((y == x) && a) ≡ true → y ≡ x
    same y x a h = grind (arith, nat_tests)

    rest : (y x : ℕ) (a : Bool) → ((y == x) && a) ≡ true → a ≡ true
    rest y x a h = grind (arith, nat_tests)

    step : (y x : ℕ) (a : Bool) → y ≡ x → a ≡ true → (if x == y then a else nat_lt x y) ≡ true
    step y x a e h = grind (arith, nat_tests)

-- what is left of a path is left of those below it, and comes before it
pub left_longer : (u v w : List ℕ) → is_left u v ≡ true → is_left u (v ++ w) ≡ true
left_longer [] v w h = absurd (let z : ⊥ = cc in z)
left_longer (x ∷ u) [] w h = absurd (let z : ⊥ = cc in z)
left_longer (x ∷ u) (y ∷ v) w h = step x y (is_left u v) (is_left u (v ++ w)) (left_longer u v w) h
  where
    step : (x y : ℕ) (a b : Bool) → (a ≡ true → b ≡ true) → (if x == y then a else nat_lt x y) ≡ true → (if x == y then b else nat_lt x y) ≡ true
    step x y a b e h = grind (arith, nat_tests)

pub left_first : (u v : List ℕ) → is_left u v ≡ true → comes_before u v ≡ true
left_first [] v h = absurd (let z : ⊥ = cc in z)
left_first (x ∷ u) [] h = refl
left_first (x ∷ u) (y ∷ v) h = step x y (is_left u v) (comes_before u v) (left_first u v) h
  where
    step : (x y : ℕ) (a b : Bool) → (a ≡ true → b ≡ true) → (if x == y then a else nat_lt x y) ≡ true → (if x == y then b else nat_lt x y) ≡ true
    step x y a b e h = grind (arith, nat_tests)

-- the branch of what comes before a path comes before it
pub branch_first : (u v w : List ℕ) → comes_before u v ≡ true → comes_before (u ++ w) v ≡ true
branch_first [] v w h = absurd (let z : ⊥ = cc in z)
branch_first (x ∷ u) [] w h = refl
branch_first (x ∷ u) (y ∷ v) w h = step x y (comes_before u v) (comes_before (u ++ w) v) (branch_first u v w) h
  where
    step : (x y : ℕ) (a b : Bool) → (a ≡ true → b ≡ true) → (if x == y then a else nat_lt x y) ≡ true → (if x == y then b else nat_lt x y) ≡ true
    step x y a b e h = grind (arith, nat_tests)
