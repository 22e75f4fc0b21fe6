-- Sums and first places.
use Rattle.fw_terms.specs.declared.plug.PlugAt.{PlugAt}
use Rattle.std.proofs.Common.{◌≡◌, ◌≢◌, ◌⊎◌, inl, inr, ℕ, zero, suc, ◌+◌, ◌<◌, ◌≤◌, Bool, true, false, Option, Some, None, eqb, refl, ap, subst, arith, is_some}
use Rattle.std.specs.Prelude.{cond}
use Rattle.std.proofs.lemmas.Bool.Decides.{nat_tests}
use Rattle.fw_terms.specs.Tables.{same_plug, update_plug, sum_to, find_to, find_plug, at_plug, first_of_device, plug_on, sum_plugs}
use Rattle.std.proofs.lemmas.Bool.{cases_eq}

-- two tables that agree below n have one sum
pub sum_to_same : (n : ℕ) (f g : ℕ → ℕ) → ((j : ℕ) → j < n → f j ≡ g j) → sum_to n f ≡ sum_to n g
unfolding sum_to
sum_to_same zero f g same = refl
sum_to_same (suc n) f g same =
    let h = sum_to_same n f g (λ j lt. same j (omega arith)) in
    let e = same n (omega arith) in
    omega arith

pub sum_to_le : (n : ℕ) (f g : ℕ → ℕ) → ((j : ℕ) → j < n → f j ≤ g j) → sum_to n f ≤ sum_to n g
unfolding sum_to
sum_to_le zero f g le = omega arith
sum_to_le (suc n) f g le =
    let h = sum_to_le n f g (λ j lt. le j (omega arith)) in
    let e = le n (omega arith) in
    omega arith

-- a table that was changed at k alone, as far as below n
pub sum_to_changed_below : (n k : ℕ) (f g : ℕ → ℕ) → k < n → ((j : ℕ) → j < n → j ≢ k → f j ≡ g j) → sum_to n f + g k ≡ sum_to n g + f k
unfolding sum_to
sum_to_changed_below zero k f g lt same = omega arith
sum_to_changed_below (suc n) k f g lt same = go (cases_eq n k) (sum_to_changed_below n k f g)
  where
    go : (n ≡ k) ⊎ (n ≢ k) → (k < n → ((j : ℕ) → j < n → j ≢ k → f j ≡ g j) → sum_to n f + g k ≡ sum_to n g + f k) → (sum_to n f + f n) + g k ≡ (sum_to n g + g n) + f k
    go (inl e) h = omega (arith, ap f e, ap g e, sum_to_same n f g (λ j jl. same j (omega arith) (omega arith)))
    go (inr ne) h = omega (arith, h (omega arith) (λ j jl nj. same j (omega arith) nj), same n (omega arith) ne)

pub sum_to_changed : (n k : ℕ) (f g : ℕ → ℕ) → k < n → ((j : ℕ) → j ≢ k → f j ≡ g j) → sum_to n f + g k ≡ sum_to n g + f k
sum_to_changed n k f g lt same = sum_to_changed_below n k f g lt (λ j jl ne. same j ne)

pub sum_to_at : (n k : ℕ) (f : ℕ → ℕ) → k < n → f k ≤ sum_to n f
unfolding sum_to
sum_to_at zero k f lt = omega arith
sum_to_at (suc n) k f lt = grind (arith, sum_to_at n k f)

-- ---- plugs

pub same_plug-true : (q p : PlugAt) → same_plug q p ≡ true → q ≡ p
same_plug-true q p e = grind (arith, nat_tests)

pub same_plug_self : (p : PlugAt) → same_plug p p ≡ true
same_plug_self p = grind (arith, nat_tests)

pub update_plug_same : {A : Type 0} (f : PlugAt → A) (p : PlugAt) (v : A) → update_plug f p v p ≡ v
update_plug_same f p v = grind (arith, nat_tests)

-- q is p, and has the new value, or keeps its own
pub update_plug_at : {A : Type 0} (f : PlugAt → A) (p : PlugAt) (v : A) (q : PlugAt) → ((q ≡ p) × (update_plug f p v q ≡ v)) ⊎ ((q ≢ p) × (update_plug f p v q ≡ f q))
update_plug_at f p v q = grind (arith, nat_tests)

-- ---- the first place that passes

pub sum_to_zero : (n : ℕ) → sum_to n (λ j. 0) ≡ 0
unfolding sum_to
sum_to_zero zero = refl
sum_to_zero (suc n) = omega (arith, sum_to_zero n)

abbrev pub IsFirst : ℕ → (ℕ → Bool) → Option ℕ → Type 0
IsFirst n test None = (j : ℕ) → j < n → test j ≡ false
IsFirst n test (Some k) = (k < n) × (test k ≡ true)

pub find_to_is : (n : ℕ) (test : ℕ → Bool) → IsFirst n test (find_to n test)
unfolding find_to
find_to_is zero test = λ j lt. absurd (omega arith)
find_to_is (suc n) test = step (find_to n test) (find_to_is n test) (test n) refl
  where
    step : (o : Option ℕ) → IsFirst n test o → (b : Bool) → test n ≡ b → IsFirst (suc n) test (elim o [ Some k ↦ Some k | None ↦ cond b (Some n) None ])
    step (Some k) f b e = (omega arith, f.1)
    step None f true e = (omega arith, e)
    step None f false e = λ j lt. grind (arith, f j)

abbrev pub IsFirstPlug : (PlugAt → Bool) → Option PlugAt → Type 0
IsFirstPlug test None = (p : PlugAt) → p.device < 63 → p.plug < 31 → test p ≡ false
IsFirstPlug test (Some p) = test p ≡ true

pub find_plug_is : (test : PlugAt → Bool) → IsFirstPlug test (find_plug test)
find_plug_is test = whole (find_to 63 (λ d. is_some (on d))) (find_to_is 63 (λ d. is_some (on d)))
  where
    on : ℕ → Option ℕ
    on d = find_to 31 (λ n. test (at_plug d n))

    at : (d : ℕ) → IsFirst 31 (λ n. test (at_plug d n)) (on d)
    at d = find_to_is 31 (λ n. test (at_plug d n))

    some : (d : ℕ) (o : Option ℕ) → IsFirst 31 (λ n. test (at_plug d n)) o → is_some o ≡ true → IsFirstPlug test (plug_on d o)
    some d None f e = grind arith
    some d (Some n) f e = f.1

    none : (o : Option ℕ) → is_some o ≡ false → o ≡ None
    none None e = refl
    none (Some n) e = grind arith

    whole : (o : Option ℕ) → IsFirst 63 (λ d. is_some (on d)) o → IsFirstPlug test (first_of_device test o)
    whole (Some d) f = some d (on d) (at d) f.1
    whole None f = λ p dl nl. let e : on p.device ≡ None = none (on p.device) (f p.device dl) in (subst (λ o. IsFirst 31 (λ n. test (at_plug p.device n)) o) e (at p.device)) p.plug nl

-- ---- sums over two indices

pub sum_to_plus : (n : ℕ) (f g : ℕ → ℕ) → sum_to n (λ i. f i + g i) ≡ sum_to n f + sum_to n g
unfolding sum_to
sum_to_plus zero f g = refl
sum_to_plus (suc n) f g = omega (arith, sum_to_plus n f g)

pub sum_to_swap : (n m : ℕ) (f : ℕ → ℕ → ℕ) → sum_to n (λ i. sum_to m (λ j. f i j)) ≡ sum_to m (λ j. sum_to n (λ i. f i j))
unfolding sum_to
sum_to_swap zero m f = omega (arith, sum_to_zero m)
sum_to_swap (suc n) m f = omega (arith, sum_to_swap n m f, sum_to_plus m (λ j. sum_to n (λ i. f i j)) (λ j. f n j))

-- at most one place is not 0
pub sum_to_one : (n m : ℕ) (f : ℕ → ℕ) → ((j : ℕ) → j < n → f j ≤ m) → ((i j : ℕ) → i < n → j < n → f i ≢ 0 → f j ≢ 0 → i ≡ j) → sum_to n f ≤ m
unfolding sum_to
sum_to_one zero m f most one = omega arith
sum_to_one (suc n) m f most one = go (cases_eq (f n) 0) (sum_to_one n m f (λ j lt. most j (omega arith)) (λ i j a b. one i j (omega arith) (omega arith)))
  where
    go : (f n ≡ 0) ⊎ (f n ≢ 0) → sum_to n f ≤ m → sum_to n f + f n ≤ m
    go (inl e) h = omega arith
    go (inr ne) h = omega (arith, most n (omega arith), sum_to_same n f (λ j. 0) (λ j lt. grind (arith, one j n)), sum_to_zero n)

pub sum_to_some : (n : ℕ) (f : ℕ → ℕ) → sum_to n f ≢ 0 → (j : ℕ) × (j < n) × (f j ≢ 0)
unfolding sum_to
sum_to_some zero f h = absurd (h refl)
sum_to_some (suc n) f h = go (cases_eq (f n) 0) (sum_to_some n f)
  where
    go : (f n ≡ 0) ⊎ (f n ≢ 0) → (sum_to n f ≢ 0 → (j : ℕ) × (j < n) × (f j ≢ 0)) → (j : ℕ) × (j < suc n) × (f j ≢ 0)
    go (inl e) h' = let w = h' (omega arith) in (w.0, omega arith, w.2)
    go (inr ne) h' = (n, omega arith, ne)

-- each plug's share is on one channel, and a channel is of one plug
pub sum_plugs_fits : (f : PlugAt → ℕ) (ch : PlugAt → ℕ) (w : ℕ → ℕ) → ((p : PlugAt) → f p ≢ 0 → (ch p < 64) × (f p ≤ w (ch p))) → ((p q : PlugAt) → f p ≢ 0 → f q ≢ 0 → ch p ≡ ch q → p ≡ q)
    → sum_plugs f ≤ sum_to 64 w
sum_plugs_fits f ch w fits one =
    omega (
      arith,
      sum_to_le 63 (λ d. sum_to 31 (λ n. f (at_plug d n))) (λ d. sum_to 31 (λ n. sum_to 64 (λ c. on (at_plug d n) c)))
          (λ d dl. sum_to_le 31 (λ n. f (at_plug d n)) (λ n. sum_to 64 (λ c. on (at_plug d n) c)) (λ n nl. own (at_plug d n) (cases_eq (f (at_plug d n)) 0))),
      sum_to_same 63 (λ d. sum_to 31 (λ n. sum_to 64 (λ c. on (at_plug d n) c))) (λ d. sum_to 64 (λ c. sum_to 31 (λ n. on (at_plug d n) c))) (λ d dl. sum_to_swap 31 64 (λ n c. on (at_plug d n) c)),
      sum_to_swap 63 64 (λ d c. sum_to 31 (λ n. on (at_plug d n) c)),
      sum_to_le 64 (λ c. sum_to 63 (λ d. sum_to 31 (λ n. on (at_plug d n) c))) w (λ c cl. sum_to_one 63 (w c) (λ d. sum_to 31 (λ n. on (at_plug d n) c)) (λ d dl. inner d c) (outer c)),
    )
  where
    on : PlugAt → ℕ → ℕ
    on p c = cond (eqb (ch p) c) (f p) 0

    is_on : (p : PlugAt) (c : ℕ) → on p c ≢ 0 → (ch p ≡ c) × (f p ≢ 0)
    is_on p c h = grind (arith, nat_tests)

    own : (p : PlugAt) → (f p ≡ 0) ⊎ (f p ≢ 0) → f p ≤ sum_to 64 (λ c. on p c)
    own p (inl e) = omega arith
    own p (inr ne) = grind (arith, nat_tests, fits p ne, sum_to_at 64 (ch p) (λ c. on p c) (fits p ne).0)

    most : (p : PlugAt) (c : ℕ) → on p c ≤ w c
    most p c = grind (arith, nat_tests, cases_eq (f p) 0, fits p)

    inner : (d c : ℕ) → sum_to 31 (λ n. on (at_plug d n) c) ≤ w c
    inner d c = sum_to_one 31 (w c) (λ n. on (at_plug d n) c) (λ n nl. most (at_plug d n) c)
        (λ i j il jl a b. ap (λ (p : PlugAt). p.plug) (one (at_plug d i) (at_plug d j) (is_on (at_plug d i) c a).1 (is_on (at_plug d j) c b).1
        (grind (arith, is_on (at_plug d i) c a, is_on (at_plug d j) c b))))

    outer : (c i j : ℕ) → i < 63 → j < 63 → sum_to 31 (λ n. on (at_plug i n) c) ≢ 0 → sum_to 31 (λ n. on (at_plug j n) c) ≢ 0 → i ≡ j
    outer c i j il jl a b =
        let v = sum_to_some 31 (λ n. on (at_plug i n) c) a in
        let u = sum_to_some 31 (λ n. on (at_plug j n) c) b in
        ap (λ (p : PlugAt). p.device) (one (at_plug i v.0) (at_plug j u.0) (is_on (at_plug i v.0) c v.2).1 (is_on (at_plug j u.0) c u.2).1
        (grind (arith, is_on (at_plug i v.0) c v.2, is_on (at_plug j u.0) c u.2)))
