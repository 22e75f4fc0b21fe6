-- The numbers below a bound that pass a test, as of the devices whose controllers live.
use Rattle.fw_bus_state.proofs.Common.{◌≡◌, ℕ, zero, suc, ◌+◌, ◌≤◌, List, [], ◌∷◌, ◌++◌, length, Bool, true, false, cond, refl, ap, sym, ◌∙◌, arith, add-one, length-append, numbers_to}
use Rattle.std.proofs.Common.{◌-◌, append_assoc, append-nil}

pub numbers_more : (n : ℕ) (test : ℕ → Bool) → numbers_to (n + 1) test ≡ numbers_to n test ++ cond (test n) (n ∷ []) []
unfolding numbers_to
numbers_more n test = rw add-one refl

pub numbers_prefix : (j k : ℕ) (test : ℕ → Bool) → (rest : List ℕ) × (numbers_to (j + k) test ≡ numbers_to j test ++ rest)
unfolding numbers_to
numbers_prefix j zero test = ([], ap (λ n. numbers_to n test) (let e : j + 0 ≡ j = omega arith in e) ∙ sym (append-nil (numbers_to j test)))
numbers_prefix j (suc k) test =
    let f = numbers_prefix j k test in
    let one : j + suc k ≡ suc (j + k) = omega arith in
    let last : List ℕ = cond (test (j + k)) ((j + k) ∷ []) [] in
    (f.0 ++ last, ap (λ n. numbers_to n test) one ∙ (ap (λ z. z ++ last) f.1 ∙ append_assoc (numbers_to j test) f.0 last))

-- how many of the first devices live
pub count_none : (test : ℕ → Bool) → length (numbers_to 0 test) ≡ 0
unfolding numbers_to
count_none test = refl

pub count_more : (n : ℕ) (test : ℕ → Bool) → length (numbers_to (n + 1) test) ≡ length (numbers_to n test) + cond (test n) 1 0
count_more n test = ap (λ (z : List ℕ). length z) (numbers_more n test) ∙ (length-append (numbers_to n test) (cond (test n) (n ∷ []) []) ∙ go (test n))
  where
    go : (b : Bool) → length (numbers_to n test) + length (cond b (n ∷ []) []) ≡ length (numbers_to n test) + cond b 1 0
    go true = refl
    go false = refl

pub count_prefix : (j n : ℕ) (test : ℕ → Bool) → j ≤ n → length (numbers_to j test) ≤ length (numbers_to n test)
count_prefix j n test le =
    let f = numbers_prefix j (n - j) test in
    let all : j + (n - j) ≡ n = omega (arith, le) in
    let same : length (numbers_to n test) ≡ length (numbers_to j test) + length f.0 =
    ap (λ k. length (numbers_to k test)) (sym all) ∙ (ap (λ (z : List ℕ). length z) f.1 ∙ length-append (numbers_to j test) f.0) in
    omega (arith, same)
