-- The first place that passes.
use Rattle.std.proofs.Common.{◌≡◌, ℕ, zero, suc, ◌+◌, ◌<◌, ◌≤◌, Bool, true, false, Some, None, refl, ap, ◌∙◌, arith, add-one, ◌⊎◌, inl, inr, if◌then◌else◌}
use Rattle.std.proofs.lemmas.Bool.{cases_lt}
use Rattle.fw_terms.specs.Tables.{find_to}

pub find_none : (test : ℕ → Bool) → find_to 0 test ≡ None
unfolding find_to
find_none test = refl

pub find_more : (n : ℕ) (test : ℕ → Bool) → find_to n test ≡ None → test n ≡ false → find_to (n + 1) test ≡ None
unfolding find_to
find_more n test e f = rw add-one (rw e (rw f refl))

pub find_here : (m n : ℕ) (test : ℕ → Bool) → find_to n test ≡ None → test n ≡ true → n < m → find_to m test ≡ Some n
unfolding find_to
find_here zero n test e f lt = absurd (omega arith)
find_here (suc m) n test e f lt = go (cases_lt n m) (find_here m n test e f)
  where
    go : (n < m) ⊎ (m ≤ n) → (n < m → find_to m test ≡ Some n) → elim (find_to m test) [ Some k ↦ Some k | None ↦ (if test m then Some m else None) ] ≡ Some n
    go (inl l) h = rw (h l) refl
    go (inr g) h = let same : m ≡ n = omega arith in rw (ap (λ k. find_to k test) same ∙ e) (rw (ap test same ∙ f) (ap Some same))
