-- Counts of devices, and numbers that are each of one device.
use Rattle.fw_tree.proofs.Common.{◌≡◌, ◌⊎◌, inl, inr, ℕ, zero, suc, ◌<◌, ◌≤◌, ◌+◌, List, length, Option, Some, None, Bool, true, false, slice_set, if◌then◌else◌, arith, refl, sym, ap, ◌∙◌}
use Rattle.fw_tree.proofs.Common.{get_or-set_same, get_or-set_other, cases_eq, counted, number_at, is_there, has_number, AreNodes}
use Rattle.std.proofs.Common.{add-one, add-zero}

pub counted_none : (f : ℕ → Bool) → counted f 0 ≡ 0
unfolding counted
counted_none f = refl

pub counted_yes : (f : ℕ → Bool) (n : ℕ) → f n ≡ true → counted f (n + 1) ≡ counted f n + 1
unfolding counted
counted_yes f n h = rw (add-one, h) refl

pub counted_else : (f : ℕ → Bool) (n : ℕ) → f n ≡ false → counted f (n + 1) ≡ counted f n
unfolding counted
counted_else f n h = rw (add-one, h) (add-zero (counted f n))

pub counted_step : (f : ℕ → Bool) (n : ℕ) → counted f (suc n) ≡ counted f n + (if f n then 1 else 0)
unfolding counted
counted_step f n = refl

pub counted_same : (f h : ℕ → Bool) (n : ℕ) → ((k : ℕ) → k < n → f k ≡ h k) → counted f n ≡ counted h n
counted_same f h zero e = counted_none f ∙ sym (counted_none h)
counted_same f h (suc n) e = counted_step f n ∙ rw (counted_same f h n (λ k l. e k (omega arith)), e n (omega arith)) (sym (counted_step h n))

pub counted_most : (f : ℕ → Bool) (n : ℕ) → counted f n ≤ n
counted_most f zero = omega (arith, counted_none f)
counted_most f (suc n) = let s = counted_step f n in let m = counted_most f n in let b = at_most (f n) in omega arith
  where
    at_most : (b : Bool) → (if b then 1 else 0) ≤ 1
    at_most true = omega arith
    at_most false = omega arith

pub counted_zero : (f : ℕ → Bool) (n : ℕ) → ((k : ℕ) → f k ≡ false) → counted f n ≡ 0
counted_zero f zero e = counted_none f
counted_zero f (suc n) e = counted_step f n ∙ rw (e n, counted_zero f n e) refl

-- one more passes
pub counted_more : (f h : ℕ → Bool) (n d : ℕ) → d < n → f d ≡ false → h d ≡ true → ((k : ℕ) → (k ≡ d → ⊥) → h k ≡ f k) → counted h n ≡ counted f n + 1
counted_more f h zero d low out in_it same = absurd (omega arith)
counted_more f h (suc n) d low out in_it same = elim (cases_eq d n) [
  | inl here ↦
      let a : f n ≡ false = rw here at out in
      let b : h n ≡ true = rw here at in_it in
      let e = counted_same h f n (λ k l. same k (λ x. omega arith)) in
      counted_step h n ∙ rw (b, e) (sym (ap (λ m. m + 1) (counted_step f n ∙ rw a (add-zero (counted f n)))))
  | inr differ ↦
      let e = counted_more f h n d (omega arith) out in_it same in
      let s : h n ≡ f n = same n (λ x. differ (sym x)) in
      let x : counted h (suc n) ≡ counted h n + (if f n then 1 else 0) = counted_step h n ∙ rw s refl in
      let y = counted_step f n in
      omega arith
]

-- fewer pass
pub counted_fewer : (f h : ℕ → Bool) (n : ℕ) → ((k : ℕ) → h k ≡ true → f k ≡ true) → counted h n ≤ counted f n
counted_fewer f h zero sub = omega (arith, counted_none f, counted_none h)
counted_fewer f h (suc n) sub = let e = counted_fewer f h n sub in let x = counted_step h n in let y = counted_step f n in let b = less (h n) (f n) (sub n) in omega arith
  where
    less : (b c : Bool) → (b ≡ true → c ≡ true) → (if b then 1 else 0) ≤ (if c then 1 else 0)
    less true c s = rw (s refl) (omega arith)
    less false true s = omega arith
    less false false s = omega arith

pub counted_less : (f h : ℕ → Bool) (n d : ℕ) → d < n → ((k : ℕ) → h k ≡ true → f k ≡ true) → h d ≡ false → f d ≡ true → counted h n < counted f n
counted_less f h zero d low sub out in_it = absurd (omega arith)
counted_less f h (suc n) d low sub out in_it = elim (cases_eq d n) [
  | inl here ↦
      let a : h n ≡ false = rw here at out in
      let b : f n ≡ true = rw here at in_it in
      let e = counted_fewer f h n sub in
      let x : counted h (suc n) ≡ counted h n + 0 = counted_step h n ∙ rw a refl in
      let y : counted f (suc n) ≡ counted f n + 1 = counted_step f n ∙ rw b refl in
      omega arith
  | inr differ ↦
      let e = counted_less f h n d (omega arith) sub out in_it in
      let x = counted_step h n in
      let y = counted_step f n in
      let b = less (h n) (f n) (sub n) in
      omega arith
]
  where
    less : (b c : Bool) → (b ≡ true → c ≡ true) → (if b then 1 else 0) ≤ (if c then 1 else 0)
    less true c s = rw (s refl) (omega arith)
    less false true s = omega arith
    less false false s = omega arith

pub set_there : (number : List (Option ℕ)) (d n : ℕ) → d < length number → number_at (slice_set number d (Some n)) d ≡ Some n
set_there number d n h = get_or-set_same number d (Some n) None h

pub set_else : (number : List (Option ℕ)) (d n v : ℕ) → (v ≡ d → ⊥) → number_at (slice_set number d (Some n)) v ≡ number_at number v
set_else number d n v differ = get_or-set_other number d v (Some n) None differ

pub there : (o : Option ℕ) (n : ℕ) → o ≡ Some n → is_there o ≡ true
there o n e = rw e refl

-- if no device has a number
pub nodes_blank : (number : List (Option ℕ)) → ((d : ℕ) → number_at number d ≡ None) → AreNodes number (counted (has_number number) 63)
nodes_blank number blank = rw (counted_zero (has_number number) 63 (λ k. ap is_there (blank k))) (record {
  below = λ d n e. absurd (let b = blank d in let z : ⊥ = cc in z);
  taken = λ n h. absurd (omega arith);
  one = λ d e n x y. absurd (let b = blank d in let z : ⊥ = cc in z);
})

-- one device more has a number
pub counted_set : (number : List (Option ℕ)) (d n : ℕ) → d < length number → d < 63 → has_number number d ≡ false
    → counted (has_number (slice_set number d (Some n))) 63 ≡ counted (has_number number) 63 + 1
counted_set number d n size low free = counted_more (has_number number) (has_number (slice_set number d (Some n))) 63 d low free
    (there (number_at (slice_set number d (Some n)) d) n (set_there number d n size)) (λ k differ. ap is_there (set_else number d n k differ))

-- one device more takes the next number
pub nodes_set : (number : List (Option ℕ)) (d n : ℕ) → d < length number → d < 63 → has_number number d ≡ false → n ≡ counted (has_number number) 63 → AreNodes number (counted (has_number number) 63)
    → AreNodes (slice_set number d (Some n)) (counted (has_number (slice_set number d (Some n))) 63)
nodes_set number d n size low free count nodes =
    let more : counted (has_number (slice_set number d (Some n))) 63 ≡ counted (has_number number) 63 + 1 = counted_set number d n size low free in
    rw more (record {
      below = λ e m h. elim (was e m h) [ inl new ↦ let x = new.1 in omega arith | inr old ↦ let x = nodes.below e m old.1 in omega arith ];
      taken = λ m h. elim (cases_eq m n) [
        | inl same ↦ (d, rw same (set_there number d n size))
        | inr differ ↦ let w = nodes.taken m (omega arith) in (w.0, set_else number d n w.0 (λ e. taken_not w.0 m w.1 e) ∙ w.1)
      ];
      one = λ e f m x y. elim (was e m x) [
        | inl a ↦ elim (was f m y) [ inl b ↦ a.0 ∙ sym b.0 | inr b ↦ absurd (let l = nodes.below f m b.1 in let k = a.1 in omega arith) ]
        | inr a ↦ elim (was f m y) [ inl b ↦ absurd (let l = nodes.below e m a.1 in let k = b.1 in omega arith) | inr b ↦ nodes.one e f m a.1 b.1 ]
      ];
    })
  where
    taken_not : (e m : ℕ) → number_at number e ≡ Some m → e ≡ d → ⊥
    taken_not e m h same = let x : number_at number d ≡ Some m = rw same at h in let y = there (number_at number d) m x in cc

    was : (e m : ℕ) → number_at (slice_set number d (Some n)) e ≡ Some m → ((e ≡ d) × (m ≡ n)) ⊎ ((e ≡ d → ⊥) × (number_at number e ≡ Some m))
    was e m h = elim (cases_eq e d) [
      | inl same ↦ let x : number_at (slice_set number d (Some n)) d ≡ Some m = rw same at h in let y = set_there number d n size in inl (same, cc)
      | inr differ ↦ inr (differ, sym (set_else number d n e differ) ∙ h)
    ]
