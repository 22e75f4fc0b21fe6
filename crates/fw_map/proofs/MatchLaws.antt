-- Counts of numbers that pass: cut off, split, and of two tests that pass at places matched in order.
use Rattle.fw_map.proofs.Common.{◌≡◌, ◌⊎◌, inl, inr, ℕ, zero, suc, ◌+◌, ◌<◌, ◌≤◌, Bool, true, false, Option, Some, None, if◌then◌else◌, arith, refl, sym, ap, subst, ◌∙◌, cases_eq, counted}
use Rattle.fw_map.proofs.Common.{counted_none, counted_yes, counted_else, counted_same, counted_zero, truth}
use Rattle.fw_terms.specs.Tables.{find_to}
use Rattle.fw_terms.proofs.Finds.{find_here}
use Rattle.fw_terms.proofs.Tables.{IsFirst, find_to_is}
use Rattle.fw_tree.proofs.CountLaws.{counted_step}

-- ---- the first that passes

pub find_all : (n : ℕ) (test : ℕ → Bool) → ((j : ℕ) → j < n → test j ≡ false) → find_to n test ≡ None
find_all n test none = go (find_to n test) (find_to_is n test)
  where
    go : (o : Option ℕ) → IsFirst n test o → o ≡ None
    go None f = refl
    go (Some k) f = absurd (let a = f.1 in let b = none k f.0 in let z : ⊥ = cc in z)

pub find_first : (n k : ℕ) (test : ℕ → Bool) → k < n → test k ≡ true → ((j : ℕ) → j < k → test j ≡ false) → find_to n test ≡ Some k
find_first n k test low at below = find_here n k test (find_all k test below) at low

-- ---- counts

-- 1 if it holds
abbrev pub one_if : Bool → ℕ
one_if b = if b then 1 else 0

pub counted_nothing : (f : ℕ → Bool) (n : ℕ) → ((k : ℕ) → k < n → f k ≡ false) → counted f n ≡ 0
counted_nothing f n none = counted_same f (λ k. false) n none ∙ counted_zero (λ k. false) n (λ k. refl)

-- if each that passes one test passes the other
pub counted_below : (f h : ℕ → Bool) (n : ℕ) → ((k : ℕ) → k < n → h k ≡ true → f k ≡ true) → counted h n ≤ counted f n
counted_below f h zero sub = omega (arith, counted_none f, counted_none h)
counted_below f h (suc n) sub =
    let e = counted_below f h n (λ k l. sub k (omega arith)) in
    let x = counted_step h n in
    let y = counted_step f n in
    let b = less (h n) (f n) (sub n (omega arith)) in
    omega arith
  where
    less : (b c : Bool) → (b ≡ true → c ≡ true) → one_if b ≤ one_if c
    less true c s = rw (s refl) (omega arith)
    less false true s = omega arith
    less false false s = omega arith

-- two tests that split a third
pub counted_split : (f g h : ℕ → Bool) (n : ℕ) → ((k : ℕ) → k < n → one_if (f k) ≡ one_if (g k) + one_if (h k)) → counted f n ≡ counted g n + counted h n
counted_split f g h zero each = omega (arith, counted_none f, counted_none g, counted_none h)
counted_split f g h (suc n) each =
    let e = counted_split f g h n (λ k l. each k (omega arith)) in
    let x = counted_step f n in
    let y = counted_step g n in
    let z = counted_step h n in
    let w = each n (omega arith) in
    omega arith

-- none passes from a place on
pub counted_cut : (f : ℕ → Bool) (m n : ℕ) → m ≤ n → ((k : ℕ) → m ≤ k → k < n → f k ≡ false) → counted f n ≡ counted f m
counted_cut f m zero l none = let e : m ≡ 0 = omega arith in ap (counted f) (sym e)
counted_cut f m (suc n) l none = elim (cases_eq m (suc n)) [
  | inl same ↦ ap (counted f) (sym same)
  | inr differ ↦
      let e : n + 1 ≡ suc n = omega arith in
      ap (counted f) (sym e) ∙ (counted_else f n (none n (omega arith) (omega arith)) ∙ counted_cut f m n (omega arith) (λ k a b. none k a (omega arith)))
]

-- one passes at a place, and none after it
pub counted_last : (f : ℕ → Bool) (m n : ℕ) → m < n → f m ≡ true → ((k : ℕ) → m < k → k < n → f k ≡ false) → counted f n ≡ counted f m + 1
counted_last f m n l at none = counted_cut f (m + 1) n (omega arith) (λ k a b. none k (omega arith) b) ∙ counted_yes f m at

-- ---- two tests whose places are matched in order

pub record AreMatched (R : ℕ → ℕ → Type 0) : Type 0 where
  pub one : (x p r : ℕ) → R x p → R x r → p ≡ r
  pub ordered : (x y p r : ℕ) → R x p → R y r → x < y → p < r

pub record MatchUpTo (R : ℕ → ℕ → Type 0) (f g : ℕ → Bool) (c q : ℕ) : Type 0 where
  pub to : (x : ℕ) → x < c → f x ≡ true → (p : ℕ) × (p < q) × (g p ≡ true) × R x p
  pub back : (p : ℕ) → p < q → g p ≡ true → (x : ℕ) × (x < c) × (f x ≡ true) × R x p

pub matched_count : (R : ℕ → ℕ → Type 0) (f g : ℕ → Bool) (c q : ℕ) → AreMatched R → MatchUpTo R f g c q → counted f c ≡ counted g q
matched_count R f g zero q m u = counted_none f ∙ sym (counted_nothing g q (λ p l. no p l (truth (g p))))
  where
    no : (p : ℕ) → p < q → (g p ≡ true) ⊎ (g p ≡ false) → g p ≡ false
    no p l (inl on) = absurd (let w = u.back p l on in omega (arith, w.1))
    no p l (inr off) = off
matched_count R f g (suc c) q m u = elim (truth (f c)) [
  | inr off ↦
      let e : c + 1 ≡ suc c = omega arith in
      ap (counted f) (sym e) ∙ (counted_else f c off ∙ matched_count R f g c q m (without off))
  | inl on ↦
      let e : c + 1 ≡ suc c = omega arith in
      let w = u.to c (omega arith) on in
      ap (counted f) (sym e) ∙ (counted_yes f c on ∙ (ap (λ n. n + 1) (matched_count R f g c w.0 m (before on w.0 w.1 w.3))
      ∙ sym (counted_last g w.0 q w.1 w.2 (λ p a b. none on w.0 w.3 p a b (truth (g p))))))
]
  where
    without : f c ≡ false → MatchUpTo R f g c q
    without off = record {
      to = λ x l h. u.to x (omega arith) h;
      back = λ p l h. let w = u.back p l h in (w.0, lower off w.0 w.1 w.2 (cases_eq w.0 c), w.2, w.3);
    }
      where
        lower : f c ≡ false → (x : ℕ) → x < suc c → f x ≡ true → (x ≡ c) ⊎ (x ≡ c → ⊥) → x < c
        lower off x l h (inl same) = absurd (let a = ap f same in let z : ⊥ = cc in z)
        lower off x l h (inr differ) = omega arith

    before : f c ≡ true → (p : ℕ) → p < q → R c p → MatchUpTo R f g c p
    before on p low r = record {
      to = λ x l h. let w = u.to x (omega arith) h in (w.0, m.ordered x c w.0 p w.3 r l, w.2, w.3);
      back = λ s l h. let w = u.back s (omega arith) h in (w.0, under w.0 s l w.1 w.3 (cases_eq w.0 c), w.2, w.3);
    }
      where
        under : (x s : ℕ) → s < p → x < suc c → R x s → (x ≡ c) ⊎ (x ≡ c → ⊥) → x < c
        under x s l a b (inl same) = absurd (let k = m.one c s p (subst (λ (y : ℕ). R y s) same b) r in omega arith)
        under x s l a b (inr differ) = omega arith

    none : f c ≡ true → (p : ℕ) → R c p → (s : ℕ) → p < s → s < q → (g s ≡ true) ⊎ (g s ≡ false) → g s ≡ false
    none on p r s a b (inr off) = off
    none on p r s a b (inl h) = absurd (let w = u.back s b h in past w.0 s w.1 w.3 a (cases_eq w.0 c))
      where
        past : (x s : ℕ) → x < suc c → R x s → p < s → (x ≡ c) ⊎ (x ≡ c → ⊥) → ⊥
        past x s l b a (inl same) = let k = m.one c s p (subst (λ (y : ℕ). R y s) same b) r in omega arith
        past x s l b a (inr differ) = let k = m.ordered x c s p b r (omega arith) in omega arith
