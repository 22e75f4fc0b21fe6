-- What the code of a port says of the device at the other end.
use Rattle.fw_map.proofs.Common.{◌≡◌, ℕ, ◌<◌, ◌==◌, nat_lt, List, Option, Some, None, Bool, true, false, slice_index_or, if◌then◌else◌, arith, refl, sym, ap, nat_tests}
use Rattle.fw_tree.specs.declared.facts.End.{End}
use Rattle.fw_tree.specs.SelfIds.{cable_code, port_code}

-- what a port's code says
pub child_code : (n : ℕ) (cables : List (Option End)) (parent : Option ℕ) (p : ℕ) → port_code n cables parent p ≡ 3 → (e : End) × (slice_index_or cables p None ≡ Some e) × (parent ≡ Some p → ⊥)
child_code n cables parent p h = step (nat_lt p n) (slice_index_or cables p None) parent h refl
  where
    differ : (p q : ℕ) → ◌≡◌ {A = ℕ} (if p == q then 2 else 3) 3 → p ≡ q → ⊥
    differ p q h e = grind (arith, nat_tests)

    step : (b : Bool) (o : Option End) (u : Option ℕ) → (if b then cable_code o u p else 0) ≡ 3 → slice_index_or cables p None ≡ o → (e : End) × (slice_index_or cables p None ≡ Some e)
        × (u ≡ Some p → ⊥)
    step false o u h k = absurd (omega arith)
    step true None u h k = absurd (omega arith)
    step true (Some e) None h k = (e, k, λ x. let z : ⊥ = cc in z)
    step true (Some e) (Some q) h k = (e, k, λ x. differ p q h (let s : q ≡ p = cc in sym s))

pub code_child : (n : ℕ) (cables : List (Option End)) (parent : Option ℕ) (p : ℕ) (e : End) → p < n → slice_index_or cables p None ≡ Some e → (parent ≡ Some p → ⊥) → port_code n cables parent p ≡ 3
code_child n cables parent p e l at no_parent = step (nat_lt p n) (slice_index_or cables p None) parent (low p n l) at no_parent
  where
    low : (a n : ℕ) → a < n → nat_lt a n ≡ true
    low a n h = grind (arith, nat_tests)

    differ : (p q : ℕ) → (p ≡ q → ⊥) → ◌≡◌ {A = ℕ} (if p == q then 2 else 3) 3
    differ p q h = grind (arith, nat_tests)

    step : (b : Bool) (o : Option End) (u : Option ℕ) → b ≡ true → o ≡ Some e → (u ≡ Some p → ⊥) → (if b then cable_code o u p else 0) ≡ 3
    step false o u h k m = absurd (let z : ⊥ = cc in z)
    step true None u h k m = absurd (let z : ⊥ = cc in z)
    step true (Some f) None h k m = refl
    step true (Some f) (Some q) h k m = differ p q (λ s. m (ap (λ x. Some x) (sym s)))

pub parent_code : (n : ℕ) (cables : List (Option End)) (parent : Option ℕ) (p : ℕ) → port_code n cables parent p ≡ 2 → parent ≡ Some p
parent_code n cables parent p h = step (nat_lt p n) (slice_index_or cables p None) parent h
  where
    same : (p q : ℕ) → ◌≡◌ {A = ℕ} (if p == q then 2 else 3) 2 → p ≡ q
    same p q h = grind (arith, nat_tests)

    step : (b : Bool) (o : Option End) (u : Option ℕ) → (if b then cable_code o u p else 0) ≡ 2 → u ≡ Some p
    step false o u h = absurd (omega arith)
    step true None u h = absurd (omega arith)
    step true (Some e) None h = absurd (omega arith)
    step true (Some e) (Some q) h = ap (λ x. Some x) (sym (same p q h))

pub code_parent : (n : ℕ) (cables : List (Option End)) (parent : Option ℕ) (p : ℕ) (e : End) → p < n → slice_index_or cables p None ≡ Some e → parent ≡ Some p → port_code n cables parent p ≡ 2
code_parent n cables parent p e l at up = step (nat_lt p n) (slice_index_or cables p None) parent (low p n l) at up
  where
    low : (a n : ℕ) → a < n → nat_lt a n ≡ true
    low a n h = grind (arith, nat_tests)

    same : (p q : ℕ) → p ≡ q → ◌≡◌ {A = ℕ} (if p == q then 2 else 3) 2
    same p q h = grind (arith, nat_tests)

    step : (b : Bool) (o : Option End) (u : Option ℕ) → b ≡ true → o ≡ Some e → u ≡ Some p → (if b then cable_code o u p else 0) ≡ 2
    step false o u h k m = absurd (let z : ⊥ = cc in z)
    step true None u h k m = absurd (let z : ⊥ = cc in z)
    step true (Some f) None h k m = absurd (let z : ⊥ = cc in z)
    step true (Some f) (Some q) h k m = let s : q ≡ p = cc in same p q (sym s)
