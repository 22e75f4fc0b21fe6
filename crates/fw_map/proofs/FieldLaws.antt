-- Which ports the packets of a node have.
use Rattle.fw_map.proofs.Common.{subst, zero, suc, ◌≡◌, inl, inr, ℕ, ◌+◌, ◌-◌, ◌<◌, ◌≤◌, ◌==◌, ◌&&◌, nat_lt, List, [], ◌∷◌, Option, Some, None, Bool, true, false, slice_get, unwrap_or, if◌then◌else◌}
use Rattle.fw_map.proofs.Common.{arith, refl, ap, ◌∙◌, All, cases_eq, cases_lt, nat_tests, PhyPacket, Fits, counted, counted_yes, counted_else, counted_zero, field_in, field_of, IsLast}
use Rattle.std.proofs.Common.{◌*◌, nat_le}
use Rattle.std.proofs.lemmas.List.Elements.{All-head, All-tail}
use Rattle.std.proofs.lemmas.Option.{slice_get_past}
use Rattle.fw_phy.specs.declared.packet.PhyPacket.TheVariants.{SelfId, SelfIdMore, Config, LinkOn}
use Rattle.fw_tree.proofs.ForestLaws.{truth as cases_bool}
use Rattle.fw_tree.proofs.CountLaws.{counted_less, counted_fewer, counted_more}

either_none : (b : Bool) (o : Option ℕ) → o ≡ None → (if b then o else None) ≡ None
either_none true o h = h
either_none false o h = refl

no_field_in : (q : PhyPacket) (d p : ℕ) → Fits q → 27 ≤ p → field_in q d p ≡ None
no_field_in (SelfId s) d p f h = either_none (s.phy == d) (slice_get s.ports p) (slice_get_past s.ports p (let e = f.shape in omega arith))
no_field_in (SelfIdMore s) d p f h = either_none ((s.phy == d) && nat_le (3 + 8 * s.number) p) (slice_get s.ports (p - (3 + 8 * s.number)))
    (slice_get_past s.ports (p - (3 + 8 * s.number)) (let e = f.shape in omega arith))
no_field_in (Config root force_root set_gap gap) d p f h = refl
no_field_in (LinkOn phy) d p f h = refl

-- a node's packets have no port from 27 on
pub no_field : (ids : List PhyPacket) (d p : ℕ) → All Fits ids → 27 ≤ p → field_of ids d p ≡ 0
no_field [] d p f h = refl
no_field (q ∷ qs) d p f h = ap (λ o. unwrap_or o (field_of qs d p)) (no_field_in q d p (All-head Fits q qs f) h) ∙ no_field qs d p (All-tail Fits q qs f) h

-- the last number that passes, one number further
pub last_none : (f : ℕ → Bool) → IsLast f 0 None
last_none f k l = absurd (omega arith)

pub last_yes : (f : ℕ → Bool) (n : ℕ) → f n ≡ true → IsLast f (n + 1) (Some n)
last_yes f n h = (omega arith, h, λ k l m. absurd (omega arith))

pub last_else : (f : ℕ → Bool) (n : ℕ) (o : Option ℕ) → f n ≡ false → IsLast f n o → IsLast f (n + 1) o
last_else f n None h g = λ k l. elim (cases_eq k n) [ inl same ↦ ap f same ∙ h | inr differ ↦ g k (omega arith) ]
last_else f n (Some q) h g = (omega (arith, g.0), g.1, λ k l m. elim (cases_eq k n) [ inl same ↦ ap f same ∙ h | inr differ ↦ g.2 k l (omega arith) ])

counted_grows : (f : ℕ → Bool) (n d : ℕ) → counted f n ≤ counted f (n + d)
counted_grows f n zero = let r : n + 0 ≡ n = omega arith in rw r (omega arith)
counted_grows f n (suc d) = elim (cases_bool (f (n + d))) [
  | inl on ↦ let e = counted_grows f n d in let a = counted_yes f (n + d) on in let s : n + suc d ≡ n + d + 1 = omega arith in rw s (omega arith)
  | inr off ↦ let e = counted_grows f n d in let a = counted_else f (n + d) off in let s : n + suc d ≡ n + d + 1 = omega arith in rw s (omega arith)
]

-- more numbers count no fewer
pub counted_upto : (f : ℕ → Bool) (m n : ℕ) → m ≤ n → counted f m ≤ counted f n
counted_upto f m n l = let e : m + (n - m) ≡ n = omega arith in subst (λ (k : ℕ). counted f m ≤ counted f k) e (counted_grows f m (n - m))

-- if one number passes it is the last that does
pub only_one : (f : ℕ → Bool) (n q k : ℕ) → counted f n ≡ 1 → IsLast f n (Some q) → k < n → f k ≡ true → k ≡ q
only_one f n q k count last low h = elim (cases_eq k q) [
  | inl same ↦ same
  | inr differ ↦ elim (cases_lt q k) [
    | inl more ↦ absurd (let e = last.2 k more low in let z : ⊥ = cc in z)
    | inr less ↦ absurd (
        let a = counted_less (λ j. f j && nat_lt j q) (λ j. false) q k (omega arith) (λ j i. absurd (let z : ⊥ = cc in z)) refl (both (f k) k q h (omega arith)) in
        let b = counted_fewer f (λ j. f j && nat_lt j q) q (λ j i. first (f j) (nat_lt j q) i) in
        let c = counted_yes f q last.1 in
        let d = counted_upto f (q + 1) n (omega (arith, last.0)) in
        omega arith)
  ]
]
  where
    both : (a : Bool) (k q : ℕ) → a ≡ true → k < q → (a && nat_lt k q) ≡ true
    both a k q h l = grind (arith, nat_tests)

    first : (a b : Bool) → (a && b) ≡ true → a ≡ true
    first true b h = refl
    first false b h = h

-- if none counts, none passes
pub none_counts : (f : ℕ → Bool) (n k : ℕ) → counted f n ≡ 0 → k < n → f k ≡ false
none_counts f n k count low = elim (cases_bool (f k)) [
  | inr off ↦ off
  | inl on ↦ absurd (let a = counted_yes f k on in let b = counted_upto f (k + 1) n (omega arith) in omega arith)
]

-- if exactly one number passes, one counts
pub one_counts : (f : ℕ → Bool) (n q : ℕ) → q < n → f q ≡ true → ((k : ℕ) → f k ≡ true → k ≡ q) → counted f n ≡ 1
one_counts f n q low h only =
    let a = counted_more (λ k. false) f n q low refl h (λ k differ. elim (cases_bool (f k)) [ inr off ↦ off | inl on ↦ absurd (differ (only k on)) ]) in
    let b = counted_zero (λ k. false) n (λ k. refl) in
    omega arith
