-- A list from what stands at each place.
use Rattle.fw_map.proofs.Common.{◌≡◌, inl, inr, ℕ, zero, suc, ◌+◌, ◌<◌, ◌≤◌, nat_lt, List, [], ◌∷◌, ◌++◌, length, Option, Some, None, Bool, true, false, if◌then◌else◌, arith, refl, sym, ap, ◌∙◌}
use Rattle.fw_map.proofs.Common.{cases_eq, cases_lt, nat_tests}
use Rattle.std.proofs.Common.{get_or, length-append}
use Rattle.std.specs.Option.{option_and_then, option_map}
use Rattle.std.proofs.lemmas.List.{get_or_past, get_or_append_left}
use Rattle.fw_tree.specs.declared.facts.PhyFacts.{PhyFacts}
use Rattle.fw_tree.specs.SelfIds.{facts_at}
use Rattle.fw_tree.specs.Topology.{ports_of, AreDevices}
use Rattle.std.proofs.Math.Seq.{get_or-append_seam}

-- ---- a list from what stands at each place

pub table : {A : Type 0} → (ℕ → A) → ℕ → List A
table f zero = []
table f (suc k) = table f k ++ f k ∷ []

pub table_length : {A : Type 0} (f : ℕ → A) (k : ℕ) → length (table f k) ≡ k
unfolding table
table_length f zero = refl
table_length f (suc k) = let e = table_length f k in length-append (table f k) (f k ∷ []) ∙ (let r : length (table f k) + 1 ≡ suc k = omega arith in r)

table_at : {A : Type 0} (f : ℕ → A) (k i : ℕ) (d : A) → i < k → get_or (table f k) i d ≡ f i
unfolding table
table_at f zero i d l = absurd (omega arith)
table_at f (suc k) i d l = elim (cases_eq i k) [
  | inl same ↦
      let size = table_length f k in
      let e : i ≡ length (table f k) = omega arith in
      ap (λ x. get_or (table f k ++ f k ∷ []) x d) e ∙ (get_or-append_seam (table f k) (f k) [] d ∙ ap f (sym same))
  | inr differ ↦ let size = table_length f k in get_or_append_left (table f k) (f k ∷ []) d i (omega arith) ∙ table_at f k i d (omega arith)
]

-- a list of 63 places, of which none from n on is filled
pub table_all : {A : Type 0} (f : ℕ → A) (d : A) (n : ℕ) → n ≤ 63 → ((i : ℕ) → n ≤ i → f i ≡ d) → (i : ℕ) → get_or (table f 63) i d ≡ f i
table_all f d n few none i = elim (cases_lt i 63) [
  | inl l ↦ table_at f 63 i d l
  | inr m ↦ get_or_past (table f 63) i d (let size = table_length f 63 in omega arith) ∙ sym (none i (omega arith))
]

pub and_then_some : {A B : Type 0} (f : A → Option B) (o : Option A) (y : B) → option_and_then f o ≡ Some y → (x : A) × (o ≡ Some x) × (f x ≡ Some y)
and_then_some f None y h = absurd (let z : ⊥ = cc in z)
and_then_some f (Some x) y h = (x, refl, h)

pub map_some : {A B : Type 0} (f : A → B) (o : Option A) (x : A) → o ≡ Some x → option_map f o ≡ Some (f x)
map_some f o x h = ap (option_map f) h

pub ports_are : (fs : List PhyFacts) (d : ℕ) → ports_of fs d ≡ (facts_at fs d).ports
ports_are [] d = refl
ports_are (f ∷ fs) zero = refl
ports_are (f ∷ fs) (suc d) = ports_are fs d

pub ports_low : (fs : List PhyFacts) (d : ℕ) → AreDevices fs → (facts_at fs d).ports ≤ 27
ports_low [] d a = omega arith
ports_low (f ∷ fs) zero a = a.1
ports_low (f ∷ fs) (suc d) a = ports_low fs d a.3

pub low_if : {A : Type 0} (v n : ℕ) (x y : A) → v < n → (if nat_lt v n then x else y) ≡ x
low_if v n x y l = step (nat_lt v n) (low v n l)
  where
    low : (a n : ℕ) → a < n → nat_lt a n ≡ true
    low a n h = grind (arith, nat_tests)

    step : (b : Bool) → b ≡ true → (if b then x else y) ≡ x
    step b h = rw h refl

pub high_if : {A : Type 0} (v n : ℕ) (x y : A) → n ≤ v → (if nat_lt v n then x else y) ≡ y
high_if v n x y l = step (nat_lt v n) (high v n l)
  where
    high : (a n : ℕ) → n ≤ a → nat_lt a n ≡ false
    high a n h = grind (arith, nat_tests)

    step : (b : Bool) → b ≡ false → (if b then x else y) ≡ y
    step b h = rw h refl
