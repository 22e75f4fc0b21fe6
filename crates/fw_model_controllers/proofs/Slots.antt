-- The table of a controller's slots, and the connections that it says stand.
use Rattle.fw_model_controllers.proofs.Common.{PlugAt, ConnectionKind, ◌≡◌, ◌≢◌, ℕ, ◌+◌, ◌<◌, Bool, true, false, not, ◌&&◌, List, []}
use Rattle.fw_model_controllers.proofs.Common.{◌∷◌, length, eqb, cond, refl, ap, sym, ◌∙◌, arith, ◌⊎◌, inl, inr, nat_tests}
use Rattle.fw_model_controllers.proofs.Common.{cases_eq, Slot, Free, Nothing, Asking, Job, Stage, ControllerState, slot_at, with_slot, count_of, is_current_slot}
use Rattle.std.proofs.Common.{zero, suc, get_or, slice_set, map}
use Rattle.std.proofs.lemmas.List.{get_or-set_same, get_or-set_other}
use Rattle.fw_terms.specs.Tables.{sum_to}
use Rattle.fw_terms.proofs.Tables.{sum_to_same, sum_to_changed_below, sum_to_zero}

-- ---- the table

pub slot_set : (c : ControllerState) (i k : ℕ) (s : Slot) → i < length c.slots → slot_at (with_slot c i s) k ≡ cond (eqb k i) s (slot_at c k)
slot_set c i k s lt = go (cases_eq k i)
  where
    go : (k ≡ i) ⊎ (k ≢ i) → get_or (slice_set c.slots i s) k Free ≡ cond (eqb k i) s (slot_at c k)
    go (inl e) = let same = get_or-set_same c.slots i s Free lt in grind (arith, nat_tests)
    go (inr ne) = get_or-set_other c.slots i k s Free ne ∙ grind (arith, nat_tests)

pub slot_here : (c : ControllerState) (i : ℕ) (s : Slot) → i < length c.slots → slot_at (with_slot c i s) i ≡ s
slot_here c i s lt = slot_set c i i s lt ∙ (let same : eqb i i ≡ true = grind (arith, nat_tests) in rw same refl)

pub slot_mapped : (f : Slot → Slot) (xs : List Slot) (i : ℕ) → f Free ≡ Free → get_or (map f xs) i Free ≡ f (get_or xs i Free)
slot_mapped f [] i free = sym free
slot_mapped f (x ∷ xs) zero free = refl
slot_mapped f (x ∷ xs) (suc i) free = slot_mapped f xs i free

-- ---- what stands

-- whether a slot has its connection at a plug
abbrev pub Stands : Type 0
Stands = Slot → ConnectionKind → PlugAt → Bool

abbrev pub stands_at : Stands → ControllerState → ConnectionKind → PlugAt → ℕ → ℕ
stands_at stands c kind q i = count_of (not (is_current_slot c.current i) && stands (slot_at c i) kind q)

abbrev pub slot_counts : Stands → ControllerState → ConnectionKind → PlugAt → ℕ
slot_counts stands c kind q = sum_to 32 (stands_at stands c kind q)

-- the tables agree
pub counts_same : (stands : Stands) (c e : ControllerState) (kind : ConnectionKind) (q : PlugAt) → ((i : ℕ) → i < 32 → stands_at stands c kind q i ≡ stands_at stands e kind q i)
    → slot_counts stands c kind q ≡ slot_counts stands e kind q
counts_same stands c e kind q same = sum_to_same 32 (stands_at stands c kind q) (stands_at stands e kind q) same

-- the tables agree but at one slot
pub counts_changed : (stands : Stands) (c e : ControllerState) (kind : ConnectionKind) (q : PlugAt) (k : ℕ) → k < 32
    → ((i : ℕ) → i < 32 → i ≢ k → stands_at stands c kind q i ≡ stands_at stands e kind q i)
    → slot_counts stands c kind q + stands_at stands e kind q k ≡ slot_counts stands e kind q + stands_at stands c kind q k
counts_changed stands c e kind q k lt same = sum_to_changed_below 32 k (stands_at stands c kind q) (stands_at stands e kind q) lt same

-- nothing stands
pub counts_none : (stands : Stands) (c : ControllerState) (kind : ConnectionKind) (q : PlugAt) → ((i : ℕ) → i < 32 → stands (slot_at c i) kind q ≡ false) → slot_counts stands c kind q ≡ 0
counts_none stands c kind q none = sum_to_same 32 (stands_at stands c kind q) (λ i. 0) (λ i lt. go (is_current_slot c.current i) (none i lt)) ∙ sum_to_zero 32
  where
    go : (b : Bool) → {d : Bool} → d ≡ false → count_of (not b && d) ≡ 0
    go true e = refl
    go false e = rw e refl

-- the job of a slot becomes current: what stood is the job's
pub counts_begun : (stands : Stands) (c : ControllerState) (j : Job) (s : Stage) (kind : ConnectionKind) (q : PlugAt) → c.current ≡ Nothing → j.slot < 32
    → slot_counts stands c kind q ≡ slot_counts stands (record c { current = Asking j s }) kind q + count_of (stands (slot_at c j.slot) kind q)
counts_begun stands c j s kind q nothing lt = omega (arith, changed, here, there)
  where
    e : ControllerState
    e = record c { current = Asking j s }

    changed : slot_counts stands c kind q + stands_at stands e kind q j.slot ≡ slot_counts stands e kind q + stands_at stands c kind q j.slot
    changed = counts_changed stands c e kind q j.slot lt (λ i il ne. rw nothing (let apart : eqb j.slot i ≡ false = grind (arith, nat_tests) in rw apart refl))

    here : stands_at stands e kind q j.slot ≡ 0
    here = let same : eqb j.slot j.slot ≡ true = grind (arith, nat_tests) in rw same refl

    there : stands_at stands c kind q j.slot ≡ count_of (stands (slot_at c j.slot) kind q)
    there = rw nothing refl

-- the current job ends: its slot says what stands
pub counts_ended : (stands : Stands) (c : ControllerState) (j : Job) (s : Stage) (new : Slot) (kind : ConnectionKind) (q : PlugAt) → length c.slots ≡ 32 → j.slot < 32 → c.current ≡ Asking j s
    → slot_counts stands (with_slot (record c { current = Nothing }) j.slot new) kind q ≡ slot_counts stands c kind q + count_of (stands new kind q)
counts_ended stands c j s new kind q full lt current = omega (arith, changed, here, there)
  where
    e : ControllerState
    e = with_slot (record c { current = Nothing }) j.slot new

    at : (i : ℕ) → slot_at e i ≡ cond (eqb i j.slot) new (slot_at c i)
    at i = slot_set (record c { current = Nothing }) j.slot i new (omega arith)

    changed : slot_counts stands e kind q + stands_at stands c kind q j.slot ≡ slot_counts stands c kind q + stands_at stands e kind q j.slot
    changed = counts_changed stands e c kind q j.slot lt (λ i il ne. let apart : eqb j.slot i ≡ false = grind (arith, nat_tests) in let other : eqb i j.slot ≡ false = grind (arith, nat_tests) in
        rw (current, apart) (ap (λ x. count_of (stands x kind q)) (at i ∙ rw other refl)))

    here : stands_at stands c kind q j.slot ≡ 0
    here = let same : eqb j.slot j.slot ≡ true = grind (arith, nat_tests) in rw (current, same) refl

    there : stands_at stands e kind q j.slot ≡ count_of (stands new kind q)
    there = ap (λ x. count_of (stands x kind q)) (at j.slot ∙ (let same : eqb j.slot j.slot ≡ true = grind (arith, nat_tests) in rw same refl))
