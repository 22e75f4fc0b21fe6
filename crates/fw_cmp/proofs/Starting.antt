-- A start is refused by the rules, and a new connection takes the lowest free slot.
use Rattle.fw_cmp.proofs.Common.{◌≡◌, ℕ, ◌<◌, ◌≤◌, Bool, true, false, length, refl, ap, ◌∙◌, arith, Option, Some, None, if◌then◌else◌, nat_tests, find_to, find_to_is, IsFirst, ControllerState}
use Rattle.fw_cmp.proofs.Common.{slot_at, is_free, break_fault}
use Rattle.std.proofs.Common.{zero, suc, Ok, Err}
use Rattle.std.specs.Prelude.{Result}
use Rattle.fw_cmp.specs.declared.outcome.StartFault.{StartFault}
use Rattle.fw_cmp.specs.declared.outcome.StartFault.TheVariants.{TableFull, Busy, NoSuchConnection}
use Rattle.fw_cmp.specs.Refusals.{IsFull, HasFree, TakesSlot}
use Rattle.fw_cmp.specs.Starts.{free_slot, is_crowded, start_at, start, can_break, start_break}

-- no place before the first one passes
before_first : (n : ℕ) (test : ℕ → Bool) (k : ℕ) → find_to n test ≡ Some k → (j : ℕ) → j < k → test j ≡ false
unfolding find_to
before_first zero test k e j lt = cc
before_first (suc n) test k e j lt = step (before_first n test k) (find_to n test) refl (test n) refl e
  where
    step : (find_to n test ≡ Some k → (i : ℕ) → i < k → test i ≡ false) → (o : Option ℕ) → find_to n test ≡ o → (b : Bool) → test n ≡ b
        → elim o as (λ _. Option ℕ) [ Some i ↦ Some i | None ↦ (if b then Some n else None) ] ≡ Some k → test j ≡ false
    step below (Some i) f b t e = below (f ∙ e) j lt
    step below None f true t e = let none : IsFirst n test None = rw f at (find_to_is n test) in none j (let same : n ≡ k = cc in omega arith)
    step below None f false t e = cc

-- ---- the table is full

full_from : (c : ControllerState) (o : Option ℕ) → IsFirst 32 (λ i. is_free (slot_at c i)) o → start_at o c ≡ Err TableFull → IsFull c
full_from c None first e = first
full_from c (Some i) first e = absurd (go (is_crowded c) e)
  where
    go : (b : Bool) → (if b then Err Busy else Ok i) ≡ Err TableFull → ⊥
    go true e = cc
    go false e = cc

pub full_means : (c : ControllerState) → start c ≡ Err TableFull → IsFull c
full_means c e = full_from c (free_slot c) (find_to_is 32 (λ i. is_free (slot_at c i))) e

refused_full : (c : ControllerState) (o : Option ℕ) → IsFirst 32 (λ i. is_free (slot_at c i)) o → IsFull c → start_at o c ≡ Err TableFull
refused_full c None first h = refl
refused_full c (Some i) first h = let clash : is_free (slot_at c i) ≡ false = h i first.0 in let found : is_free (slot_at c i) ≡ true = first.1 in cc

pub full_refused : (c : ControllerState) → IsFull c → start c ≡ Err TableFull
full_refused c h = refused_full c (free_slot c) (find_to_is 32 (λ i. is_free (slot_at c i))) h

-- ---- eight jobs wait

crowded_from : (c : ControllerState) (o : Option ℕ) → IsFirst 32 (λ i. is_free (slot_at c i)) o → start_at o c ≡ Err Busy → HasFree c × (8 ≤ length c.waiting)
crowded_from c None first e = cc
crowded_from c (Some i) first e = go (is_crowded c) refl e
  where
    go : (b : Bool) → is_crowded c ≡ b → (if b then Err Busy else Ok i) ≡ Err Busy → HasFree c × (8 ≤ length c.waiting)
    go true crowded e = ((i, (first.0, first.1)), grind (arith, nat_tests, crowded))
    go false crowded e = cc

pub crowded_means : (c : ControllerState) → start c ≡ Err Busy → HasFree c × (8 ≤ length c.waiting)
crowded_means c e = crowded_from c (free_slot c) (find_to_is 32 (λ i. is_free (slot_at c i))) e

refused_crowded : (c : ControllerState) (o : Option ℕ) → IsFirst 32 (λ i. is_free (slot_at c i)) o → HasFree c → 8 ≤ length c.waiting → start_at o c ≡ Err Busy
refused_crowded c None first h many = let clash : is_free (slot_at c h.0) ≡ false = first h.0 h.1.0 in let found : is_free (slot_at c h.0) ≡ true = h.1.1 in cc
refused_crowded c (Some i) first h many = let crowded : is_crowded c ≡ true = grind (arith, nat_tests) in rw crowded refl

pub crowded_refused : (c : ControllerState) → HasFree c → 8 ≤ length c.waiting → start c ≡ Err Busy
crowded_refused c h many = refused_crowded c (free_slot c) (find_to_is 32 (λ i. is_free (slot_at c i))) h many

-- ---- the slot

taken_from : (c : ControllerState) (i : ℕ) (o : Option ℕ) → free_slot c ≡ o → IsFirst 32 (λ k. is_free (slot_at c k)) o → start_at o c ≡ Ok i → TakesSlot c i
taken_from c i None is first e = cc
taken_from c i (Some k) is first e = go (is_crowded c) refl e
  where
    go : (b : Bool) → is_crowded c ≡ b → (if b then Err Busy else Ok k) ≡ Ok i → TakesSlot c i
    go true crowded e = cc
    go false crowded e =
        let same : k ≡ i = cc in
        rw (← same) (record { within = first.0; free = first.1; lowest = before_first 32 (λ n. is_free (slot_at c n)) k is; room = grind (arith, nat_tests, crowded) })

pub taken_slot : (c : ControllerState) (i : ℕ) → start c ≡ Ok i → TakesSlot c i
taken_slot c i e = taken_from c i (free_slot c) refl (find_to_is 32 (λ k. is_free (slot_at c k))) e

-- ---- a break

abbrev answer_by : Bool → Bool → Result (Unit {0}) StartFault
answer_by b k = elim (if b then (if k then Some Busy else None) else Some NoSuchConnection) as (λ _. Result (Unit {0}) StartFault) [ None ↦ Ok tt | Some fault ↦ Err fault ]

break_by : (b k : Bool) → elim (if b then (if k then Some Busy else None) else Some NoSuchConnection) as (λ _. Result (Unit {0}) StartFault) [ None ↦ Ok tt | Some fault ↦ Err fault ]
    ≡ Err NoSuchConnection → b ≡ false
break_by true true e = cc
break_by true false e = cc
break_by false k e = refl

pub no_connection_means : (c : ControllerState) (i : ℕ) → start_break c i ≡ Err NoSuchConnection → can_break c i ≡ false
no_connection_means c i e = break_by (can_break c i) (is_crowded c) e

pub no_connection_refused : (c : ControllerState) (i : ℕ) → can_break c i ≡ false → start_break c i ≡ Err NoSuchConnection
no_connection_refused c i e = ap (λ (b : Bool). answer_by b (is_crowded c)) e

busy_by : (b k : Bool) → elim (if b then (if k then Some Busy else None) else Some NoSuchConnection) as (λ _. Result (Unit {0}) StartFault) [ None ↦ Ok tt | Some fault ↦ Err fault ] ≡ Err Busy
    → (b ≡ true) × (k ≡ true)
busy_by true true e = (refl, refl)
busy_by true false e = cc
busy_by false k e = cc

pub crowded_break_means : (c : ControllerState) (i : ℕ) → start_break c i ≡ Err Busy → (can_break c i ≡ true) × (8 ≤ length c.waiting)
crowded_break_means c i e =
    let parts : (can_break c i ≡ true) × (is_crowded c ≡ true) = busy_by (can_break c i) (is_crowded c) e in
    (parts.0, many (is_crowded c) refl parts.1)
  where
    many : (b : Bool) → is_crowded c ≡ b → is_crowded c ≡ true → 8 ≤ length c.waiting
    many b e t = grind (arith, nat_tests, t)

pub crowded_break_refused : (c : ControllerState) (i : ℕ) → can_break c i ≡ true → 8 ≤ length c.waiting → start_break c i ≡ Err Busy
crowded_break_refused c i e many = let crowded : is_crowded c ≡ true = grind (arith, nat_tests) in ap (λ (b : Bool). answer_by b (is_crowded c)) e ∙ ap (λ (k : Bool). answer_by true k) crowded

none_by : (b k : Bool) → (if b then (if k then Some Busy else None) else Some NoSuchConnection) ≡ None → (b ≡ true) × (k ≡ false)
none_by true true e = cc
none_by true false e = (refl, refl)
none_by false k e = cc

pub no_fault_means : (c : ControllerState) (i : ℕ) → break_fault c i ≡ None → (can_break c i ≡ true) × (length c.waiting < 8)
no_fault_means c i e =
    let parts : (can_break c i ≡ true) × (is_crowded c ≡ false) = none_by (can_break c i) (is_crowded c) e in
    (parts.0, few (is_crowded c) refl parts.1)
  where
    few : (b : Bool) → is_crowded c ≡ b → is_crowded c ≡ false → length c.waiting < 8
    few b e f = grind (arith, nat_tests, f)
