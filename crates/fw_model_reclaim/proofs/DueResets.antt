-- A bus reset makes nothing more due to a controller, and the end of the reclaim second does not.
use Rattle.fw_model_reclaim.proofs.Common.{PlugAt, ConnectionKind, ◌≡◌, ◌≢◌, ◌⊎◌, inl, inr, ℕ, ◌<◌, ◌≤◌, Bool, true}
use Rattle.fw_model_reclaim.proofs.Common.{false, length, refl, sym, ap, subst, ◌∙◌, arith, cases_eq, nat_tests, Connection, Flow}
use Rattle.fw_model_reclaim.proofs.Common.{Slot, Free, Making, Established, Restoring, Gone, Current, Nothing, Asking, Hearing, Overtaken}
use Rattle.fw_model_reclaim.proofs.Common.{Ending, Job, Purpose, Make, Restore, Break, Stage, Begin, Made, Ended}
use Rattle.fw_model_reclaim.proofs.Common.{ControllerState, slot_at, count_of, is_current_slot, overtaken, current_reset, lost_reset}
use Rattle.fw_model_reclaim.proofs.Common.{slot_reset, after_reset, after_lost_reset, state_reset, Side, Output}
use Rattle.fw_model_reclaim.proofs.Common.{Input, IsAtSlot, due_to, slot_due, has_plug, is_at, MatchesFor, CurrentMatches, IsAtWork}
use Rattle.fw_cmp.specs.Resets.{interrupted, slots_reset}
use Rattle.fw_model_reclaim.specs.Due.{reclaims_at}
use Rattle.fw_model_reclaim.proofs.AfterReset.{interrupted_for, decided_for, decided_current}
use Rattle.fw_model_reclaim.proofs.Due.{resting, working, due_less, due_resting, due_asking}
use Rattle.fw_model_reclaim.proofs.DueHeard.{own_share, nowhere, over_reclaims, making_reclaims}
use Rattle.fw_model_reclaim.proofs.DueSteps.{own_due, other_due, restoring_share, made_share}
use Rattle.fw_model_reclaim.proofs.ResetSlots.{interrupted_other, overtaken_other}
use Rattle.fw_model_reclaim.proofs.Slots.{slot_set_same, slot_mapped}

-- ---- one slot

reset_share : (side : Side) (x : Slot) (kind : ConnectionKind) (q : PlugAt) → resting side (slot_reset x) kind q ≤ resting side x kind q
reset_share Output Free kind q = omega arith
reset_share Output (Making conn asked overhead) kind q = omega arith
reset_share Output (Established conn f) kind q = omega arith
reset_share Output (Restoring conn f over) kind q = omega arith
reset_share Output (Gone conn) kind q = omega arith
reset_share Input Free kind q = omega arith
reset_share Input (Making conn asked overhead) kind q = omega arith
reset_share Input (Established conn f) kind q = omega arith
reset_share Input (Restoring conn f over) kind q = omega arith
reset_share Input (Gone conn) kind q = omega arith

none_resting : (side : Side) (kind : ConnectionKind) (q : PlugAt) → resting side Free kind q ≡ 0
none_resting Output kind q = refl
none_resting Input kind q = refl

begin_nowhere : (side : Side) → is_at side Begin ≡ false
begin_nowhere Output = refl
begin_nowhere Input = refl

ended_at_none : (side : Side) (e : Ending) → is_at side (Ended e) ≡ false
ended_at_none Output e = refl
ended_at_none Input e = refl

gone_reclaims : (side : Side) (conn : Connection) (kind : ConnectionKind) (q : PlugAt) → reclaims_at side (Gone conn) kind q ≡ false
gone_reclaims Output conn kind q = refl
gone_reclaims Input conn kind q = refl

-- a restoring begins again
again_less : (side : Side) (j : Job) (s : Stage) (slot : Slot) (f : Flow) (over : Bool) (kind : ConnectionKind) (q : PlugAt) → slot ≡ Restoring j.connection f over
    → working side j Begin (slot_reset slot) kind q ≤ working side j s slot kind q
again_less side j s slot f true kind q e = let none : working side j Begin (slot_reset slot) kind q ≡ 0 =
    nowhere side j Begin (slot_reset slot) kind q (over_reclaims side (slot_reset slot) j.connection f kind q (ap slot_reset e)) (begin_nowhere side) in omega arith
again_less side j s slot f false kind q e =
    let before : working side j s slot kind q ≡ count_of (has_plug side j.connection kind q) = ap (λ x. working side j s x kind q) e ∙ own_share side j s f kind q in
    let after : working side j Begin (slot_reset slot) kind q ≡ count_of (has_plug side j.connection kind q) =
    ap (λ x. working side j Begin x kind q) (ap slot_reset e) ∙ own_share side j Begin f kind q in
    omega arith

-- ---- the slot of the current job, by what becomes of the job

interrupted_less : (epoch : ℕ) (c : ControllerState) (side : Side) (j : Job) (s : Stage) (kind : ConnectionKind) (q : PlugAt) (why : Purpose) → j.slot < length c.slots
    → MatchesFor why j (slot_at c j.slot) → slot_due side (interrupted_for why epoch c j).current (slot_reset (slot_at (interrupted_for why epoch c j) j.slot)) j.slot kind q ≤ working side j s
    (slot_at c j.slot) kind q
interrupted_less epoch c side j s kind q Make lt m = let none : slot_due side (interrupted_for Make epoch c j).current (slot_reset (slot_at (interrupted_for Make epoch c j) j.slot)) j.slot kind q
    ≡ 0 = due_resting side (interrupted_for Make epoch c j).current _ j.slot kind q refl ∙ (ap (λ x. resting side (slot_reset x) kind q) (slot_set_same c j.slot Free lt) ∙ none_resting side kind q) in
    omega arith
interrupted_less epoch c side j s kind q Restore lt m = let new = due_asking side j Begin (slot_reset (slot_at c j.slot)) kind q in
    let less = again_less side j s (slot_at c j.slot) m.0 m.1 kind q m.2 in omega arith
interrupted_less epoch c side j s kind q Break lt m = let none : slot_due side (interrupted_for Break epoch c j).current (slot_reset (slot_at (interrupted_for Break epoch c j) j.slot)) j.slot kind q
    ≡ 0 = due_resting side (interrupted_for Break epoch c j).current _ j.slot kind q refl
    ∙ (ap (λ x. resting side (slot_reset x) kind q) (slot_set_same c j.slot Free lt) ∙ none_resting side kind q) in omega arith

decided_less : (c : ControllerState) (side : Side) (j : Job) (e : Ending) (kind : ConnectionKind) (q : PlugAt) (why : Purpose) → j.slot < length c.slots → MatchesFor why j (slot_at c j.slot)
    → working side j (Ended e) (slot_reset (slot_at (decided_for why c j) j.slot)) kind q ≤ working side j (Ended e) (slot_at c j.slot) kind q
decided_less c side j e kind q Make lt m = let none = nowhere side j (Ended e) (slot_reset (slot_at c j.slot)) kind q
    (making_reclaims side (slot_reset (slot_at c j.slot)) j.connection j.asked j.overhead kind q (ap slot_reset m)) (ended_at_none side e) in omega arith
decided_less c side j e kind q Restore lt m = let same : working side j (Ended e) (slot_reset (slot_at c j.slot)) kind q ≡ working side j (Ended e) (slot_at c j.slot) kind q =
    ap (λ x. working side j (Ended e) x kind q) (ap slot_reset m.2 ∙ sym m.2) in omega arith
decided_less c side j e kind q Break lt m = let none : working side j (Ended e) (slot_reset (slot_at (decided_for Break c j) j.slot)) kind q ≡ 0 =
    ap (λ x. working side j (Ended e) (slot_reset x) kind q) (slot_set_same c j.slot (Gone j.connection) lt)
    ∙ nowhere side j (Ended e) (Gone j.connection) kind q (gone_reclaims side j.connection kind q) (ended_at_none side e) in omega arith

own_less : (epoch : ℕ) (c : ControllerState) (side : Side) (j : Job) (s : Stage) (kind : ConnectionKind) (q : PlugAt) → IsAtWork c.current j s → j.slot < length c.slots
    → MatchesFor j.purpose j (slot_at c j.slot) → slot_due side (overtaken epoch c j s).current (slot_reset (slot_at (overtaken epoch c j s) j.slot)) j.slot kind q ≤ working side j s
    (slot_at c j.slot) kind q
own_less epoch c side j (Made f) kind q at lt m = let new : slot_due side (overtaken epoch c j (Made f)).current (slot_reset (slot_at (overtaken epoch c j (Made f)) j.slot)) j.slot kind q
    ≡ count_of (has_plug side j.connection kind q) = due_resting side (overtaken epoch c j (Made f)).current _ j.slot kind q refl
    ∙ (ap (λ x. resting side (slot_reset x) kind q) (slot_set_same c j.slot (Restoring j.connection f false) lt) ∙ restoring_share side j.connection f kind q) in
    omega (arith, made_share side j f (slot_at c j.slot) kind q)
own_less epoch c side j (Ended e) kind q at lt m = go at
  where
    less : working side j (Ended e) (slot_reset (slot_at (decided_for j.purpose c j) j.slot)) kind q ≤ working side j (Ended e) (slot_at c j.slot) kind q
    less = decided_less c side j e kind q j.purpose lt m

    go : IsAtWork c.current j (Ended e) → slot_due side (decided_for j.purpose c j).current (slot_reset (slot_at (decided_for j.purpose c j) j.slot)) j.slot kind q ≤ working side j (Ended e)
        (slot_at c j.slot) kind q
    go (inl is) = let new = own_due side (decided_for j.purpose c j).current j (Ended e) (slot_reset (slot_at (decided_for j.purpose c j) j.slot)) j.slot kind q
        (inl (decided_current c j j.purpose ∙ is)) refl in omega (arith, less)
    go (inr is) = let new = own_due side (decided_for j.purpose c j).current j (Ended e) (slot_reset (slot_at (decided_for j.purpose c j) j.slot)) j.slot kind q
        (inr (decided_current c j j.purpose ∙ is)) refl in omega (arith, less)
own_less epoch c side j s kind q at lt m = interrupted_less epoch c side j s kind q j.purpose lt m

-- ---- the whole controller

-- the current job's slot is the only one that a job is at, before and after
idle_interrupted : (epoch : ℕ) (c : ControllerState) (j : Job) (why : Purpose) (i : ℕ) → i ≢ j.slot → is_current_slot (interrupted_for why epoch c j).current i ≡ false
idle_interrupted epoch c j Make i ne = refl
idle_interrupted epoch c j Restore i ne = grind (arith, nat_tests)
idle_interrupted epoch c j Break i ne = refl

idle_before : (cur : Current) (j : Job) (s : Stage) (i : ℕ) → IsAtWork cur j s → i ≢ j.slot → is_current_slot cur i ≡ false
idle_before cur j s i (inl e) ne = ap (λ x. is_current_slot x i) e ∙ grind (arith, nat_tests)
idle_before cur j s i (inr e) ne = ap (λ x. is_current_slot x i) e ∙ grind (arith, nat_tests)

idle_after : (epoch : ℕ) (c : ControllerState) (j : Job) (s : Stage) (i : ℕ) → IsAtWork c.current j s → i ≢ j.slot → is_current_slot (overtaken epoch c j s).current i ≡ false
idle_after epoch c j (Made f) i at ne = refl
idle_after epoch c j (Ended e) i at ne = ap (λ x. is_current_slot x i) (decided_current c j j.purpose) ∙ idle_before c.current j (Ended e) i at ne
idle_after epoch c j s i at ne = idle_interrupted epoch c j j.purpose i ne

slot_of_interrupted : (epoch : ℕ) (c : ControllerState) (j : Job) (why : Purpose) → j.slot < 32 → IsAtSlot (interrupted_for why epoch c j).current
slot_of_interrupted epoch c j Make lt = tt
slot_of_interrupted epoch c j Restore lt = lt
slot_of_interrupted epoch c j Break lt = tt

slot_of_overtaken : (epoch : ℕ) (c : ControllerState) (j : Job) (s : Stage) → j.slot < 32 → IsAtSlot c.current → IsAtSlot (overtaken epoch c j s).current
slot_of_overtaken epoch c j (Made f) lt at = tt
slot_of_overtaken epoch c j (Ended e) lt at = subst (λ x. IsAtSlot x) (sym (decided_current c j j.purpose)) at
slot_of_overtaken epoch c j s lt at = slot_of_interrupted epoch c j j.purpose lt

-- after a reset with these slots and this current job
after_less : (c d : ControllerState) (side : Side) (kind : ConnectionKind) (q : PlugAt) → IsAtSlot c.current → IsAtSlot d.current
    → ((i : ℕ) → slot_due side d.current (slot_reset (slot_at d i)) i kind q ≤ slot_due side c.current (slot_at c i) i kind q) → due_to (slots_reset d) side kind q ≤ due_to c side kind q
after_less c d side kind q at bt less = due_less c (slots_reset d) side kind q at bt
    (λ i il. subst (λ x. slot_due side d.current x i kind q ≤ slot_due side c.current (slot_at c i) i kind q) (sym (slot_mapped d slot_reset i refl)) (less i))

resting_less : (c : ControllerState) (side : Side) (kind : ConnectionKind) (q : PlugAt) → IsAtSlot c.current → ((i : ℕ) → is_current_slot c.current i ≡ false)
    → due_to (slots_reset c) side kind q ≤ due_to c side kind q
resting_less c side kind q at idle = after_less c c side kind q at at (λ i. go i)
  where
    go : (i : ℕ) → slot_due side c.current (slot_reset (slot_at c i)) i kind q ≤ slot_due side c.current (slot_at c i) i kind q
    go i = let new = due_resting side c.current (slot_reset (slot_at c i)) i kind q (idle i) in let old = due_resting side c.current (slot_at c i) i kind q (idle i) in
        let less = reset_share side (slot_at c i) kind q in omega arith

work_less : (epoch : ℕ) (c : ControllerState) (side : Side) (j : Job) (s : Stage) (kind : ConnectionKind) (q : PlugAt) → IsAtWork c.current j s → IsAtSlot c.current → j.slot < 32 → length c.slots ≡ 32
    → MatchesFor j.purpose j (slot_at c j.slot) → due_to (slots_reset (overtaken epoch c j s)) side kind q ≤ due_to c side kind q
work_less epoch c side j s kind q at slot lt few m = after_less c (overtaken epoch c j s) side kind q slot (slot_of_overtaken epoch c j s lt slot) (λ i. go i (cases_eq i j.slot))
  where
    own : slot_due side (overtaken epoch c j s).current (slot_reset (slot_at (overtaken epoch c j s) j.slot)) j.slot kind q ≤ working side j s (slot_at c j.slot) kind q
    own = own_less epoch c side j s kind q at (omega arith) m

    go : (i : ℕ) → (i ≡ j.slot) ⊎ (i ≢ j.slot) → slot_due side (overtaken epoch c j s).current (slot_reset (slot_at (overtaken epoch c j s) i)) i kind q ≤ slot_due side c.current
        (slot_at c i) i kind q
    go i (inl is) =
        let old = own_due side c.current j s (slot_at c j.slot) j.slot kind q at refl in
        let here : slot_due side (overtaken epoch c j s).current (slot_reset (slot_at (overtaken epoch c j s) j.slot)) j.slot kind q ≤ slot_due side c.current (slot_at c j.slot) j.slot kind q =
        omega (arith, own) in
        subst (λ k. slot_due side (overtaken epoch c j s).current (slot_reset (slot_at (overtaken epoch c j s) k)) k kind q ≤ slot_due side c.current (slot_at c k) k kind q) (sym is) here
    go i (inr ne) =
        let new : slot_due side (overtaken epoch c j s).current (slot_reset (slot_at (overtaken epoch c j s) i)) i kind q ≡ resting side (slot_reset (slot_at c i)) kind q =
        due_resting side (overtaken epoch c j s).current _ i kind q (idle_after epoch c j s i at ne) ∙ ap (λ x. resting side (slot_reset x) kind q) (overtaken_other epoch c j s i ne) in
        let old = other_due side c.current j s (slot_at c i) i kind q at ne in
        let less = reset_share side (slot_at c i) kind q in
        omega arith

heard_less : (epoch : ℕ) (c : ControllerState) (side : Side) (kind : ConnectionKind) (q : PlugAt) → length c.slots ≡ 32 → IsAtSlot c.current → CurrentMatches c c.current
    → due_to (after_reset epoch c) side kind q ≤ due_to c side kind q
heard_less epoch c side kind q few at m = go c.current refl at m
  where
    go : (x : Current) → c.current ≡ x → IsAtSlot x → CurrentMatches c x → due_to (slots_reset (current_reset epoch c x)) side kind q ≤ due_to c side kind q
    go Nothing e lt m = resting_less c side kind q at (λ i. ap (λ x. is_current_slot x i) e)
    go (Asking j s) e lt m = work_less epoch c side j s kind q (inl e) at lt few m
    go (Hearing j s) e lt m = work_less epoch c side j s kind q (inr e) at lt few m
    go (Overtaken k o) e lt m = resting_less c side kind q at (λ i. ap (λ x. is_current_slot x i) e)

-- ---- the same if the response to its request was lost

lost_work : (epoch : ℕ) (c : ControllerState) (side : Side) (j : Job) (s : Stage) (kind : ConnectionKind) (q : PlugAt) → IsAtWork c.current j s → IsAtSlot c.current → j.slot < 32 → length c.slots ≡ 32
    → MatchesFor j.purpose j (slot_at c j.slot) → due_to (slots_reset (interrupted epoch c j)) side kind q ≤ due_to c side kind q
lost_work epoch c side j s kind q at slot lt few m = after_less c (interrupted epoch c j) side kind q slot (slot_of_interrupted epoch c j j.purpose lt) (λ i. go i (cases_eq i j.slot))
  where
    own : slot_due side (interrupted epoch c j).current (slot_reset (slot_at (interrupted epoch c j) j.slot)) j.slot kind q ≤ working side j s (slot_at c j.slot) kind q
    own = interrupted_less epoch c side j s kind q j.purpose (omega arith) m

    go : (i : ℕ) → (i ≡ j.slot) ⊎ (i ≢ j.slot) → slot_due side (interrupted epoch c j).current (slot_reset (slot_at (interrupted epoch c j) i)) i kind q ≤ slot_due side c.current
        (slot_at c i) i kind q
    go i (inl is) =
        let old = own_due side c.current j s (slot_at c j.slot) j.slot kind q at refl in
        let here : slot_due side (interrupted epoch c j).current (slot_reset (slot_at (interrupted epoch c j) j.slot)) j.slot kind q ≤ slot_due side c.current (slot_at c j.slot) j.slot kind q =
        omega (arith, own) in
        subst (λ k. slot_due side (interrupted epoch c j).current (slot_reset (slot_at (interrupted epoch c j) k)) k kind q ≤ slot_due side c.current (slot_at c k) k kind q) (sym is) here
    go i (inr ne) =
        let new : slot_due side (interrupted epoch c j).current (slot_reset (slot_at (interrupted epoch c j) i)) i kind q ≡ resting side (slot_reset (slot_at c i)) kind q =
        due_resting side (interrupted epoch c j).current _ i kind q (idle_interrupted epoch c j j.purpose i ne)
        ∙ ap (λ x. resting side (slot_reset x) kind q) (interrupted_other epoch c j j.purpose i refl ne) in
        let old = other_due side c.current j s (slot_at c i) i kind q at ne in
        let less = reset_share side (slot_at c i) kind q in
        omega arith

lost_less : (epoch : ℕ) (c : ControllerState) (side : Side) (kind : ConnectionKind) (q : PlugAt) → length c.slots ≡ 32 → IsAtSlot c.current → CurrentMatches c c.current
    → due_to (after_lost_reset epoch c) side kind q ≤ due_to c side kind q
lost_less epoch c side kind q few at m = go c.current refl at m
  where
    go : (x : Current) → c.current ≡ x → IsAtSlot x → CurrentMatches c x → due_to (slots_reset (lost_reset epoch c x)) side kind q ≤ due_to c side kind q
    go Nothing e lt m = resting_less c side kind q at (λ i. ap (λ x. is_current_slot x i) e)
    go (Asking j s) e lt m = lost_work epoch c side j s kind q (inl e) at lt few m
    go (Hearing j s) e lt m = lost_work epoch c side j s kind q (inr e) at lt few m
    go (Overtaken k o) e lt m = resting_less c side kind q at (λ i. ap (λ x. is_current_slot x i) e)

pub due_reset : (epoch : ℕ) (lost : Bool) (c : ControllerState) (side : Side) (kind : ConnectionKind) (q : PlugAt) → length c.slots ≡ 32 → IsAtSlot c.current → CurrentMatches c c.current
    → due_to (state_reset epoch lost c) side kind q ≤ due_to c side kind q
due_reset epoch true c side kind q few at m = lost_less epoch c side kind q few at m
due_reset epoch false c side kind q few at m = heard_less epoch c side kind q few at m
