-- No step of a controller makes more due to it in a reclaim second, and no bus reset does.
use Rattle.fw_model_reclaim.proofs.Common.{PlugAt, ConnectionKind, ◌≡◌, ◌≢◌, ◌⊎◌, inl, inr, ℕ, ◌<◌, ◌≤◌, Bool, true, false, ◌&&◌, refl, sym, ap, subst, ◌∙◌, arith, cond, cases_eq, nat_tests, Reply}
use Rattle.fw_model_reclaim.proofs.Common.{Connection, Flow, Slot, Free, Established, Restoring, Gone, Current, Asking}
use Rattle.fw_model_reclaim.proofs.Common.{Hearing, Job, Stage, Made, ControllerState, slot_at, break_waits, count_of, restores}
use Rattle.fw_model_reclaim.proofs.Common.{slot_after, is_current_slot, heard, after_hear, hear_reply, Side, Output, Input, IsAtSlot, due_to, slot_due, has_plug}
use Rattle.fw_model_reclaim.proofs.Due.{resting, working, due_less, due_resting, due_asking, due_hearing}

-- ---- the slot of the current job, and the others

-- what is due to the slot of the current job
pub own_due : (side : Side) (cur : Current) (j : Job) (s : Stage) (slot : Slot) (i : ℕ) (kind : ConnectionKind) (q : PlugAt) → (cur ≡ Asking j s) ⊎ (cur ≡ Hearing j s) → i ≡ j.slot
    → slot_due side cur slot i kind q ≡ working side j s slot kind q
own_due side cur j s slot i kind q (inl e) is = ap (λ x. slot_due side x slot i kind q) e ∙ (ap (λ k. slot_due side (Asking j s) slot k kind q) is ∙ due_asking side j s slot kind q)
own_due side cur j s slot i kind q (inr e) is = ap (λ x. slot_due side x slot i kind q) e ∙ (ap (λ k. slot_due side (Hearing j s) slot k kind q) is ∙ due_hearing side j s slot kind q)

-- and to another
pub other_due : (side : Side) (cur : Current) (j : Job) (s : Stage) (slot : Slot) (i : ℕ) (kind : ConnectionKind) (q : PlugAt) → (cur ≡ Asking j s) ⊎ (cur ≡ Hearing j s) → i ≢ j.slot
    → slot_due side cur slot i kind q ≡ resting side slot kind q
other_due side cur j s slot i kind q (inl e) ne = due_resting side cur slot i kind q (ap (λ x. is_current_slot x i) e ∙ grind (arith, nat_tests))
other_due side cur j s slot i kind q (inr e) ne = due_resting side cur slot i kind q (ap (λ x. is_current_slot x i) e ∙ grind (arith, nat_tests))

pub at_slot_of : (cur : Current) (j : Job) (s : Stage) → (cur ≡ Asking j s) ⊎ (cur ≡ Hearing j s) → j.slot < 32 → IsAtSlot cur
at_slot_of cur j s (inl e) lt = subst (λ x. IsAtSlot x) (sym e) lt
at_slot_of cur j s (inr e) lt = subst (λ x. IsAtSlot x) (sym e) lt

-- ---- an answer

pub due_heard : (c : ControllerState) (j : Job) (s : Stage) (r : Reply) (side : Side) (kind : ConnectionKind) (q : PlugAt) → c.current ≡ Hearing j s → j.slot < 32
    → working side j (hear_reply j s r) (slot_at c j.slot) kind q ≤ working side j s (slot_at c j.slot) kind q → due_to (after_hear c r) side kind q ≤ due_to c side kind q
due_heard c j s r side kind q e lt less = due_less c (after_hear c r) side kind q (at_slot_of c.current j s (inr e) lt) (at_slot_of (heard c.current r) j (hear_reply j s r) (inl later) lt)
    (λ i il. go i (cases_eq i j.slot))
  where
    later : heard c.current r ≡ Asking j (hear_reply j s r)
    later = ap (λ x. heard x r) e

    go : (i : ℕ) → (i ≡ j.slot) ⊎ (i ≢ j.slot) → slot_due side (heard c.current r) (slot_at c i) i kind q ≤ slot_due side c.current (slot_at c i) i kind q
    go i (inl is) =
        let old = own_due side c.current j s (slot_at c i) i kind q (inr e) is in
        let new = own_due side (heard c.current r) j (hear_reply j s r) (slot_at c i) i kind q (inl later) is in
        let here = subst (λ k. working side j (hear_reply j s r) (slot_at c k) kind q ≤ working side j s (slot_at c k) kind q) (sym is) less in
        omega arith
    go i (inr ne) =
        let old = other_due side c.current j s (slot_at c i) i kind q (inr e) ne in
        let new = other_due side (heard c.current r) j (hear_reply j s r) (slot_at c i) i kind q (inl later) ne in
        omega arith

-- ---- a turn

pub stands_share : (side : Side) (conn : Connection) (f : Flow) (kind : ConnectionKind) (q : PlugAt) → resting side (Established conn f) kind q ≡ count_of (has_plug side conn kind q)
stands_share Output conn f kind q = omega arith
stands_share Input conn f kind q = omega arith

pub restoring_share : (side : Side) (conn : Connection) (f : Flow) (kind : ConnectionKind) (q : PlugAt) → resting side (Restoring conn f false) kind q ≡ count_of (has_plug side conn kind q)
restoring_share Output conn f kind q = omega arith
restoring_share Input conn f kind q = omega arith

left_share : (side : Side) (b : Bool) (conn : Connection) (kind : ConnectionKind) (q : PlugAt) → resting side (cond b (Gone conn) Free) kind q ≡ 0
left_share Output true conn kind q = refl
left_share Output false conn kind q = refl
left_share Input true conn kind q = refl
left_share Input false conn kind q = refl

pub made_share : (side : Side) (j : Job) (f : Flow) (slot : Slot) (kind : ConnectionKind) (q : PlugAt) → count_of (has_plug side j.connection kind q) ≤ working side j (Made f) slot kind q
made_share Output j f slot kind q = omega arith
made_share Input j f slot kind q = omega arith

-- what is left of a job that has ended
pub after_share : (side : Side) (c : ControllerState) (j : Job) (t : Stage) (slot : Slot) (kind : ConnectionKind) (q : PlugAt) → resting side (slot_after c j t) kind q ≤ working side j t slot kind q
after_share side c j (Made f) slot kind q = omega (arith, stands_share side j.connection f kind q, made_share side j f slot kind q)
after_share side c j t slot kind q = at_most_none (left_share side (restores j && break_waits c j.slot) j.connection kind q)
  where
    at_most_none : {m : ℕ} → m ≡ 0 → m ≤ working side j t slot kind q
    at_most_none e = omega arith
