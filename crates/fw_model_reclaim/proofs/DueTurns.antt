-- In a reclaim second a controller's turn makes nothing more due to it.
use Rattle.fw_model_reclaim.proofs.Common.{PlugAt, ConnectionKind, ◌≡◌, ◌≢◌, ◌⊎◌, inl, inr, ℕ, ◌<◌, ◌≤◌, Bool, true, false}
use Rattle.fw_model_reclaim.proofs.Common.{Option, Some, None, length, ◌&&◌, refl, sym, ap, subst, ◌∙◌, arith, cases_eq}
use Rattle.fw_model_reclaim.proofs.Common.{nat_tests, Account, Flow, Slot, Restoring, Current, Nothing, Asking, Hearing, Overtaken, Directory, Job, Purpose, Make, Restore, Break, Access, Stage, Begin}
use Rattle.fw_model_reclaim.proofs.Common.{ControllerState, slot_at, with_slot, IsHeard, count_of, is_current_slot, access_of, slot_after, after_asking, after_answer, after_next, resumed, takes_next}
use Rattle.fw_model_reclaim.proofs.Common.{to_restore, Side, IsAtSlot, due_to, slot_due, has_plug, is_at, MatchesFor, CourseFor, CurrentMatches, CurrentCourse, is_ended}
use Rattle.fw_model_reclaim.proofs.Begins.{OnCourseOrBegins, course_resumed, break_resumed, gone_resumed}
use Rattle.fw_model_reclaim.proofs.Due.{resting, working, due_less, due_resting}
use Rattle.fw_model_reclaim.proofs.DueHeard.{own_share, plain_share, less_both, falls_less, nowhere, ended_nowhere, still_nowhere, making_reclaims, over_reclaims, breaking_reclaims}
use Rattle.fw_model_reclaim.proofs.DueSteps.{own_due, other_due, after_share, stands_share, restoring_share}
use Rattle.fw_model_reclaim.proofs.Nexts.{MeetsTurn, same_slots, going_at, taken_within}
use Rattle.fw_model_reclaim.proofs.Picks.{Picks, Rests, Takes, picks}
use Rattle.fw_model_reclaim.proofs.Slots.{slot_set_same, slot_set_other}

-- ---- the job's slot, from the stage before the turn to the one after it

resumed_less : (side : Side) (d : Directory) (j : Job) (s : Stage) (slot : Slot) (kind : ConnectionKind) (q : PlugAt) (why : Purpose) → j.purpose ≡ why → MatchesFor why j slot → CourseFor why slot s
    → CourseFor why slot (resumed d slot j s) → working side j (resumed d slot j s) slot kind q ≤ working side j s slot kind q
resumed_less side d j s slot kind q Make e m course later = falls_less side j s (resumed d slot j s) slot kind q (making_reclaims side slot j.connection j.asked j.overhead kind q m)
    (inr (ended_nowhere side (resumed d slot j s) later))
resumed_less side d j s slot kind q Restore e m course later = go m.0 m.1 m.2
  where
    go : (f : Flow) (over : Bool) → slot ≡ Restoring j.connection f over → working side j (resumed d slot j s) slot kind q ≤ working side j s slot kind q
    go f true is = falls_less side j s (resumed d slot j s) slot kind q (over_reclaims side slot j.connection f kind q is)
        (inr (still_nowhere side (resumed d slot j s) (subst (λ x. CourseFor Restore x (resumed d slot j s)) is later)))
    go f false is =
        let before : working side j s slot kind q ≡ count_of (has_plug side j.connection kind q) = ap (λ x. working side j s x kind q) is ∙ own_share side j s f kind q in
        let after : working side j (resumed d slot j s) slot kind q ≡ count_of (has_plug side j.connection kind q) =
        ap (λ x. working side j (resumed d slot j s) x kind q) is ∙ own_share side j (resumed d slot j s) f kind q in
        omega arith
resumed_less side d j s slot kind q Break e m course later = let same : working side j (resumed d slot j s) slot kind q ≡ working side j s slot kind q =
    ap (λ t. working side j t slot kind q) (break_resumed d slot j s e course) in omega arith

begun_less : (side : Side) (d : Directory) (j : Job) (slot : Slot) (kind : ConnectionKind) (q : PlugAt) (why : Purpose) → j.purpose ≡ why → MatchesFor why j slot → OnCourseOrBegins why slot Begin
    → CourseFor why slot (resumed d slot j Begin) → working side j (resumed d slot j Begin) slot kind q ≤ resting side slot kind q
begun_less side d j slot kind q Make e m (inl course) later = absurd (grind (arith, course))
begun_less side d j slot kind q Make e m (inr begins) later = absurd (grind (arith, begins.0))
begun_less side d j slot kind q Restore e m course later = go m.0 m.1 m.2
  where
    go : (f : Flow) (over : Bool) → slot ≡ Restoring j.connection f over → working side j (resumed d slot j Begin) slot kind q ≤ resting side slot kind q
    go f true is = let none : working side j (resumed d slot j Begin) slot kind q ≡ 0 =
        nowhere side j (resumed d slot j Begin) slot kind q (over_reclaims side slot j.connection f kind q is)
        (still_nowhere side (resumed d slot j Begin) (subst (λ x. CourseFor Restore x (resumed d slot j Begin)) is later)) in omega arith
    go f false is =
        let before : resting side slot kind q ≡ count_of (has_plug side j.connection kind q) = ap (λ x. resting side x kind q) is ∙ restoring_share side j.connection f kind q in
        let after : working side j (resumed d slot j Begin) slot kind q ≡ count_of (has_plug side j.connection kind q) =
        ap (λ x. working side j (resumed d slot j Begin) x kind q) is ∙ own_share side j (resumed d slot j Begin) f kind q in
        omega arith
begun_less side d j slot kind q Break e (inl m) course later =
    let before : resting side slot kind q ≡ count_of (has_plug side j.connection kind q) = ap (λ x. resting side x kind q) m.1 ∙ stands_share side j.connection m.0 kind q in
    let after = plain_share side j (resumed d slot j Begin) slot kind q (breaking_reclaims side slot j kind q (inl m)) in
    let fits : count_of (is_at side (resumed d slot j Begin) && has_plug side j.connection kind q) ≤ count_of (true && has_plug side j.connection kind q) =
    less_both (is_at side (resumed d slot j Begin)) true (has_plug side j.connection kind q) (λ x. refl) in
    omega arith
begun_less side d j slot kind q Break e (inr m) course later = let none : working side j (resumed d slot j Begin) slot kind q ≡ 0 =
    nowhere side j (resumed d slot j Begin) slot kind q (breaking_reclaims side slot j kind q (inr m))
    (ended_nowhere side (resumed d slot j Begin) (subst (λ t. is_ended t ≡ true) (sym (gone_resumed d slot j e m)) refl)) in omega arith

-- ---- the whole controller

-- a job that goes on at a stage with no more due than before makes its request or ends
turn_less : (side : Side) (c p : ControllerState) (j : Job) (t : Stage) (o : Option Access) (kind : ConnectionKind) (q : PlugAt) → IsAtSlot c.current → length c.slots ≡ 32 → p.slots ≡ c.slots
    → j.slot < 32 → ((i : ℕ) → i ≢ j.slot → is_current_slot c.current i ≡ false) → working side j t (slot_at c j.slot) kind q ≤ slot_due side c.current (slot_at c j.slot) j.slot kind q
    → due_to (after_asking (record p { current = Asking j t }) j t o) side kind q ≤ due_to c side kind q
turn_less side c p j t (Some a) kind q at few same lt idle less = due_less c (record p { current = Hearing j t }) side kind q at lt (λ i il. go i (cases_eq i j.slot))
  where
    go : (i : ℕ) → (i ≡ j.slot) ⊎ (i ≢ j.slot) → slot_due side (Hearing j t) (slot_at p i) i kind q ≤ slot_due side c.current (slot_at c i) i kind q
    go i (inl is) =
        let new : slot_due side (Hearing j t) (slot_at p i) i kind q ≡ working side j t (slot_at c i) kind q =
        own_due side (Hearing j t) j t (slot_at p i) i kind q (inr refl) is ∙ ap (λ x. working side j t x kind q) (same_slots c p i same) in
        let here = subst (λ k. working side j t (slot_at c k) kind q ≤ slot_due side c.current (slot_at c k) k kind q) (sym is) less in
        omega arith
    go i (inr ne) =
        let new : slot_due side (Hearing j t) (slot_at p i) i kind q ≡ resting side (slot_at c i) kind q =
        other_due side (Hearing j t) j t (slot_at p i) i kind q (inr refl) ne ∙ ap (λ x. resting side x kind q) (same_slots c p i same) in
        let old = due_resting side c.current (slot_at c i) i kind q (idle i ne) in
        omega arith
turn_less side c p j t None kind q at few same lt idle less = due_less c (with_slot (record p { current = Nothing }) j.slot now) side kind q at tt (λ i il. go i (cases_eq i j.slot))
  where
    now : Slot
    now = slot_after (record p { current = Asking j t }) j t

    go : (i : ℕ) → (i ≡ j.slot) ⊎ (i ≢ j.slot) → slot_due side Nothing (slot_at (with_slot p j.slot now) i) i kind q ≤ slot_due side c.current (slot_at c i) i kind q
    go i (inl is) =
        let at_own : slot_at (with_slot p j.slot now) i ≡ now = ap (slot_at (with_slot p j.slot now)) is ∙ slot_set_same p j.slot now (subst (λ x. j.slot < length x) (sym same) (omega arith)) in
        let new : slot_due side Nothing (slot_at (with_slot p j.slot now) i) i kind q ≡ resting side now kind q =
        due_resting side Nothing (slot_at (with_slot p j.slot now) i) i kind q refl ∙ ap (λ x. resting side x kind q) at_own in
        let left = after_share side (record p { current = Asking j t }) j t (slot_at c i) kind q in
        let here = subst (λ k. working side j t (slot_at c k) kind q ≤ slot_due side c.current (slot_at c k) k kind q) (sym is) less in
        omega arith
    go i (inr ne) =
        let new : slot_due side Nothing (slot_at (with_slot p j.slot now) i) i kind q ≡ resting side (slot_at c i) kind q =
        due_resting side Nothing (slot_at (with_slot p j.slot now) i) i kind q refl ∙ ap (λ x. resting side x kind q) (slot_set_other p j.slot i now ne ∙ same_slots c p i same) in
        let old = due_resting side c.current (slot_at c i) i kind q (idle i ne) in
        omega arith

-- slots as before, and no job before or after
idle_less : (side : Side) (c p : ControllerState) (kind : ConnectionKind) (q : PlugAt) → IsAtSlot c.current → p.slots ≡ c.slots → p.current ≡ Nothing → ((i : ℕ) → is_current_slot c.current i ≡ false)
    → due_to p side kind q ≤ due_to c side kind q
idle_less side c p kind q at same none idle = due_less c p side kind q at (subst (λ x. IsAtSlot x) (sym none) tt) (λ i il. go i)
  where
    go : (i : ℕ) → slot_due side p.current (slot_at p i) i kind q ≤ slot_due side c.current (slot_at c i) i kind q
    go i =
        let new : slot_due side p.current (slot_at p i) i kind q ≡ resting side (slot_at c i) kind q =
        due_resting side p.current (slot_at p i) i kind q (ap (λ x. is_current_slot x i) none) ∙ ap (λ x. resting side x kind q) (same_slots c p i same) in
        let old = due_resting side c.current (slot_at c i) i kind q (idle i) in
        omega arith

-- the job's stage after the turn is on its course
course_after : (l : Account) (now : ℕ) (d : Directory) (c p : ControllerState) (j : Job) (s : Stage) → MeetsTurn l now d c → p.slots ≡ c.slots → MatchesFor j.purpose j (slot_at c j.slot)
    → OnCourseOrBegins j.purpose (slot_at c j.slot) s → CourseFor j.purpose (slot_at c j.slot) (resumed d (slot_at c j.slot) j s)
course_after l now d c p j s h same m course = course_resumed d j s (slot_at c j.slot) j.purpose refl (λ conn f e. h.reached j.slot conn f e) m course

-- the same turn, from the slot as it was
at_old_slot : (c p : ControllerState) (d : Directory) (j : Job) (s : Stage) → p.slots ≡ c.slots → resumed d (slot_at p j.slot) j s ≡ resumed d (slot_at c j.slot) j s
at_old_slot c p d j s same = ap (λ x. resumed d x j s) (same_slots c p j.slot same)

asked_less : (l : Account) (now : ℕ) (d : Directory) (c p : ControllerState) (j : Job) (s : Stage) (side : Side) (kind : ConnectionKind) (q : PlugAt) → MeetsTurn l now d c → p.slots ≡ c.slots
    → j.slot < 32 → ((i : ℕ) → i ≢ j.slot → is_current_slot c.current i ≡ false)
    → working side j (resumed d (slot_at c j.slot) j s) (slot_at c j.slot) kind q ≤ slot_due side c.current (slot_at c j.slot) j.slot kind q
    → due_to (after_asking (record p { current = Asking j (resumed d (slot_at p j.slot) j s) }) j (resumed d (slot_at p j.slot) j s)
    (access_of j (resumed d (slot_at p j.slot) j s))) side kind q ≤ due_to c side kind q
asked_less l now d c p j s side kind q h same lt idle less =
    turn_less side c p j (resumed d (slot_at p j.slot) j s) (access_of j (resumed d (slot_at p j.slot) j s)) kind q h.at_slot h.slots same lt idle
    (subst (λ t. working side j t (slot_at c j.slot) kind q ≤ slot_due side c.current (slot_at c j.slot) j.slot kind q) (sym (at_old_slot c p d j s same)) less)

picked_less : (l : Account) (now : ℕ) (d : Directory) (c p : ControllerState) (side : Side) (kind : ConnectionKind) (q : PlugAt) → l.reclaiming ≡ true → MeetsTurn l now d c → c.current ≡ Nothing
    → Picks l c p → due_to (after_answer (going_at p d p.current)) side kind q ≤ due_to c side kind q
picked_less l now d c p side kind q runs h idle (Rests e same fewer) =
    subst (λ x. due_to (after_answer (going_at p d x)) side kind q ≤ due_to c side kind q) (sym e)
    (idle_less side c (record p { current = Nothing }) kind q h.at_slot same refl (λ i. ap (λ x. is_current_slot x i) idle))
picked_less l now d c p side kind q runs h idle (Takes j e same m course fewer broken) =
    let later = course_after l now d c p j Begin h same m (course runs) in
    let less = begun_less side d j (slot_at c j.slot) kind q j.purpose refl m (course runs) later in
    let old = due_resting side c.current (slot_at c j.slot) j.slot kind q (ap (λ x. is_current_slot x j.slot) idle) in
    subst (λ x. due_to (after_answer (going_at p d x)) side kind q ≤ due_to c side kind q) (sym e)
    (asked_less l now d c p j Begin side kind q h same (taken_within l c j h.slots m) (λ i ne. ap (λ x. is_current_slot x i) idle) (omega arith))

pub due_next : (l : Account) (now : ℕ) (d : Directory) (c : ControllerState) (side : Side) (kind : ConnectionKind) (q : PlugAt) → l.reclaiming ≡ true → MeetsTurn l now d c
    → due_to (after_next now d c) side kind q ≤ due_to c side kind q
due_next l now d c side kind q runs h = go c.current refl h.at_slot h.heard h.restores.matches
  where
    turn : ControllerState → ControllerState
    turn p = after_answer (going_at p d p.current)

    go : (x : Current) → c.current ≡ x → IsAtSlot x → IsHeard x → CurrentMatches c x → due_to (turn (elim x as (λ y. ControllerState) [
      | Nothing ↦ takes_next (to_restore c) now d c
      | Asking j s ↦ c
      | Hearing j s ↦ c
      | Overtaken i o ↦ c
    ])) side kind q ≤ due_to c side kind q
    go Nothing e at heard m = picked_less l now d c (takes_next (to_restore c) now d c) side kind q runs h e (picks l now d c e h.breaks h.early)
    go (Asking j s) e at heard m =
        let course : CourseFor j.purpose (slot_at c j.slot) s = subst (λ x. CurrentCourse c x) e (h.restores.course runs) in
        let later = course_after l now d c c j s h refl m (inl course) in
        let less = resumed_less side d j s (slot_at c j.slot) kind q j.purpose refl m course later in
        let old = own_due side c.current j s (slot_at c j.slot) j.slot kind q (inl e) refl in
        subst (λ x. due_to (after_answer (going_at c d x)) side kind q ≤ due_to c side kind q) (sym e)
        (asked_less l now d c c j s side kind q h refl at (λ i ne. ap (λ x. is_current_slot x i) e ∙ grind (arith, nat_tests)) (omega arith))
    go (Hearing j s) e at heard m = absurd heard
    go (Overtaken i o) e at heard m = subst (λ x. due_to (after_answer (going_at c d x)) side kind q ≤ due_to c side kind q) (sym e)
        (idle_less side c (record c { current = Nothing }) kind q h.at_slot refl refl (λ k. ap (λ x. is_current_slot x k) e))
