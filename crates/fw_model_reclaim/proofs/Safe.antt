-- A connection that no break is asked of is not lost in a reclaim second: by turns and answers.
use Rattle.fw_model_reclaim.proofs.Common.{◌≡◌, ◌≢◌, ◌⊎◌, inl, inr, ℕ, ◌<◌, Bool, true, false, Option, Some, None, length, refl, sym, ap, subst, ◌∙◌, arith, eqb, cases_eq, nat_tests, Reply, Account}
use Rattle.fw_model_reclaim.proofs.Common.{Connection, Flow, Slot, Established, Restoring, Current, Nothing, Asking, Hearing, Overtaken}
use Rattle.fw_model_reclaim.proofs.Common.{Directory, Job, Purpose, Make, Restore, Break, Access, Stage, Begin}
use Rattle.fw_model_reclaim.proofs.Common.{Made, ControllerState, slot_at, with_slot, break_waits, IsHeard, restoring_job, StageFits, IsReached, access_of, heard, after_hear, slot_after, after_asking}
use Rattle.fw_model_reclaim.proofs.Common.{after_answer, after_next, resumed, takes_next, to_restore, IsAtSlot, MatchesFor, CourseFor, IsOnCourse, CurrentMatches, CurrentCourse, IsUnbroken, IsAtWork}
use Rattle.fw_cmp.specs.Controllers.{break_runs}
use Rattle.fw_cmp_jobs.specs.Slots.{is_break_at}
use Rattle.fw_model_reclaim.proofs.Ends.{ends_made}
use Rattle.fw_model_reclaim.proofs.Nexts.{MeetsTurn, same_slots, going_at, taken_within}
use Rattle.fw_model_reclaim.proofs.Picks.{Picks, Rests, Takes, picks, NoMoreBreaks}
use Rattle.fw_model_reclaim.proofs.Slots.{slot_set_same, slot_set_other}

-- the connection stands in its slot or is to be restored in its own second, and no break of it is asked for
pub record IsSafe (c : ControllerState) (i : ℕ) (conn : Connection) (f : Flow) : Type 0 where
  pub slot : (slot_at c i ≡ Established conn f) ⊎ (slot_at c i ≡ Restoring conn f false)
  pub unbroken : IsUnbroken c i

pub breaks_is : (j : Job) (i : ℕ) (why : Purpose) → j.purpose ≡ why → is_break_at j i ≡ elim why as (λ x. Bool) [ Make ↦ false | Restore ↦ false | Break ↦ eqb j.slot i ]
breaks_is j i why e = ap (λ w. elim w as (λ x. Bool) [ Make ↦ false | Restore ↦ false | Break ↦ eqb j.slot i ]) e

-- ---- the job of the connection's slot

-- a job at a slot that stands breaks it
pub stands_broken : (j : Job) (why : Purpose) (x : Slot) (conn : Connection) (f : Flow) → MatchesFor why j x → x ≡ Established conn f → why ≡ Break
stands_broken j Make x conn f m e = absurd (grind (arith, m, e))
stands_broken j Restore x conn f m e = absurd (grind (arith, m.2, e))
stands_broken j Break x conn f m e = refl

-- a job at a slot that is to be restored restores its connection
pub restores_it : (j : Job) (why : Purpose) (x : Slot) (conn : Connection) (f : Flow) (over : Bool) → MatchesFor why j x → x ≡ Restoring conn f over → (why ≡ Restore)
    × (j ≡ restoring_job j.slot conn f)
restores_it j Make x conn f over m e = absurd (grind (arith, m, e))
restores_it j Restore x conn f over m e =
    let is : Restoring j.connection m.0 m.1 ≡ Restoring conn f over = sym m.2 ∙ e in
    let same : j.connection ≡ conn = grind (arith, is) in
    let flow : m.0 ≡ f = grind (arith, is) in
    (refl, m.3 ∙ (ap (λ k. restoring_job j.slot k m.0) same ∙ ap (λ g. restoring_job j.slot conn g) flow))
restores_it j Break x conn f over (inl m) e = absurd (grind (arith, m.1, e))
restores_it j Break x conn f over (inr m) e = absurd (grind (arith, m, e))

-- a job at the slot of a safe connection restores it
pub safe_restores : (c : ControllerState) (j : Job) (i : ℕ) (conn : Connection) (f : Flow) → (slot_at c i ≡ Established conn f) ⊎ (slot_at c i ≡ Restoring conn f false) → j.slot ≡ i
    → is_break_at j i ≡ false → MatchesFor j.purpose j (slot_at c j.slot) → (slot_at c j.slot ≡ Restoring conn f false) × (j ≡ restoring_job j.slot conn f)
safe_restores c j i conn f (inl stands) at unbroken m =
    let why = stands_broken j j.purpose (slot_at c j.slot) conn f m (ap (slot_at c) at ∙ stands) in
    absurd (grind (arith, nat_tests, breaks_is j i Break why))
safe_restores c j i conn f (inr own) at unbroken m = let here : slot_at c j.slot ≡ Restoring conn f false = ap (slot_at c) at ∙ own in
    (here, (restores_it j j.purpose (slot_at c j.slot) conn f false m here).1)

-- ---- a job that goes on

-- it makes its request, or ends; if it is at the connection's slot, it ends only with the connection
goes_safe : (c p : ControllerState) (j : Job) (t : Stage) (o : Option Access) (i : ℕ) (conn : Connection) (f : Flow) → length c.slots ≡ 32 → p.slots ≡ c.slots → j.slot < 32
    → (slot_at c i ≡ Established conn f) ⊎ (slot_at c i ≡ Restoring conn f false) → break_waits p i ≡ false → is_break_at j i ≡ false → (j.slot ≡ i → o ≡ None → (t ≡ Made f) × (j.connection ≡ conn))
    → IsSafe (after_asking (record p { current = Asking j t }) j t o) i conn f
goes_safe c p j t (Some a) i conn f few same lt slot waits breaks made = record { slot = go slot; unbroken = record { waits = waits; runs = breaks } }
  where
    go : (slot_at c i ≡ Established conn f) ⊎ (slot_at c i ≡ Restoring conn f false) → (slot_at p i ≡ Established conn f) ⊎ (slot_at p i ≡ Restoring conn f false)
    go (inl e) = inl (same_slots c p i same ∙ e)
    go (inr e) = inr (same_slots c p i same ∙ e)
goes_safe c p j t None i conn f few same lt slot waits breaks made = record { slot = by (cases_eq i j.slot); unbroken = record { waits = waits; runs = refl } }
  where
    now : Slot
    now = slot_after (record p { current = Asking j t }) j t

    made_slot : (t ≡ Made f) × (j.connection ≡ conn) → now ≡ Established conn f
    made_slot m = ap (λ x. slot_after (record p { current = Asking j t }) j x) m.0 ∙ ap (λ k. Established k f) m.1

    by : (i ≡ j.slot) ⊎ (i ≢ j.slot) → (slot_at (with_slot p j.slot now) i ≡ Established conn f) ⊎ (slot_at (with_slot p j.slot now) i ≡ Restoring conn f false)
    by (inl e) = inl (ap (slot_at (with_slot p j.slot now)) e ∙ (slot_set_same p j.slot now (subst (λ x. j.slot < length x) (sym same) (omega arith)) ∙ made_slot (made (sym e) refl)))
    by (inr ne) = other slot
      where
        other : (slot_at c i ≡ Established conn f) ⊎ (slot_at c i ≡ Restoring conn f false)
            → (slot_at (with_slot p j.slot now) i ≡ Established conn f) ⊎ (slot_at (with_slot p j.slot now) i ≡ Restoring conn f false)
        other (inl e) = inl (slot_set_other p j.slot i now ne ∙ (same_slots c p i same ∙ e))
        other (inr e) = inr (slot_set_other p j.slot i now ne ∙ (same_slots c p i same ∙ e))

-- ---- a restoring ends with its connection

pub on_course : (j : Job) (k : ℕ) (x : Slot) (conn : Connection) (f : Flow) (s : Stage) → j ≡ restoring_job k conn f → x ≡ Restoring conn f false → CourseFor j.purpose x s → IsOnCourse f s
on_course j k x conn f s is at course = subst (λ y. CourseFor Restore y s) at (subst (λ (y : Job). CourseFor y.purpose x s) is course)

pub own_made : (d : Directory) (j : Job) (k : ℕ) (x : Slot) (conn : Connection) (f : Flow) (s : Stage) → j ≡ restoring_job k conn f → x ≡ Restoring conn f false → IsReached d conn → StageFits j s
    → IsOnCourse f s → access_of j (resumed d x j s) ≡ None → (resumed d x j s ≡ Made f) × (j.connection ≡ conn)
own_made d j k x conn f s is at reached fits on none = (
  subst (λ y. resumed d y j s ≡ Made f) (sym at)
      (subst (λ y. resumed d (Restoring conn f false) y s ≡ Made f) (sym is)
      (ends_made d k conn f s reached (subst (λ y. StageFits y s) is fits) on
      (subst (λ y. access_of y (resumed d (Restoring conn f false) y s) ≡ None) is (subst (λ y. access_of j (resumed d y j s) ≡ None) at none)))),
  ap (λ (y : Job). y.connection) is,
)

-- ---- a turn

-- what a turn in a reclaim second finds
pub record TurnsInSecond (l : Account) (now : ℕ) (d : Directory) (c : ControllerState) : Type 0 where
  pub runs : l.reclaiming ≡ true
  pub meets : MeetsTurn l now d c
  pub stage : (j : Job) (t : Stage) → IsAtWork c.current j t → StageFits j t

asked_safe : (l : Account) (now : ℕ) (d : Directory) (c p : ControllerState) (j : Job) (s : Stage) (i : ℕ) (conn : Connection) (f : Flow) → TurnsInSecond l now d c → p.slots ≡ c.slots
    → NoMoreBreaks c p → j.slot < 32 → MatchesFor j.purpose j (slot_at c j.slot) → is_break_at j i ≡ false → StageFits j s
    → (j ≡ restoring_job j.slot conn f → slot_at c j.slot ≡ Restoring conn f false → IsOnCourse f s) → IsSafe c i conn f
    → IsSafe (after_asking (record p { current = Asking j (resumed d (slot_at p j.slot) j s) }) j (resumed d (slot_at p j.slot) j s) (access_of j (resumed d (slot_at p j.slot) j s))) i conn f
asked_safe l now d c p j s i conn f h same fewer lt m breaks fits on safe =
    goes_safe c p j (resumed d (slot_at p j.slot) j s) (access_of j (resumed d (slot_at p j.slot) j s)) i conn f h.meets.slots same lt safe.slot (fewer i safe.unbroken.waits) breaks made
  where
    made : j.slot ≡ i → access_of j (resumed d (slot_at p j.slot) j s) ≡ None → (resumed d (slot_at p j.slot) j s ≡ Made f) × (j.connection ≡ conn)
    made at none =
        let own = safe_restores c j i conn f safe.slot at breaks m in
        own_made d j j.slot (slot_at p j.slot) conn f s own.1 (same_slots c p j.slot same ∙ own.0) (h.meets.reached j.slot conn f own.0) fits (on own.1 own.0) none

-- a job that becomes current breaks no safe connection
picked_unbroken : (l : Account) (c : ControllerState) (j : Job) (i : ℕ) → l.reclaiming ≡ true → break_waits c i ≡ false → (l.reclaiming ≡ true → j.purpose ≡ Break → break_waits c j.slot ≡ true)
    → is_break_at j i ≡ false
picked_unbroken l c j i runs waits broken = go j.purpose refl
  where
    go : (why : Purpose) → j.purpose ≡ why → is_break_at j i ≡ false
    go Make e = breaks_is j i Make e
    go Restore e = breaks_is j i Restore e
    go Break e = breaks_is j i Break e ∙ by (cases_eq j.slot i)
      where
        by : (j.slot ≡ i) ⊎ (j.slot ≢ i) → eqb j.slot i ≡ false
        by (inl at) = absurd (grind (arith, waits, subst (λ k. break_waits c k ≡ true) at (broken runs e)))
        by (inr ne) = grind (arith, nat_tests)

picked_safe : (l : Account) (now : ℕ) (d : Directory) (c p : ControllerState) (i : ℕ) (conn : Connection) (f : Flow) → TurnsInSecond l now d c → IsSafe c i conn f → Picks l c p
    → IsSafe (after_answer (going_at p d p.current)) i conn f
picked_safe l now d c p i conn f h safe (Rests e same fewer) =
    subst (λ x. IsSafe (after_answer (going_at p d x)) i conn f) (sym e) (record { slot = go safe.slot; unbroken = record { waits = fewer i safe.unbroken.waits; runs = refl } })
  where
    go : (slot_at c i ≡ Established conn f) ⊎ (slot_at c i ≡ Restoring conn f false) → (slot_at p i ≡ Established conn f) ⊎ (slot_at p i ≡ Restoring conn f false)
    go (inl s) = inl (same_slots c p i same ∙ s)
    go (inr s) = inr (same_slots c p i same ∙ s)
picked_safe l now d c p i conn f h safe (Takes j e same m course fewer broken) =
    subst (λ x. IsSafe (after_answer (going_at p d x)) i conn f) (sym e)
    (asked_safe l now d c p j Begin i conn f h same fewer (taken_within l c j h.meets.slots m) m (picked_unbroken l c j i h.runs safe.unbroken.waits broken) tt (λ is at. tt) safe)

pub safe_turn : (l : Account) (now : ℕ) (d : Directory) (c : ControllerState) (i : ℕ) (conn : Connection) (f : Flow) → TurnsInSecond l now d c → IsSafe c i conn f
    → IsSafe (after_next now d c) i conn f
safe_turn l now d c i conn f h safe = go c.current refl h.meets.at_slot h.meets.heard h.meets.restores.matches
  where
    turn : ControllerState → ControllerState
    turn p = after_answer (going_at p d p.current)

    go : (x : Current) → c.current ≡ x → IsAtSlot x → IsHeard x → CurrentMatches c x → IsSafe (turn (elim x as (λ y. ControllerState) [
      | Nothing ↦ takes_next (to_restore c) now d c
      | Asking j s ↦ c
      | Hearing j s ↦ c
      | Overtaken i o ↦ c
    ])) i conn f
    go Nothing e at heard m = picked_safe l now d c (takes_next (to_restore c) now d c) i conn f h safe (picks l now d c e h.meets.breaks h.meets.early)
    go (Asking j s) e at heard m = subst (λ x. IsSafe (after_answer (going_at c d x)) i conn f) (sym e)
        (asked_safe l now d c c j s i conn f h refl (λ k none. none) at m (subst (λ x. break_runs x i ≡ false) e safe.unbroken.runs) (h.stage j s (inl e))
        (λ is own. on_course j j.slot (slot_at c j.slot) conn f s is own (subst (λ x. CurrentCourse c x) e (h.meets.restores.course h.runs))) safe)
    go (Hearing j s) e at heard m = absurd heard
    go (Overtaken k o) e at heard m = subst (λ x. IsSafe (after_answer (going_at c d x)) i conn f) (sym e) (record { slot = safe.slot; unbroken = record { waits = safe.unbroken.waits; runs = refl } })

-- ---- an answer

pub safe_heard : (c : ControllerState) (r : Reply) (i : ℕ) (conn : Connection) (f : Flow) → IsSafe c i conn f → IsSafe (after_hear c r) i conn f
safe_heard c r i conn f safe = record { slot = safe.slot; unbroken = record { waits = safe.unbroken.waits; runs = go c.current safe.unbroken.runs } }
  where
    go : (x : Current) → break_runs x i ≡ false → break_runs (heard x r) i ≡ false
    go Nothing e = e
    go (Asking j s) e = e
    go (Hearing j s) e = e
    go (Overtaken k o) e = e
