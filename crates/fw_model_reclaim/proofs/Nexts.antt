-- A controller after its whole turn.
use Rattle.fw_model_reclaim.proofs.Common.{◌≡◌, ◌≢◌, inl, inr, ℕ, ◌<◌, true, false, length, refl, sym, ap, subst}
use Rattle.fw_model_reclaim.proofs.Common.{◌∙◌, arith, eqb, ltb, get_or, Account, Connection, Flow, Slot, Free, Established, Restoring}
use Rattle.fw_model_reclaim.proofs.Common.{Current, Nothing, Asking, Hearing, Overtaken, Directory, Job, Purpose, Make}
use Rattle.fw_model_reclaim.proofs.Common.{Restore, Break, Stage, Begin, Made, ControllerState, slot_at, IsHeard, IsReached}
use Rattle.fw_model_reclaim.proofs.Common.{is_current_slot, access_of, after_asking, after_answer, after_next, resumed, takes_next, to_restore, IsAtSlot, KeepsFlow, IsRestorable, Restores, MatchesFor}
use Rattle.fw_model_reclaim.proofs.Common.{CurrentMatches, CurrentCourse}
use Rattle.fw_cmp.specs.Jobs.{resumed_current}
use Rattle.fw_model_reclaim.specs.Restores.{BreaksFit}
use Rattle.fw_model_reclaim.proofs.AfterReset.{MadeKeeps}
use Rattle.fw_model_reclaim.proofs.Begins.{OnCourseOrBegins, course_resumed, resumed_made}
use Rattle.fw_model_reclaim.proofs.Frames.{within}
use Rattle.fw_model_reclaim.proofs.Picks.{Picks, Rests, Takes, picks}
use Rattle.fw_model_reclaim.proofs.Turns.{turned}

-- what a controller's turn finds
pub record MeetsTurn (l : Account) (now : ℕ) (d : Directory) (c : ControllerState) : Type 0 where
  pub slots : length c.slots ≡ 32
  pub at_slot : IsAtSlot c.current
  pub heard : IsHeard c.current
  pub breaks : BreaksFit c
  pub early : l.reclaiming ≡ true → ltb now d.over_at ≡ true
  pub reached : (i : ℕ) (conn : Connection) (f : Flow) → slot_at c i ≡ Restoring conn f false → IsReached d conn
  pub made : MadeKeeps l c
  pub restores : Restores l c

-- the slots are as they were
pub same_slots : (c p : ControllerState) (i : ℕ) → p.slots ≡ c.slots → slot_at p i ≡ slot_at c i
same_slots c p i e = ap (λ x. get_or x i Free) e

-- a controller with these slots and no job
resting : (l : Account) (c p : ControllerState) → p.slots ≡ c.slots → p.current ≡ Nothing → ((i : ℕ) (conn : Connection) (f : Flow) → slot_at c i ≡ Established conn f → KeepsFlow l conn f)
    → ((i : ℕ) (conn : Connection) (f : Flow) → slot_at c i ≡ Restoring conn f false → IsRestorable l conn f) → Restores l p
resting l c p same idle standing restoring = record {
  matches = subst (λ x. CurrentMatches p x) (sym idle) tt;
  standing = λ i conn f e n. standing i conn f (sym (same_slots c p i same) ∙ e);
  restoring = λ i conn f e. restoring i conn f (sym (same_slots c p i same) ∙ e);
  course = λ runs. subst (λ x. CurrentCourse p x) (sym idle) tt;
}

-- a job is for a slot that is in use
pub used : (why : Purpose) (j : Job) (x : Slot) → MatchesFor why j x → x ≢ Free
used Make j x m = λ e. grind (arith, m, e)
used Restore j x m = λ e. grind (arith, m.2, e)
used Break j x (inl m) = λ e. grind (arith, m.1, e)
used Break j x (inr m) = λ e. grind (arith, m, e)

pub taken_within : (l : Account) (c : ControllerState) (j : Job) → length c.slots ≡ 32 → MatchesFor j.purpose j (slot_at c j.slot) → j.slot < 32
taken_within l c j few m = within c j.slot (slot_at c j.slot) few refl (used j.purpose j (slot_at c j.slot) m)

-- a job that was current, or is now
takes_turn : (l : Account) (now : ℕ) (d : Directory) (c p : ControllerState) (j : Job) (s : Stage) → MeetsTurn l now d c → p.slots ≡ c.slots → j.slot < 32 → MatchesFor j.purpose j (slot_at c j.slot)
    → (l.reclaiming ≡ true → OnCourseOrBegins j.purpose (slot_at c j.slot) s) → ((i : ℕ) → eqb j.slot i ≡ false → is_current_slot c.current i ≡ false)
    → ((f : Flow) → s ≡ Made f → KeepsFlow l j.connection f) → Restores l
    (after_asking (record p { current = Asking j (resumed d (slot_at p j.slot) j s) }) j (resumed d (slot_at p j.slot) j s) (access_of j (resumed d (slot_at p j.slot) j s)))
takes_turn l now d c p j s h same lt m course idle made = turned l p j (resumed d (slot_at p j.slot) j s) (access_of j (resumed d (slot_at p j.slot) j s)) (record {
  within = subst (λ x. j.slot < length x) (sym same) (omega (arith, h.slots));
  matches = subst (λ x. MatchesFor j.purpose j x) (sym (same_slots c p j.slot same)) m;
  standing = λ i conn f e n. h.restores.standing i conn f (sym (same_slots c p i same) ∙ e) (idle i n);
  restoring = λ i conn f e. h.restores.restoring i conn f (sym (same_slots c p i same) ∙ e);
  course = λ runs. course_resumed d j s (slot_at p j.slot) j.purpose refl (λ conn f e. h.reached j.slot conn f (sym (same_slots c p j.slot same) ∙ e))
      (subst (λ x. MatchesFor j.purpose j x) (sym (same_slots c p j.slot same)) m) (subst (λ x. OnCourseOrBegins j.purpose x s) (sym (same_slots c p j.slot same)) (course runs));
  made = λ f e. made f (resumed_made d (slot_at p j.slot) j s f e);
})

-- the controller as it answers, by the current job
abbrev pub going_at : ControllerState → Directory → Current → ControllerState
going_at p d x = record p { current = resumed_current p d x }

-- the controller that has a job if there is one to be had
after_picking : (l : Account) (now : ℕ) (d : Directory) (c p : ControllerState) → MeetsTurn l now d c → c.current ≡ Nothing → Picks l c p → Restores l (after_answer (going_at p d p.current))
after_picking l now d c p h idle (Rests e same fewer) = subst (λ x. Restores l (after_answer (going_at p d x))) (sym e)
    (resting l c (record p { current = Nothing }) same refl (λ i conn f s. h.restores.standing i conn f s (ap (λ x. is_current_slot x i) idle)) h.restores.restoring)
after_picking l now d c p h idle (Takes j e same m course fewer broken) =
    subst (λ x. Restores l (after_answer (going_at p d x))) (sym e)
    (takes_turn l now d c p j Begin h same (taken_within l c j h.slots m) m course (λ i n. ap (λ x. is_current_slot x i) idle) (λ f made. absurd (grind (arith, made))))

pub restores_next : (l : Account) (now : ℕ) (d : Directory) (c : ControllerState) → MeetsTurn l now d c → Restores l (after_next now d c)
restores_next l now d c h = go c.current refl h.at_slot h.heard h.restores.matches
  where
    turn : ControllerState → ControllerState
    turn p = after_answer (going_at p d p.current)

    go : (x : Current) → c.current ≡ x → IsAtSlot x → IsHeard x → CurrentMatches c x → Restores l (turn (elim x as (λ y. ControllerState) [
      | Nothing ↦ takes_next (to_restore c) now d c
      | Asking j s ↦ c
      | Hearing j s ↦ c
      | Overtaken i o ↦ c
    ]))
    go Nothing e at heard m = after_picking l now d c (takes_next (to_restore c) now d c) h e (picks l now d c e h.breaks h.early)
    go (Asking j s) e at heard m = subst (λ x. Restores l (after_answer (going_at c d x))) (sym e)
        (takes_turn l now d c c j s h refl at m (λ runs. inl (subst (λ x. CurrentCourse c x) e (h.restores.course runs))) (λ i n. ap (λ x. is_current_slot x i) e ∙ n)
        (λ f made. h.made j f (inl (e ∙ ap (λ x. Asking j x) made))))
    go (Hearing j s) e at heard m = absurd heard
    go (Overtaken i o) e at heard m = subst (λ x. Restores l (after_answer (going_at c d x))) (sym e)
        (resting l c (record c { current = Nothing }) refl refl (λ k conn f s. h.restores.standing k conn f s (ap (λ x. is_current_slot x k) e)) h.restores.restoring)
