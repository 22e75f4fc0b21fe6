-- A controller's turn: it keeps what its connections rest on, and stays on its course.
use Rattle.fw_model_reclaim.proofs.Common.{◌≡◌, ◌≢◌, ◌⊎◌, inl, inr, ℕ, ◌<◌, Bool, true, false, Option, Some, None, length, sym, ap, subst, ◌∙◌, arith, cond, eqb, ◌&&◌, cases_eq, nat_tests, Account}
use Rattle.fw_model_reclaim.proofs.Common.{Connection, Flow, Slot, Free, Established, Restoring, Gone, Asking, Job}
use Rattle.fw_model_reclaim.proofs.Common.{Access, Stage, Made, ControllerState, slot_at, with_slot, break_waits, restores, slot_after}
use Rattle.fw_model_reclaim.proofs.Common.{after_asking, KeepsFlow, IsRestorable, Restores, MatchesFor, CourseFor}
use Rattle.fw_model_reclaim.proofs.Slots.{slot_set_same, slot_set_other}

-- ---- the slot of a job that has ended

left_standing : (b : Bool) (k conn : Connection) (f : Flow) → cond b (Gone k) Free ≡ Established conn f → ⊥
left_standing true k conn f e = grind arith
left_standing false k conn f e = grind arith

left_restoring : (b : Bool) (k conn : Connection) (f : Flow) (over : Bool) → cond b (Gone k) Free ≡ Restoring conn f over → ⊥
left_restoring true k conn f over e = grind arith
left_restoring false k conn f over e = grind arith

-- only a connection that was made stands
after_standing : (c : ControllerState) (j : Job) (t : Stage) (conn : Connection) (f : Flow) → slot_after c j t ≡ Established conn f → (t ≡ Made f) × (j.connection ≡ conn)
after_standing c j (Made g) conn f e = (grind (arith, e), grind (arith, e))
after_standing c j _ conn f e = absurd (left_standing (restores j && break_waits c j.slot) j.connection conn f e)

after_restoring : (c : ControllerState) (j : Job) (t : Stage) (conn : Connection) (f : Flow) (over : Bool) → slot_after c j t ≡ Restoring conn f over → ⊥
after_restoring c j (Made g) conn f over e = grind (arith, e)
after_restoring c j _ conn f over e = left_restoring (restores j && break_waits c j.slot) j.connection conn f over e

-- ---- a job at the stage from which it goes on

pub record Turning (l : Account) (c : ControllerState) (j : Job) (t : Stage) : Type 0 where
  pub within : j.slot < length c.slots
  pub matches : MatchesFor j.purpose j (slot_at c j.slot)
  pub standing : (i : ℕ) (conn : Connection) (f : Flow) → slot_at c i ≡ Established conn f → eqb j.slot i ≡ false → KeepsFlow l conn f
  pub restoring : (i : ℕ) (conn : Connection) (f : Flow) → slot_at c i ≡ Restoring conn f false → IsRestorable l conn f
  pub course : l.reclaiming ≡ true → CourseFor j.purpose (slot_at c j.slot) t
  pub made : (f : Flow) → t ≡ Made f → KeepsFlow l j.connection f

-- it makes its request, or ends
pub turned : (l : Account) (c : ControllerState) (j : Job) (t : Stage) (o : Option Access) → Turning l c j t → Restores l (after_asking (record c { current = Asking j t }) j t o)
turned l c j t (Some a) h = record { matches = h.matches; standing = h.standing; restoring = h.restoring; course = h.course }
turned l c j t None h = record {
  matches = tt;
  standing = λ i conn f e idle. standing i conn f e (cases_eq i j.slot);
  restoring = λ i conn f e. restoring i conn f e (cases_eq i j.slot);
  course = λ runs. tt;
}
  where
    now : Slot
    now = slot_after (record c { current = Asking j t }) j t

    own : (i : ℕ) → i ≡ j.slot → slot_at (with_slot c j.slot now) i ≡ now
    own i e = ap (slot_at (with_slot c j.slot now)) e ∙ slot_set_same c j.slot now h.within

    standing : (i : ℕ) (conn : Connection) (f : Flow) → slot_at (with_slot c j.slot now) i ≡ Established conn f → (i ≡ j.slot) ⊎ (i ≢ j.slot) → KeepsFlow l conn f
    standing i conn f e (inl is) =
        let made = after_standing (record c { current = Asking j t }) j t conn f (sym (own i is) ∙ e) in
        subst (λ x. KeepsFlow l x f) made.1 (h.made f made.0)
    standing i conn f e (inr ne) = h.standing i conn f (sym (slot_set_other c j.slot i now ne) ∙ e) (grind (arith, nat_tests))

    restoring : (i : ℕ) (conn : Connection) (f : Flow) → slot_at (with_slot c j.slot now) i ≡ Restoring conn f false → (i ≡ j.slot) ⊎ (i ≢ j.slot) → IsRestorable l conn f
    restoring i conn f e (inl is) = absurd (after_restoring (record c { current = Asking j t }) j t conn f false (sym (own i is) ∙ e))
    restoring i conn f e (inr ne) = h.restoring i conn f (sym (slot_set_other c j.slot i now ne) ∙ e)
