-- Whatever its current job is at, a bus reset keeps a controller in step.
use Rattle.fw_model_controllers.proofs.Common.{◌≡◌, ◌≢◌, ℕ, ◌<◌, Bool, true, false, Some, length, eqb, cond, refl}
use Rattle.fw_model_controllers.proofs.Common.{ap, subst, sym, ◌∙◌, arith, nat_tests, ResetEntry, Account, after_reset, IsSound, Flow, Slot}
use Rattle.fw_model_controllers.proofs.Common.{Free, Making, Established, Restoring, Gone, Current, Nothing, Asking, Hearing, Overtaken}
use Rattle.fw_model_controllers.proofs.Common.{Job, Purpose, Make, Restore, Break, Ending, Stage, Begin, Made, Ended}
use Rattle.fw_model_controllers.proofs.Common.{ControllerState, slot_at, with_slot, job_for, restoring_job, breaking_job, is_current_slot, Others, IsInStep, SlotInStep, ControllerInStep}
use Rattle.fw_cmp_jobs.specs.declared.outcome.Outcome.{Outcome}
use Rattle.fw_cmp_jobs.specs.declared.outcome.Outcome.TheVariants.{Reset}
use Rattle.fw_cmp_jobs.specs.Slots.{making_job}
use Rattle.fw_cmp.specs.Resets.{slots_reset, interrupted, decided, overtaken, lost_reset, state_reset, after_reset as reset}
use Rattle.fw_cmp_jobs.specs.Slots.{slot_reset}
use Rattle.fw_cmp_jobs.specs.Jobs.{made_outcome}
use Rattle.fw_model_controllers.proofs.Slots.{slot_set, slot_here}
use Rattle.fw_model_controllers.proofs.Spared.{own_output_connected}
use Rattle.fw_model_controllers.proofs.Kept.{output_connected}
use Rattle.fw_model_controllers.proofs.Begins.{UnitsAre}
use Rattle.fw_model_controllers.proofs.Turns.{restoring_units}
use Rattle.fw_model_controllers.proofs.Resets.{Grows, is_standing, slot_told, own_told, standing_reset, restoring_reset, IsAfterReset, begins, ends, JobLeft, CurrentLeft, reset_done}

-- ---- the job of a slot

not_standing : (k : ℕ) (slot : Slot) (j : Job) → job_for k slot ≡ Some j → j.purpose ≢ Break → is_standing slot ≡ false
not_standing k Free j is ne = refl
not_standing k (Making conn asked overhead) j is ne = refl
not_standing k (Established conn f) j is ne = let same : breaking_job k conn ≡ j = cc in absurd (ne (ap (λ (y : Job). y.purpose) (sym same)))
not_standing k (Restoring conn f over) j is ne = refl
not_standing k (Gone conn) j is ne = refl

job_reset : (k : ℕ) (slot : Slot) → is_standing slot ≡ false → job_for k (slot_reset slot) ≡ job_for k slot
job_reset k Free e = refl
job_reset k (Making conn asked overhead) e = refl
job_reset k (Established conn f) e = absurd (grind arith)
job_reset k (Restoring conn f over) e = refl
job_reset k (Gone conn) e = refl

breaking_is : (k : ℕ) (slot : Slot) (j : Job) → job_for k slot ≡ Some j → j.purpose ≡ Break → breaking_job k j.connection ≡ j
breaking_is k Free j is e = absurd (grind arith)
breaking_is k (Making conn asked overhead) j is e = let same : making_job k conn asked overhead ≡ j = cc in let no_ : Make ≡ Break = ap (λ (y : Job). y.purpose) same ∙ e in absurd (grind arith)
breaking_is k (Established conn f) j is e = let same : breaking_job k conn ≡ j = cc in ap (λ (y : Job). breaking_job k y.connection) (sym same) ∙ same
breaking_is k (Restoring conn f over) j is e = let same : restoring_job k conn f ≡ j = cc in let no_ : Restore ≡ Break = ap (λ (y : Job). y.purpose) same ∙ e in absurd (grind arith)
breaking_is k (Gone conn) j is e = let same : breaking_job k conn ≡ j = cc in ap (λ (y : Job). breaking_job k y.connection) (sym same) ∙ same

units_reset : (r : ResetEntry) (l : Account) (k : ℕ) (slot : Slot) (j : Job) → Grows l r → SlotInStep l true slot → job_for k slot ≡ Some j → UnitsAre (after_reset r l) j
units_reset r l k Free j grows x is = absurd (grind arith)
units_reset r l k (Making conn asked overhead) j grows x is = let same : making_job k conn asked overhead ≡ j = cc in subst (UnitsAre (after_reset r l)) same (λ p u e f. absurd (grind arith))
units_reset r l k (Established conn f) j grows x is = let same : breaking_job k conn ≡ j = cc in subst (UnitsAre (after_reset r l)) same (λ p u e f. absurd (grind arith))
units_reset r l k (Restoring conn f over) j grows x is = let same : restoring_job k conn f ≡ j = cc in
    subst (UnitsAre (after_reset r l)) same (restoring_units (after_reset r l) k conn f over (restoring_reset r l conn f over grows x))
units_reset r l k (Gone conn) j grows x is = let same : breaking_job k conn ≡ j = cc in subst (UnitsAre (after_reset r l)) same (λ p u e f. absurd (grind arith))

-- ---- a controller with a current job, as the reset comes

pub record AtReset (r : ResetEntry) (l : Account) (c : ControllerState) (j : Job) : Type 0 where
  pub sound : IsSound l
  pub grows : Grows l r
  pub full : length c.slots ≡ 32
  pub within : j.slot < 32
  pub slot : job_for j.slot (slot_at c j.slot) ≡ Some j
  pub own : SlotInStep l true (slot_at c j.slot)
  pub rest : (i : ℕ) → eqb j.slot i ≡ false → SlotInStep (after_reset r l) false (slot_reset (slot_at c i))

-- the slots, if the job's own was set anew
told_set : (r : ResetEntry) (l : Account) (c : ControllerState) (j : Job) (new : Slot) → AtReset r l c j → SlotInStep (after_reset r l) false (slot_reset new) → (i : ℕ)
    → SlotInStep (after_reset r l) false (slot_reset (slot_at (with_slot c j.slot new) i))
told_set r l c j new a says i = subst (λ s. SlotInStep (after_reset r l) false (slot_reset s)) (sym (slot_set c j.slot i new (omega (arith, a.within, a.full)))) (go (eqb i j.slot) refl)
  where
    go : (b : Bool) → eqb i j.slot ≡ b → SlotInStep (after_reset r l) false (slot_reset (cond b new (slot_at c i)))
    go true e = says
    go false e = a.rest i (grind (arith, nat_tests))

-- the slots, if the job's own stays
told_kept : (r : ResetEntry) (l : Account) (c : ControllerState) (j : Job) → AtReset r l c j → j.purpose ≢ Break → (i : ℕ) → SlotInStep (after_reset r l) false (slot_reset (slot_at c i))
told_kept r l c j a ne i = go (eqb j.slot i) refl
  where
    quiet : is_standing (slot_at c j.slot) ≡ false
    quiet = not_standing j.slot (slot_at c j.slot) j a.slot ne

    here : SlotInStep (after_reset r l) false (slot_reset (slot_at c j.slot))
    here = slot_told r l (slot_at c j.slot) a.sound a.grows (λ conn f p e x. let no_ : true ≡ false = ap is_standing (sym e) ∙ quiet in absurd (grind arith))
        (own_told l (slot_at c j.slot) quiet a.own)

    go : (b : Bool) → eqb j.slot i ≡ b → SlotInStep (after_reset r l) false (slot_reset (slot_at c i))
    go true e = let same : j.slot ≡ i = grind (arith, nat_tests) in subst (λ n. SlotInStep (after_reset r l) false (slot_reset (slot_at c n))) same here
    go false e = a.rest i e

free_done : (r : ResetEntry) (l : Account) (d : ℕ) (c : ControllerState) (j : Job) (o : Outcome) → AtReset r l c j
    → ControllerInStep (after_reset r l) d (slots_reset (with_slot (record c { current = Overtaken j.slot o }) j.slot Free))
free_done r l d c j o a = reset_done r l d (with_slot c j.slot Free) (Overtaken j.slot o) tt (told_set r l c j Free a tt)

kept_left : (r : ResetEntry) (l : Account) (c : ControllerState) (j : Job) (s : Stage) (current : Current) → AtReset r l c j → j.purpose ≢ Break → IsAfterReset j s
    → JobLeft (after_reset r l) (record c { current = current }) j s
kept_left r l c j s current a ne left = record {
  slot = job_reset j.slot (slot_at c j.slot) (not_standing j.slot (slot_at c j.slot) j a.slot ne) ∙ a.slot;
  within = a.within;
  units = units_reset r l j.slot (slot_at c j.slot) j a.grows a.own a.slot;
  left = left;
}

not_break : (j : Job) (p : Purpose) → j.purpose ≡ p → p ≢ Break → j.purpose ≢ Break
not_break j p e ne f = ne (sym e ∙ f)

-- a job that no answer has decided
interrupted_done : (r : ResetEntry) (l : Account) (d epoch : ℕ) (c : ControllerState) (j : Job) → AtReset r l c j → ControllerInStep (after_reset r l) d (slots_reset (interrupted epoch c j))
interrupted_done r l d epoch c j a = go j.purpose refl
  where
    go : (p : Purpose) → j.purpose ≡ p → ControllerInStep (after_reset r l) d (slots_reset (elim p [
      | Make ↦ with_slot (record c { current = Overtaken j.slot (Reset epoch) }) j.slot Free
      | Restore ↦ record c { current = Asking j Begin }
      | Break ↦ with_slot (record c { current = Overtaken j.slot (Reset epoch) }) j.slot Free
    ]))
    go Make e = free_done r l d c j (Reset epoch) a
    go Restore e = let ne = not_break j Restore e (λ x. grind arith) in
        reset_done r l d c (Asking j Begin) (kept_left r l c j Begin (Asking j Begin) a ne (begins refl (rw e refl))) (told_kept r l c j a ne)
    go Break e = free_done r l d c j (Reset epoch) a

-- a job that is decided, whether its request is outstanding or not
decided_done : (r : ResetEntry) (l : Account) (d : ℕ) (c : ControllerState) (j : Job) (end : Ending) (current : Current)
    → ((k : ControllerState) → JobLeft (after_reset r l) (record k { current = current }) j (Ended end) → CurrentLeft (after_reset r l) (record k { current = current }) current) → AtReset r l c j
    → ControllerInStep (after_reset r l) d (slots_reset (decided (record c { current = current }) j))
decided_done r l d c j end current wrap a = go j.purpose refl
  where
    stays : j.purpose ≢ Break → ControllerInStep (after_reset r l) d (slots_reset (record c { current = current }))
    stays ne = reset_done r l d c current (wrap c (kept_left r l c j (Ended end) current a ne (ends end refl))) (told_kept r l c j a ne)

    gone : j.purpose ≡ Break → JobLeft (after_reset r l) (record (with_slot c j.slot (Gone j.connection)) { current = current }) j (Ended end)
    gone e = record {
      slot = ap (λ s. job_for j.slot (slot_reset s)) (slot_here c j.slot (Gone j.connection) (omega (arith, a.within, a.full))) ∙ ap (λ x. Some x) (breaking_is j.slot (slot_at c j.slot) j a.slot e);
      within = a.within;
      units = units_reset r l j.slot (slot_at c j.slot) j a.grows a.own a.slot;
      left = ends end refl;
    }

    go : (p : Purpose) → j.purpose ≡ p → ControllerInStep (after_reset r l) d (slots_reset (elim p [
      | Make ↦ record c { current = current }
      | Restore ↦ record c { current = current }
      | Break ↦ with_slot (record c { current = current }) j.slot (Gone j.connection)
    ]))
    go Make e = stays (not_break j Make e (λ x. grind arith))
    go Restore e = stays (not_break j Restore e (λ x. grind arith))
    go Break e = reset_done r l d (with_slot c j.slot (Gone j.connection)) current (wrap (with_slot c j.slot (Gone j.connection)) (gone e)) (told_set r l c j (Gone j.connection) a tt)

-- a connection that is made
made_done : (r : ResetEntry) (l : Account) (d : ℕ) (c : ControllerState) (j : Job) (f : Flow) (b : Bool) (others : Others) → AtReset r l c j → IsInStep l d j (Made f) b others
    → ControllerInStep (after_reset r l) d (slots_reset (with_slot (record c { current = Overtaken j.slot (made_outcome j f) }) j.slot (Restoring j.connection f false)))
made_done r l d c j f b others a i = reset_done r l d (with_slot c j.slot (Restoring j.connection f false)) (Overtaken j.slot (made_outcome j f)) tt
    (told_set r l c j (Restoring j.connection f false) a (standing_reset r l j.connection f a.sound a.grows i.knows_flow (λ p e. own_output_connected l d j (Made f) b others p a.sound i e refl)))

-- ---- each stage

-- the current job is at a stage, its request standing or not
job_done : (r : ResetEntry) (l : Account) (d epoch : ℕ) (c : ControllerState) (j : Job) (s : Stage) (b : Bool) (others : Others) (at : Stage → Current)
    → ((k : ControllerState) (t : Stage) → JobLeft (after_reset r l) (record k { current = at t }) j t → CurrentLeft (after_reset r l) (record k { current = at t }) (at t)) → AtReset r l c j
    → IsInStep l d j s b others → ControllerInStep (after_reset r l) d (slots_reset (overtaken epoch (record c { current = at s }) j s))
job_done r l d epoch c j (Made f) b others at wrap a i = made_done r l d c j f b others a i
job_done r l d epoch c j (Ended end) b others at wrap a i = decided_done r l d c j end (at (Ended end)) (λ k x. wrap k (Ended end) x) a
job_done r l d epoch c j s b others at wrap a i = interrupted_done r l d epoch (record c { current = at s }) j
    (record { sound = a.sound; grows = a.grows; full = a.full; within = a.within; slot = a.slot; own = a.own; rest = a.rest })

-- the other slots say what they have to
rest_told : (r : ResetEntry) (l : Account) (d : ℕ) (c : ControllerState) → IsSound l → Grows l r → length c.slots ≡ 32 → ControllerInStep l d c → (i : ℕ) → is_current_slot c.current i ≡ false
    → SlotInStep (after_reset r l) false (slot_reset (slot_at c i))
rest_told r l d c sound grows full x i other = slot_told r l (slot_at c i) sound grows (λ conn f p at e. output_connected l d c i conn f p sound full x.current at other e)
    (subst (λ b. SlotInStep l b (slot_at c i)) other (x.slots i))

own_is : (l : Account) (d : ℕ) (c : ControllerState) (k : ℕ) → ControllerInStep l d c → is_current_slot c.current k ≡ true → SlotInStep l true (slot_at c k)
own_is l d c k x e = subst (λ b. SlotInStep l b (slot_at c k)) e (x.slots k)

-- with each current job
reset_by : (r : ResetEntry) (l : Account) (d epoch : ℕ) (c : ControllerState) (current : Current) → IsSound l → Grows l r → length c.slots ≡ 32 → ControllerInStep l d (record c { current = current })
    → ControllerInStep (after_reset r l) d (reset epoch (record c { current = current }))
reset_by r l d epoch c Nothing sound grows full x = reset_done r l d c Nothing tt (λ i. rest_told r l d (record c { current = Nothing }) sound grows full x i refl)
reset_by r l d epoch c (Asking j s) sound grows full x = job_done r l d epoch c j s false _ (λ t. Asking j t) (λ k t y. y) (record {
  sound = sound;
  grows = grows;
  full = full;
  within = x.current.within;
  slot = x.current.slot;
  own = own_is l d (record c { current = Asking j s }) j.slot x (grind (arith, nat_tests));
  rest = rest_told r l d (record c { current = Asking j s }) sound grows full x;
}) x.current.step
reset_by r l d epoch c (Hearing j s) sound grows full x = job_done r l d epoch c j s true _ (λ t. Hearing j t) (λ k t y. y) (record {
  sound = sound;
  grows = grows;
  full = full;
  within = x.current.within;
  slot = x.current.slot;
  own = own_is l d (record c { current = Hearing j s }) j.slot x (grind (arith, nat_tests));
  rest = rest_told r l d (record c { current = Hearing j s }) sound grows full x;
}) x.current.step
reset_by r l d epoch c (Overtaken i o) sound grows full x = reset_done r l d c (Overtaken i o) tt (λ k. rest_told r l d (record c { current = Overtaken i o }) sound grows full x k refl)

-- the same if the response to its request was lost
lost_by : (r : ResetEntry) (l : Account) (d epoch : ℕ) (c : ControllerState) (current : Current) → IsSound l → Grows l r → length c.slots ≡ 32 → ControllerInStep l d (record c { current = current })
    → ControllerInStep (after_reset r l) d (slots_reset (lost_reset epoch (record c { current = current }) current))
lost_by r l d epoch c Nothing sound grows full x = reset_by r l d epoch c Nothing sound grows full x
lost_by r l d epoch c (Asking j s) sound grows full x = interrupted_done r l d epoch (record c { current = Asking j s }) j (record {
  sound = sound;
  grows = grows;
  full = full;
  within = x.current.within;
  slot = x.current.slot;
  own = own_is l d (record c { current = Asking j s }) j.slot x (grind (arith, nat_tests));
  rest = rest_told r l d (record c { current = Asking j s }) sound grows full x;
})
lost_by r l d epoch c (Hearing j s) sound grows full x = interrupted_done r l d epoch (record c { current = Hearing j s }) j (record {
  sound = sound;
  grows = grows;
  full = full;
  within = x.current.within;
  slot = x.current.slot;
  own = own_is l d (record c { current = Hearing j s }) j.slot x (grind (arith, nat_tests));
  rest = rest_told r l d (record c { current = Hearing j s }) sound grows full x;
})
lost_by r l d epoch c (Overtaken i o) sound grows full x = reset_by r l d epoch c (Overtaken i o) sound grows full x

pub reset_in_step : (r : ResetEntry) (l : Account) (d epoch : ℕ) (lost : Bool) (c : ControllerState) → IsSound l → Grows l r → length c.slots ≡ 32 → ControllerInStep l d c
    → ControllerInStep (after_reset r l) d (state_reset epoch lost c)
reset_in_step r l d epoch true c sound grows full x = lost_by r l d epoch c c.current sound grows full x
reset_in_step r l d epoch false c sound grows full x = reset_by r l d epoch c c.current sound grows full x
