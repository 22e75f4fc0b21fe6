-- Whatever happens, no restoring whose own second runs comes to want.
use Rattle.fw_model_controllers.proofs.Common.{◌≡◌, ◌≢◌, ℕ, ◌<◌, Bool, true, false, Some, length, cond, eqb, refl, ap}
use Rattle.fw_model_controllers.proofs.Common.{subst, sym, arith, ◌∙◌, nat_tests, Reply, Account, IsSound, Flow, Slot, Free, Making}
use Rattle.fw_model_controllers.proofs.Common.{Established, Restoring, Gone, Current, Nothing, Asking, Hearing, Overtaken, Directory, Job}
use Rattle.fw_model_controllers.proofs.Common.{Purpose, Make, Restore, Break, Target, Stage, Begin, Made, Ended}
use Rattle.fw_model_controllers.proofs.Common.{ControllerState, slot_at, with_slot, job_for, restoring_job, breaking_job, Fits, target_of, after_hear, hear_reply, ControllerInStep, IsAnswer}
use Rattle.std.proofs.Common.{Ok}
use Rattle.fw_cmp_jobs.specs.declared.outcome.Outcome.TheVariants.{Reset}
use Rattle.fw_cmp.specs.Resets.{slots_reset, overtaken, lost_reset, state_reset, after_reset as controller_reset, after_second as second_over}
use Rattle.fw_cmp_jobs.specs.Slots.{slot_reset, slot_over}
use Rattle.fw_cmp.specs.Starts.{started}
use Rattle.fw_cmp_jobs.specs.Slots.{IsMaking}
use Rattle.fw_model_controllers.specs.Together.{AreInStep, Happens, half_step, turns, hears, given, resets, second, dies, withholds, Becomes, IsGiven, connection, break}
use Rattle.fw_model_controllers.specs.Wants.{is_own, IsContent}
use Rattle.fw_model_controllers.proofs.Carried.{hearing}
use Rattle.fw_model_controllers.proofs.Given.{slot_taken, break_is_task}
use Rattle.fw_model_controllers.proofs.Slots.{slot_set, slot_here, slot_mapped}
use Rattle.fw_model_controllers.proofs.Together.{restoring}
use Rattle.fw_model_controllers.proofs.Finds.{never_wants}
use Rattle.fw_model_controllers.proofs.Contents.{turn_content, made_wants}

-- ---- an answer

-- the slot of a job whose own second runs
own_slot : (k : ℕ) (slot : Slot) (j : Job) → job_for k slot ≡ Some j → is_own slot ≡ true → (f : Flow) × (slot ≡ Restoring j.connection f false)
own_slot k Free j is own = absurd (grind arith)
own_slot k (Making conn asked overhead) j is own = absurd (grind arith)
own_slot k (Established conn f) j is own = absurd (grind arith)
own_slot k (Restoring conn f true) j is own = absurd (grind arith)
own_slot k (Restoring conn f false) j is own = let same : restoring_job k conn f ≡ j = cc in (f, ap (λ (y : Job). Restoring y.connection f false) same)
own_slot k (Gone conn) j is own = absurd (grind arith)

hear_content : (l : Account) (d : ℕ) (c : ControllerState) (j : Job) (s : Stage) (t : Target) (r : Reply) → IsSound l → Fits (hearing c j s) → ControllerInStep l d (hearing c j s)
    → target_of j s ≡ Some t → IsAnswer l t r → IsContent c (Hearing j s) → IsContent c (Asking j (hear_reply j s r))
hear_content l d c j s t r sound fits x e a h = λ own. let w = own_slot j.slot (slot_at c j.slot) j x.current.slot own in
    never_wants l d j s _ t r sound fits.current.stage x.current.step (λ p f. (restoring l d (hearing c j s) j.slot j.connection w.0 p x w.1 f).0) e a (h own)

-- ---- a job that is given

making_none : (s : Slot) → IsMaking s → is_own s ≡ false
making_none Free h = absurd h
making_none (Making conn asked overhead) h = refl
making_none (Established conn f) h = absurd h
making_none (Restoring conn f over) h = absurd h
making_none (Gone conn) h = absurd h

-- if a slot's own second runs it was so before
of_own : (c e : ControllerState) (current : Current) → ((k : ℕ) → is_own (slot_at e k) ≡ true → is_own (slot_at c k) ≡ true) → IsContent c current → IsContent e current
of_own c e Nothing less h = tt
of_own c e (Asking j s) less h = λ own. h (less j.slot own)
of_own c e (Hearing j s) less h = λ own. h (less j.slot own)
of_own c e (Overtaken i o) less h = h

set_own : (c : ControllerState) (i : ℕ) (s : Slot) → i < length c.slots → is_own s ≡ false → (k : ℕ) → is_own (slot_at (with_slot c i s) k) ≡ true → is_own (slot_at c k) ≡ true
set_own c i s lt no_ k own = go (eqb k i) (ap is_own (sym (slot_set c i k s lt)) ∙ own)
  where
    go : (b : Bool) → is_own (cond b s (slot_at c k)) ≡ true → is_own (slot_at c k) ≡ true
    go true e = absurd (grind arith)
    go false e = e

given_content : (c e : ControllerState) → Fits c → IsGiven c e → IsContent c c.current → IsContent e e.current
given_content c e fits (connection i s start_ok making slot is) h =
    let t = slot_taken c i start_ok in
    let lt : i < length c.slots = omega (arith, t.0, fits.slots) in
    subst (λ y. IsContent y y.current) (sym is) (of_own c (started (Ok i) s c) c.current (set_own c i s lt (making_none s making)) h)
given_content c e fits (break i none is) h = subst (λ y. IsContent y y.current) (sym (is ∙ break_is_task c i none)) h

-- ---- the end of the second

over_none : (s : Slot) → is_own (slot_over s) ≡ false
over_none Free = refl
over_none (Making conn asked overhead) = refl
over_none (Established conn f) = refl
over_none (Restoring conn f over) = refl
over_none (Gone conn) = refl

second_content : (c : ControllerState) → IsContent c c.current → IsContent (second_over c) (second_over c).current
second_content c h = of_own c (second_over c) c.current (λ k own. let no_ = ap is_own (slot_mapped slot_over c.slots k refl) ∙ over_none (slot_at c k) in absurd (grind arith)) h

-- ---- a bus reset

abbrev decided_by : Purpose → ControllerState → Job → ControllerState
decided_by p c j = elim p as (λ _. ControllerState) [ Make ↦ c | Restore ↦ c | Break ↦ with_slot c j.slot (Gone j.connection) ]

abbrev interrupted_by : Purpose → ℕ → ControllerState → Job → ControllerState
interrupted_by p epoch c j = elim p as (λ _. ControllerState) [
  | Make ↦ with_slot (record c { current = Overtaken j.slot (Reset epoch) }) j.slot Free
  | Restore ↦ record c { current = Asking j Begin }
  | Break ↦ with_slot (record c { current = Overtaken j.slot (Reset epoch) }) j.slot Free
]

interrupted_content : (p : Purpose) (epoch : ℕ) (c : ControllerState) (j : Job) → IsContent (slots_reset (interrupted_by p epoch c j)) (interrupted_by p epoch c j).current
interrupted_content Make epoch c j = refl
interrupted_content Restore epoch c j = λ own. refl
interrupted_content Break epoch c j = refl

-- only a connection that stands is to be restored from now on
reset_own : (k : ℕ) (slot : Slot) (j : Job) → job_for k slot ≡ Some j → j.purpose ≢ Break → is_own (slot_reset slot) ≡ true → is_own slot ≡ true
reset_own k Free j is no_break own = own
reset_own k (Making conn asked overhead) j is no_break own = own
reset_own k (Established conn f) j is no_break own = let same : breaking_job k conn ≡ j = cc in absurd (no_break (ap (λ (y : Job). y.purpose) (sym same)))
reset_own k (Restoring conn f over) j is no_break own = own
reset_own k (Gone conn) j is no_break own = own

decided_own : (p : Purpose) (c : ControllerState) (j : Job) → j.purpose ≡ p → job_for j.slot (slot_at c j.slot) ≡ Some j → j.slot < length c.slots
    → is_own (slot_at (slots_reset (decided_by p c j)) j.slot) ≡ true → is_own (slot_at c j.slot) ≡ true
decided_own Make c j e is lt own = reset_own j.slot (slot_at c j.slot) j is (λ f. let no_ : Make ≡ Break = sym e ∙ f in absurd (grind arith))
    (ap is_own (sym (slot_mapped slot_reset c.slots j.slot refl)) ∙ own)
decided_own Restore c j e is lt own = reset_own j.slot (slot_at c j.slot) j is (λ f. let no_ : Restore ≡ Break = sym e ∙ f in absurd (grind arith))
    (ap is_own (sym (slot_mapped slot_reset c.slots j.slot refl)) ∙ own)
decided_own Break c j e is lt own = let no_ = ap is_own (slot_mapped slot_reset (with_slot c j.slot (Gone j.connection)).slots j.slot refl
    ∙ ap slot_reset (slot_here c j.slot (Gone j.connection) lt)) in absurd (grind arith)

asking_decided : (p : Purpose) (c : ControllerState) (j : Job) (s : Stage) → j.purpose ≡ p → job_for j.slot (slot_at c j.slot) ≡ Some j → j.slot < length c.slots → IsContent c (Asking j s)
    → IsContent (slots_reset (decided_by p (record c { current = Asking j s }) j)) (decided_by p (record c { current = Asking j s }) j).current
asking_decided Make c j s e is lt h = λ own. h (decided_own Make c j e is lt own)
asking_decided Restore c j s e is lt h = λ own. h (decided_own Restore c j e is lt own)
asking_decided Break c j s e is lt h = λ own. h (decided_own Break c j e is lt own)

hearing_decided : (p : Purpose) (c : ControllerState) (j : Job) (s : Stage) → j.purpose ≡ p → job_for j.slot (slot_at c j.slot) ≡ Some j → j.slot < length c.slots → IsContent c (Hearing j s)
    → IsContent (slots_reset (decided_by p (record c { current = Hearing j s }) j)) (decided_by p (record c { current = Hearing j s }) j).current
hearing_decided Make c j s e is lt h = λ own. h (decided_own Make c j e is lt own)
hearing_decided Restore c j s e is lt h = λ own. h (decided_own Restore c j e is lt own)
hearing_decided Break c j s e is lt h = λ own. h (decided_own Break c j e is lt own)

asking_reset : (epoch : ℕ) (c : ControllerState) (j : Job) (s : Stage) → job_for j.slot (slot_at c j.slot) ≡ Some j → j.slot < length c.slots → IsContent c (Asking j s)
    → IsContent (slots_reset (overtaken epoch (record c { current = Asking j s }) j s)) (overtaken epoch (record c { current = Asking j s }) j s).current
asking_reset epoch c j (Made f) is lt h = made_wants j f
asking_reset epoch c j (Ended e) is lt h = asking_decided j.purpose c j (Ended e) refl is lt h
asking_reset epoch c j s is lt h = interrupted_content j.purpose epoch (record c { current = Asking j s }) j

hearing_reset : (epoch : ℕ) (c : ControllerState) (j : Job) (s : Stage) → job_for j.slot (slot_at c j.slot) ≡ Some j → j.slot < length c.slots → IsContent c (Hearing j s)
    → IsContent (slots_reset (overtaken epoch (record c { current = Hearing j s }) j s)) (overtaken epoch (record c { current = Hearing j s }) j s).current
hearing_reset epoch c j (Made f) is lt h = made_wants j f
hearing_reset epoch c j (Ended e) is lt h = hearing_decided j.purpose c j (Ended e) refl is lt h
hearing_reset epoch c j s is lt h = interrupted_content j.purpose epoch (record c { current = Hearing j s }) j

reset_content : (l : Account) (d epoch : ℕ) (c : ControllerState) (current : Current) → length c.slots ≡ 32 → ControllerInStep l d (record c { current = current }) → IsContent c current
    → IsContent (controller_reset epoch (record c { current = current })) (controller_reset epoch (record c { current = current })).current
reset_content l d epoch c Nothing full x h = tt
reset_content l d epoch c (Asking j s) full x h = asking_reset epoch c j s x.current.slot (omega (arith, x.current.within)) h
reset_content l d epoch c (Hearing j s) full x h = hearing_reset epoch c j s x.current.slot (omega (arith, x.current.within)) h
reset_content l d epoch c (Overtaken i o) full x h = h

-- the same if the response to its request was lost
lost_content : (epoch : ℕ) (c : ControllerState) (current : Current) → IsContent c current
    → IsContent (slots_reset (lost_reset epoch (record c { current = current }) current)) (lost_reset epoch (record c { current = current }) current).current
lost_content epoch c Nothing h = tt
lost_content epoch c (Asking j s) h = interrupted_content j.purpose epoch (record c { current = Asking j s }) j
lost_content epoch c (Hearing j s) h = interrupted_content j.purpose epoch (record c { current = Hearing j s }) j
lost_content epoch c (Overtaken i o) h = h

state_content : (l : Account) (d epoch : ℕ) (lost : Bool) (c : ControllerState) → length c.slots ≡ 32 → ControllerInStep l d c → IsContent c c.current
    → IsContent (state_reset epoch lost c) (state_reset epoch lost c).current
state_content l d epoch true c full x h = lost_content epoch c c.current h
state_content l d epoch false c full x h = reset_content l d epoch c c.current full x h

-- ---- whatever happens

abbrev pub AreContent : (ℕ → ControllerState) → Type 0
AreContent controllers = (d : ℕ) → IsContent (controllers d) (controllers d).current

becomes_content : (before after : ℕ → ControllerState) (d : ℕ) (c : ControllerState) → Becomes before d c after → IsContent c c.current → AreContent before → AreContent after
becomes_content before after d c b h x k = go (eqb k d) refl
  where
    go : (y : Bool) → eqb k d ≡ y → IsContent (after k) (after k).current
    go true e = let same : k ≡ d = grind (arith, nat_tests) in subst (λ z. IsContent z z.current) (sym (ap after same ∙ b.new)) h
    go false e = subst (λ z. IsContent z z.current) (sym (b.others k (λ f. absurd (grind (arith, nat_tests))))) (x k)

pub stay_content : (dir new : Directory) (l m : Account) (before after : ℕ → ControllerState) → AreInStep dir l before → Happens dir new l before m after → AreContent before → AreContent after
stay_content dir new l m before after x (half_step d now (turns t)) h = becomes_content before after d _ t.becomes (turn_content now dir (before d) (h d)) h
stay_content dir new l m before after x (half_step d now (hears r t)) h =
    let hearing_is : before d ≡ hearing (before d) t.job t.stage = λ i. record (before d) { current = t.current i } in
    let here : IsContent (before d) (Asking t.job (hear_reply t.job t.stage r)) =
    hear_content l d (before d) t.job t.stage t.target r x.sound (subst Fits hearing_is (x.fits d)) (subst (ControllerInStep l d) hearing_is (x.each d)) t.asked t.answer
    (subst (IsContent (before d)) t.current (h d)) in
    becomes_content before after d _ (subst (λ y. Becomes before d (after_hear y r) after) hearing_is t.becomes) here h
stay_content dir new l m before after x (given d c t) h = becomes_content before after d c t.becomes (given_content (before d) c (x.fits d) t.given (h d)) h
stay_content dir new l m before after x (resets r epoch lost t) h =
    λ d. subst (λ y. IsContent y y.current) (sym (t.each d)) (state_content l d epoch (lost d) (before d) (x.fits d).slots (x.each d) (h d))
stay_content dir new l m before after x (second t) h = λ d. subst (λ y. IsContent y y.current) (sym (t.each d)) (second_content (before d) (h d))
stay_content dir new l m before after x (dies d t) h = becomes_content before after d _ t.becomes tt h
stay_content dir new l m before after x (withholds t) h = λ d. subst (λ y. IsContent y y.current) (sym (t.each d)) (h d)
