-- A turn, and its outcome: a restoring whose own second runs does not come to want.
use Rattle.fw_model_controllers.proofs.Common.{◌≡◌, ℕ, Bool, true, false, Option, Some, None, cond, refl, subst, sym}
use Rattle.fw_model_controllers.proofs.Common.{arith, Flow, Slot, Free, Making, Established, Restoring, Gone, Current, Nothing, Asking, Hearing}
use Rattle.fw_model_controllers.proofs.Common.{Overtaken, Directory, Job, Ending, restores, Access, Stage, Made, Ended, ControllerState, slot_at, job_for, addressee_of, after_asking, after_answer}
use Rattle.std.proofs.Common.{ltb, slice_get}
use Rattle.fw_cmp_jobs.specs.declared.outcome.Outcome.{Outcome}
use Rattle.fw_cmp_jobs.specs.declared.outcome.Outcome.TheVariants as outcome
use Rattle.fw_cmp_jobs.specs.declared.job.Ending.TheVariants as ending
use Rattle.fw_cmp.specs.declared.outcome.Next.TheVariants.{End, Idle, Waiting as WaitsUntil}
use Rattle.fw_cmp_jobs.specs.Requests.{access_of}
use Rattle.fw_cmp.specs.Turns.{after_next, asks_or_ends, sending, answer_of, next}
use Rattle.fw_cmp_jobs.specs.Jobs.{made_outcome, outcome_for, outcome_of}
use Rattle.fw_cmp.specs.Jobs.{job_current, slot_of_task, to_restore, waiting_break, is_empty, takes_task, takes_waiting, takes_next, picked, resumed_current, going}
use Rattle.fw_cmp_jobs.specs.Jobs.{is_over}
use Rattle.fw_model_controllers.specs.Wants.{is_want, is_want_outcome, wants, is_own, IsContent}
use Rattle.fw_model_controllers.proofs.Turns.{at_rest}
use Rattle.fw_model_controllers.proofs.Wants.{resumed_wants}

-- ---- a turn

not_over : (slot : Slot) → is_own slot ≡ true → is_over slot ≡ false
not_over Free e = refl
not_over (Making conn asked overhead) e = refl
not_over (Established conn f) e = refl
not_over (Restoring conn f true) e = absurd (grind arith)
not_over (Restoring conn f false) e = refl
not_over (Gone conn) e = refl

new_content : (c : ControllerState) (o : Option Job) → IsContent c (job_current o)
new_content c None = tt
new_content c (Some j) = λ own. refl

waiting_content : (o : Option ℕ) (now : ℕ) (dir : Directory) (c : ControllerState) → IsContent c (takes_waiting o now dir (at_rest c)).current
waiting_content (Some k) now dir c = new_content c (job_for (slot_of_task (slice_get c.waiting k)) (slot_at c (slot_of_task (slice_get c.waiting k))))
waiting_content None now dir c = go (is_empty c.waiting) (ltb now dir.over_at)
  where
    go : (a b : Bool) → IsContent c (cond a (at_rest c) (cond b (at_rest c) (takes_task (at_rest c) 0))).current
    go true b = tt
    go false true = tt
    go false false = new_content c (job_for (slot_of_task (slice_get c.waiting 0)) (slot_at c (slot_of_task (slice_get c.waiting 0))))

next_content : (o : Option ℕ) (now : ℕ) (dir : Directory) (c : ControllerState) → IsContent c (takes_next o now dir (at_rest c)).current
next_content (Some i) now dir c = new_content c (job_for i (slot_at c i))
next_content None now dir c = waiting_content (waiting_break (at_rest c)) now dir c

goes_content : (dir : Directory) (c : ControllerState) (current : Current) → IsContent c current → IsContent c (resumed_current c dir current)
goes_content dir c Nothing h = tt
goes_content dir c (Asking j s) h = λ own. resumed_wants dir (slot_at c j.slot) j s (not_over (slot_at c j.slot) own) (h own)
goes_content dir c (Hearing j s) h = h
goes_content dir c (Overtaken i o) h = h

-- the slots stay as they are until a job ends
picked_slots : (now : ℕ) (dir : Directory) (c : ControllerState) (current : Current) → (picked now dir (record c { current = current })).slots ≡ c.slots
picked_slots now dir c Nothing = next_slots (to_restore (at_rest c))
  where
    none_slots : (a b : Bool) → (cond a (at_rest c) (cond b (at_rest c) (takes_task (at_rest c) 0))).slots ≡ c.slots
    none_slots true b = refl
    none_slots false true = refl
    none_slots false false = refl

    waiting_slots : (o : Option ℕ) → (takes_waiting o now dir (at_rest c)).slots ≡ c.slots
    waiting_slots (Some k) = refl
    waiting_slots None = none_slots (is_empty c.waiting) (ltb now dir.over_at)

    next_slots : (o : Option ℕ) → (takes_next o now dir (at_rest c)).slots ≡ c.slots
    next_slots (Some i) = refl
    next_slots None = waiting_slots (waiting_break (at_rest c))
picked_slots now dir c (Asking j s) = refl
picked_slots now dir c (Hearing j s) = refl
picked_slots now dir c (Overtaken i o) = refl

-- what is content with a controller's slots
of_slots : (c e : ControllerState) (current : Current) → e.slots ≡ c.slots → IsContent c current → IsContent e current
of_slots c e Nothing same h = tt
of_slots c e (Asking j s) same h = λ own. h (subst (λ xs. is_own (slot_at (record c { slots = xs }) j.slot) ≡ true) same own)
of_slots c e (Hearing j s) same h = λ own. h (subst (λ xs. is_own (slot_at (record c { slots = xs }) j.slot) ≡ true) same own)
of_slots c e (Overtaken i o) same h = h

picked_content : (now : ℕ) (dir : Directory) (c : ControllerState) (current : Current) → IsContent c current → IsContent c (picked now dir (record c { current = current })).current
picked_content now dir c Nothing h = next_content (to_restore (at_rest c)) now dir c
picked_content now dir c (Asking j s) h = h
picked_content now dir c (Hearing j s) h = h
picked_content now dir c (Overtaken i o) h = h

answer_content : (c : ControllerState) (current : Current) → IsContent c current → IsContent (after_answer (record c { current = current })) (after_answer (record c { current = current })).current
answer_content c Nothing h = tt
answer_content c (Asking j s) h = go (access_of j s)
  where
    go : (o : Option Access) → IsContent (after_asking (record c { current = Asking j s }) j s o) (after_asking (record c { current = Asking j s }) j s o).current
    go None = tt
    go (Some a) = h
answer_content c (Hearing j s) h = h
answer_content c (Overtaken i o) h = tt

pub turn_content : (now : ℕ) (dir : Directory) (c : ControllerState) → IsContent c c.current → IsContent (after_next now dir c) (after_next now dir c).current
turn_content now dir c h =
    let e : ControllerState = picked now dir c in
    let first : IsContent e e.current = of_slots c e e.current (picked_slots now dir c c.current) (picked_content now dir c c.current h) in
    answer_content (going dir e) (going dir e).current (goes_content dir e e.current first)

-- ---- an outcome

pub made_wants : (j : Job) (f : Flow) → is_want_outcome (made_outcome j f) ≡ false
made_wants j f = go (restores j)
  where
    go : (b : Bool) → is_want_outcome (cond b (outcome.Restored f.channel) (outcome.Connected f.channel)) ≡ false
    go true = refl
    go false = refl

ending_wants : (now : ℕ) (e : Ending) → is_want e ≡ false → is_want_outcome (outcome_for now e) ≡ false
ending_wants now ending.Broken q = refl
ending_wants now (ending.NoChannel w) q = refl
ending_wants now (ending.NoUnits left) q = q
ending_wants now (ending.PlugFull w) q = refl
ending_wants now (ending.InputBusy w) q = refl
ending_wants now (ending.NoPlug rcode) q = refl
ending_wants now ending.NoManager q = refl
ending_wants now (ending.Absent device) q = refl
ending_wants now ending.Late q = q

stage_outcome : (now : ℕ) (j : Job) (s : Stage) → wants s ≡ false → is_want_outcome (outcome_of now j s) ≡ false
stage_outcome now j (Made f) q = made_wants j f
stage_outcome now j (Ended e) q = ending_wants now e q
stage_outcome now j s q = refl

asking_outcome : (now : ℕ) (dir : Directory) (c : ControllerState) (j : Job) (s : Stage) (i : ℕ) (o : Outcome) → IsContent c (Asking j s) → is_own (slot_at c i) ≡ true → (a : Option Access)
    → asks_or_ends now dir j s a ≡ End i o → is_want_outcome o ≡ false
asking_outcome now dir c j s i o h own None e =
    let slot : j.slot ≡ i = cc in
    let same : outcome_of now j s ≡ o = cc in
    subst (λ y. is_want_outcome y ≡ false) same (stage_outcome now j s (h (subst (λ k. is_own (slot_at c k) ≡ true) (sym slot) own)))
asking_outcome now dir c j s i o h own (Some a) e = go (addressee_of dir a.target) e
  where
    go : (n : Option ℕ) → sending n a ≡ End i o → is_want_outcome o ≡ false
    go None f = absurd (grind arith)
    go (Some to) f = absurd (grind arith)

answer_outcome : (now : ℕ) (dir : Directory) (c : ControllerState) (current : Current) (i : ℕ) (o : Outcome) → IsContent c current → is_own (slot_at c i) ≡ true
    → answer_of now dir (record c { current = current }) ≡ End i o → is_want_outcome o ≡ false
answer_outcome now dir c Nothing i o h own e = go (is_empty c.waiting) e
  where
    go : (b : Bool) → cond b Idle (WaitsUntil dir.over_at) ≡ End i o → is_want_outcome o ≡ false
    go true f = absurd (grind arith)
    go false f = absurd (grind arith)
answer_outcome now dir c (Asking j s) i o h own e = asking_outcome now dir c j s i o h own (access_of j s) e
answer_outcome now dir c (Hearing j s) i o h own e = absurd (grind arith)
answer_outcome now dir c (Overtaken k w) i o h own e = let same : w ≡ o = cc in subst (λ y. is_want_outcome y ≡ false) same h

pub own_outcome : (now : ℕ) (dir : Directory) (c : ControllerState) (i : ℕ) (o : Outcome) → IsContent c c.current → is_own (slot_at c i) ≡ true → next now dir c ≡ End i o → is_want_outcome o ≡ false
own_outcome now dir c i o h own e =
    let p : ControllerState = picked now dir c in
    let same : p.slots ≡ c.slots = picked_slots now dir c c.current in
    let first : IsContent p p.current = of_slots c p p.current same (picked_content now dir c c.current h) in
    answer_outcome now dir (going dir p) (going dir p).current i o (goes_content dir p p.current first) (subst (λ xs. is_own (slot_at (record c { slots = xs }) i) ≡ true) (sym same) own) e
