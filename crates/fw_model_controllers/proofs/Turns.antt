-- A controller that takes a job, or goes on with its job, stays in step.
use Rattle.fw_model_controllers.proofs.Common.{PlugAt, ConnectionKind, ◌≡◌, ℕ, ◌+◌, ◌<◌, Bool, true, false, ◌&&◌, Some, eqb, cond}
use Rattle.fw_model_controllers.proofs.Common.{refl, ap, subst, sym, ◌∙◌, arith, Account, Connection, Flow, Slot, Free, Making}
use Rattle.fw_model_controllers.proofs.Common.{Established, Restoring, Gone, Nothing, Asking, Directory, Job, Make, Broken}
use Rattle.fw_model_controllers.proofs.Common.{Late, Stage, Begin, Ended, output_of, ControllerState, slot_at, count_of, restoring_job}
use Rattle.fw_model_controllers.proofs.Common.{breaking_job, job_for, restores, is_current_slot, stands_at_output, stands_at_input}
use Rattle.fw_model_controllers.proofs.Common.{slot_outputs, slot_inputs, begin_making, begin_leaving, Holds, has_manager}
use Rattle.fw_model_controllers.proofs.Common.{Others, MayReclaim, IsInStep, others_of, slots_alone, IsToRestore, SlotInStep, ControllerInStep}
use Rattle.fw_cmp_jobs.specs.Slots.{making_job}
use Rattle.fw_cmp_jobs.specs.Jobs.{is_late, resumed}
use Rattle.fw_model_controllers.proofs.Goes.{holds_same}
use Rattle.fw_model_controllers.proofs.Slots.{counts_begun}
use Rattle.fw_model_controllers.proofs.Begins.{alone, UnitsAre, ended_step, begins_making, begins_leaving, undecided_alone}

-- the manager that a controller is told of is that of the latest bus reset
abbrev pub IsTold : Account → Directory → Type 0
IsTold l dir = (n : ℕ) → dir.manager ≡ Some n → has_manager l.latest ≡ true

-- a slot that is told by its job has no more to say
slot_weaker : (l : Account) (b : Bool) (s : Slot) → SlotInStep l false s → SlotInStep l b s
slot_weaker l b Free x = tt
slot_weaker l b (Making conn asked overhead) x = tt
slot_weaker l true (Established conn f) x = tt
slot_weaker l false (Established conn f) x = x
slot_weaker l b (Restoring conn f over) x = x
slot_weaker l b (Gone conn) x = tt

-- ---- restoring

pub restoring_units : (l : Account) (k : ℕ) (conn : Connection) (f : Flow) (over : Bool) → IsToRestore l conn f over → UnitsAre l (restoring_job k conn f)
restoring_units l k conn f over x p u e g = let same : f.units ≡ u = cc in sym same ∙ x.units p e

restoring_may : (l : Account) (k : ℕ) (conn : Connection) (f : Flow) → IsToRestore l conn f false → (p : PlugAt) → output_of conn ≡ Some p → MayReclaim l p (restoring_job k conn f)
restoring_may l k conn f x p e = (f.channel, refl, (x.listed p e refl).1 ∙ ap (λ u. Some (record { plug = p; units = u })) (x.units p e))

restoring_begins : (l : Account) (d k : ℕ) (dir : Directory) (conn : Connection) (f : Flow) (over : Bool) (others : Others) → Holds l d (alone others) → IsTold l dir → IsToRestore l conn f over
    → IsInStep l d (restoring_job k conn f) (resumed dir (Restoring conn f over) (restoring_job k conn f) Begin) false others
restoring_begins l d k dir conn f true others has told x = ended_step l d (restoring_job k conn f) Late false others has (restoring_units l k conn f true x)
restoring_begins l d k dir conn f false others has told x = begins_making l d (restoring_job k conn f) others dir has (restoring_units l k conn f false x)
    (λ p e runs. restoring_may l k conn f x p e) told

-- ---- a job that is taken

abbrev pub at_rest : ControllerState → ControllerState
at_rest c = record c { current = Nothing }

abbrev pub asking : ControllerState → Job → Stage → ControllerState
asking c j s = record c { current = Asking j s }

-- the job of this slot is current
taken : (l : Account) (d : ℕ) (c : ControllerState) (k : ℕ) (j : Job) (s : Stage) → ControllerInStep l d (at_rest c) → j.slot ≡ k → job_for k (slot_at c k) ≡ Some j → k < 32
    → IsInStep l d j s false (others_of (asking c j s)) → ControllerInStep l d (asking c j s)
taken l d c k j s x same is lt step = record {
  current = record { slot = subst (λ n. job_for n (slot_at c n) ≡ Some j) (sym same) is; within = subst (λ n. n < 32) (sym same) lt; step = step };
  slots = λ i. slot_weaker l (eqb j.slot i) (slot_at c i) (x.slots i);
}

-- the others, if nothing stands at the slot
alone_is : (l : Account) (d : ℕ) (c : ControllerState) (j : Job) (s : Stage) → ControllerInStep l d (at_rest c) → j.slot < 32
    → ((kind : ConnectionKind) (q : PlugAt) → stands_at_output (slot_at c j.slot) kind q ≡ false) → ((kind : ConnectionKind) (q : PlugAt) → stands_at_input (slot_at c j.slot) kind q ≡ false)
    → Holds l d (alone (others_of (asking c j s)))
alone_is l d c j s x lt no_out no_in = holds_same l d (slots_alone (at_rest c)) (alone (others_of (asking c j s))) x.current refl
    (λ kind q. counts_begun stands_at_output (at_rest c) j s kind q refl lt ∙ rw (no_out kind q) (omega arith))
    (λ kind q. counts_begun stands_at_input (at_rest c) j s kind q refl lt ∙ rw (no_in kind q) (omega arith))

pub begins_at : (l : Account) (d : ℕ) (c : ControllerState) (dir : Directory) (k : ℕ) (slot : Slot) (j : Job) → ControllerInStep l d (at_rest c) → IsTold l dir → k < 32 → slot_at c k ≡ slot
    → job_for k slot ≡ Some j → (j.purpose ≡ Make → l.reclaiming ≡ false) → ControllerInStep l d (asking c j (resumed dir slot j Begin))
begins_at l d c dir k Free j x told lt at is calm = absurd (grind arith)
begins_at l d c dir k (Making conn asked overhead) j x told lt at is calm =
    let same : making_job k conn asked overhead ≡ j = cc in
    subst (λ y. ControllerInStep l d (asking c y (resumed dir (Making conn asked overhead) y Begin))) same
    (taken l d c k (making_job k conn asked overhead) (begin_making dir (making_job k conn asked overhead)) x refl (ap (job_for k) at) lt
    (begins_making l d (making_job k conn asked overhead) (others_of (asking c (making_job k conn asked overhead) (begin_making dir (making_job k conn asked overhead)))) dir
    (alone_is l d c (making_job k conn asked overhead) (begin_making dir (making_job k conn asked overhead)) x lt (λ kind q. rw at refl) (λ kind q. rw at refl)) (λ p u e f. absurd (grind arith))
    (λ p e runs. let quiet : l.reclaiming ≡ false = calm (ap (λ (y : Job). y.purpose) (sym same)) in absurd (grind arith)) told))
begins_at l d c dir k (Established conn f) j x told lt at is calm =
    let same : breaking_job k conn ≡ j = cc in
    subst (λ y. ControllerInStep l d (asking c y (resumed dir (Established conn f) y Begin))) same
    (taken l d c k (breaking_job k conn) (begin_leaving conn f) x refl (ap (job_for k) at) lt
    (begins_leaving l d k conn f (slots_alone (at_rest c)) (others_of (asking c (breaking_job k conn) (begin_leaving conn f))) (subst (SlotInStep l false) at (x.slots k)) x.current refl
    (λ kind q. counts_begun stands_at_output (at_rest c) (breaking_job k conn) (begin_leaving conn f) kind q refl lt
    ∙ ap (λ y. slot_outputs (asking c (breaking_job k conn) (begin_leaving conn f)) kind q + count_of (stands_at_output y kind q)) at)
    (λ kind q. counts_begun stands_at_input (at_rest c) (breaking_job k conn) (begin_leaving conn f) kind q refl lt
    ∙ ap (λ y. slot_inputs (asking c (breaking_job k conn) (begin_leaving conn f)) kind q + count_of (stands_at_input y kind q)) at)))
begins_at l d c dir k (Restoring conn f over) j x told lt at is calm =
    let same : restoring_job k conn f ≡ j = cc in
    let stage : Stage = resumed dir (Restoring conn f over) (restoring_job k conn f) Begin in
    subst (λ y. ControllerInStep l d (asking c y (resumed dir (Restoring conn f over) y Begin))) same
    (taken l d c k (restoring_job k conn f) stage x refl (ap (job_for k) at) lt
    (restoring_begins l d k dir conn f over (others_of (asking c (restoring_job k conn f) stage))
    (alone_is l d c (restoring_job k conn f) stage x lt (λ kind q. rw at refl) (λ kind q. rw at refl)) told (subst (SlotInStep l false) at (x.slots k))))
begins_at l d c dir k (Gone conn) j x told lt at is calm =
    let same : breaking_job k conn ≡ j = cc in
    subst (λ y. ControllerInStep l d (asking c y (resumed dir (Gone conn) y Begin))) same
    (taken l d c k (breaking_job k conn) (Ended Broken) x refl (ap (job_for k) at) lt
    (ended_step l d (breaking_job k conn) Broken false (others_of (asking c (breaking_job k conn) (Ended Broken)))
    (alone_is l d c (breaking_job k conn) (Ended Broken) x lt (λ kind q. rw at refl) (λ kind q. rw at refl)) (λ p u e f. absurd (grind arith))))

-- ---- a job that goes on

-- the slot of a restoring is one to be restored
is_restoring_job : (k : ℕ) (slot : Slot) (j : Job) → job_for k slot ≡ Some j → restores j ≡ true → (conn : Connection) × (f : Flow) × (over : Bool) × (slot ≡ Restoring conn f over)
    × (j ≡ restoring_job k conn f)
is_restoring_job k Free j is r = absurd (grind arith)
is_restoring_job k (Making conn asked overhead) j is r = let same : making_job k conn asked overhead ≡ j = cc in
    let no_ : restores (making_job k conn asked overhead) ≡ true = subst (λ y. restores y ≡ true) (sym same) r in absurd (grind arith)
is_restoring_job k (Established conn f) j is r = let same : breaking_job k conn ≡ j = cc in let no_ : restores (breaking_job k conn) ≡ true = subst (λ y. restores y ≡ true) (sym same) r in
    absurd (grind arith)
is_restoring_job k (Restoring conn f over) j is r = (conn, f, over, refl, cc)
is_restoring_job k (Gone conn) j is r = let same : breaking_job k conn ≡ j = cc in let no_ : restores (breaking_job k conn) ≡ true = subst (λ y. restores y ≡ true) (sym same) r in absurd (grind arith)

-- the job goes on at another stage
pub goes_on_at : (l : Account) (d : ℕ) (c : ControllerState) (j : Job) (s t : Stage) → ControllerInStep l d (asking c j s) → IsInStep l d j t false (others_of (asking c j s))
    → ControllerInStep l d (asking c j t)
goes_on_at l d c j s t x step = record { current = record { slot = x.current.slot; within = x.current.within; step = step }; slots = x.slots }

-- too late, or as it was
late_or : (l : Account) (d : ℕ) (c : ControllerState) (j : Job) (s : Stage) → ControllerInStep l d (asking c j s) → (b : Bool) → is_late (slot_at c j.slot) j s ≡ b
    → IsInStep l d j (cond b (Ended Late) s) false (others_of (asking c j s))
late_or l d c j s x true e = ended_step l d j Late false (others_of (asking c j s))
    (undecided_alone l d j s false (others_of (asking c j s)) x.current.step (all_three (restores j) _ _ e)) x.current.step.units
  where
    all_three : (a b c : Bool) → (a && (b && c)) ≡ true → c ≡ true
    all_three true true c e = e
    all_three true false c e = grind arith
    all_three false b c e = grind arith
late_or l d c j s x false e = x.current.step

begins_again : (l : Account) (d : ℕ) (c : ControllerState) (dir : Directory) (j : Job) → ControllerInStep l d (asking c j Begin) → IsTold l dir
    → IsInStep l d j (resumed dir (slot_at c j.slot) j Begin) false (others_of (asking c j Begin))
begins_again l d c dir j x told =
    let w = is_restoring_job j.slot (slot_at c j.slot) j x.current.slot x.current.step.fresh in
    let slot : Slot = Restoring w.0 w.1 w.2 in
    let has : Holds l d (alone (others_of (asking c j Begin))) = undecided_alone l d j Begin false (others_of (asking c j Begin)) x.current.step refl in
    let is : IsToRestore l w.0 w.1 w.2 = subst (SlotInStep l (is_current_slot (Asking j Begin) j.slot)) w.3 (x.slots j.slot) in
    let step = restoring_begins l d j.slot dir w.0 w.1 w.2 (others_of (asking c j Begin)) has told is in
    subst (λ y. IsInStep l d j (resumed dir y j Begin) false (others_of (asking c j Begin))) (sym w.3)
    (subst (λ y. IsInStep l d y (resumed dir slot y Begin) false (others_of (asking c j Begin))) (sym w.4) step)

resumes_at : (l : Account) (d : ℕ) (c : ControllerState) (dir : Directory) (j : Job) (s : Stage) → ControllerInStep l d (asking c j s) → IsTold l dir
    → IsInStep l d j (resumed dir (slot_at c j.slot) j s) false (others_of (asking c j s))
resumes_at l d c dir j Begin x told = begins_again l d c dir j x told
resumes_at l d c dir j s x told = late_or l d c j s x (is_late (slot_at c j.slot) j s) refl

pub resumes : (l : Account) (d : ℕ) (c : ControllerState) (dir : Directory) (j : Job) (s : Stage) → ControllerInStep l d (asking c j s) → IsTold l dir
    → ControllerInStep l d (asking c j (resumed dir (slot_at c j.slot) j s))
resumes l d c dir j s x told = goes_on_at l d c j s (resumed dir (slot_at c j.slot) j s) x (resumes_at l d c dir j s x told)
