-- A bus reset overtakes the current job: what a controller keeps.
use Rattle.fw_cmp.proofs.Common.{◌≡◌, ◌≢◌, ℕ, ◌<◌, false, List, length, get_or, refl, ap, sym, ◌∙◌, arith, Option, Some, ◌⊎◌, inl, inr, cases_eq, Connection, Slot, Free, Making, Established}
use Rattle.fw_cmp.proofs.Common.{Restoring, Gone, Current, Nothing, Asking, Hearing, Overtaken, WaitingJob, Job, Purpose, Make, Restore, Break, Stage, Begin, Made, Ended, ControllerState, slot_at}
use Rattle.fw_cmp.proofs.Common.{with_slot, count_of, breaks_waiting, job_for, SlotHasJobs, CurrentFits, RunsFitting, Fits, SlotFits, current_reset, lost_reset}
use Rattle.std.proofs.lemmas.List.{length-set}
use Rattle.std.proofs.lemmas.List.Elements.{All-set}
use Rattle.fw_cmp_jobs.specs.Slots.{is_make_at, is_break_at}
use Rattle.fw_cmp_jobs.specs.Jobs.{made_outcome}
use Rattle.fw_cmp_jobs.specs.declared.outcome.Outcome.TheVariants.{Reset}
use Rattle.fw_cmp.specs.Resets.{overtaken}
use Rattle.fw_cmp.proofs.Ended.{purpose_or, connection_or, make_count, break_count, WaitsBeside, beside, after_stop, stop_fits}
use Rattle.fw_cmp.proofs.Jobs.{same_count}
use Rattle.fw_cmp.proofs.Fitting.{slot_here, slot_elsewhere}

-- ---- a bus reset

-- the job that hears is one that asks, for the jobs of a slot
settled : (ts : List WaitingJob) (j : Job) (t u : Stage) (i : ℕ) (s : Slot) → SlotHasJobs ts (Hearing j t) i s → SlotHasJobs ts (Asking j u) i s
settled ts j t u i s h = record { makes = h.makes; breaks = h.breaks; gone = h.gone }

-- a break of a connection that is gone is still current
gone_current : (i : ℕ) (s : Slot) (j : Job) → j.purpose ≡ Break → job_for i s ≡ Some j → job_for i (Gone j.connection) ≡ Some j
gone_current i Free j p e = cc
gone_current i (Making c a o) j p e = let clash : Make ≡ j.purpose = ap (λ (x : Option Job). purpose_or x Make) e in cc
gone_current i (Established c f) j p e = let same : c ≡ j.connection = ap (λ (x : Option Job). connection_or x c) e in ap (λ (x : Connection). job_for i (Gone x)) (sym same) ∙ e
gone_current i (Restoring c f over) j p e = let clash : Restore ≡ j.purpose = ap (λ (x : Option Job). purpose_or x Restore) e in cc
gone_current i (Gone c) j p e = let same : c ≡ j.connection = ap (λ (x : Option Job). connection_or x c) e in ap (λ (x : Connection). job_for i (Gone x)) (sym same) ∙ e

-- a slot is gone, and its break current
gone_here : (ts : List WaitingJob) (j : Job) (t : Stage) (conn : Connection) → j.purpose ≡ Break → WaitsBeside ts Break j.slot → SlotHasJobs ts (Asking j t) j.slot (Gone conn)
gone_here ts j t conn p w =
    let m : count_of (is_make_at j j.slot) ≡ 0 = ap (λ (q : Purpose). make_count q j.slot j.slot) p in
    let b : count_of (is_break_at j j.slot) ≡ 1 = ap (λ (q : Purpose). break_count q j.slot j.slot) p ∙ same_count j.slot in
    let none : breaks_waiting ts j.slot ≡ 0 = w.alone (λ e. cc) in
    record { makes = omega (arith, w.makes); breaks = omega arith; gone = omega arith }

jobs_gone : (c : ControllerState) (j : Job) (t : Stage) (k : ℕ) → j.slot < length c.slots → j.purpose ≡ Break → job_for j.slot (slot_at c j.slot) ≡ Some j
    → ((i : ℕ) → SlotHasJobs c.waiting (Asking j t) i (slot_at c i)) → (k ≡ j.slot) ⊎ (k ≢ j.slot) →
    SlotHasJobs c.waiting (Asking j t) k (slot_at (with_slot c j.slot (Gone j.connection)) k)
jobs_gone c j t k lt p e h (inl is) = rw is (rw (slot_here c j.slot (Gone j.connection) lt) (gone_here c.waiting j t j.connection p (beside c.waiting j t (slot_at c j.slot) Break p e (h j.slot))))
jobs_gone c j t k lt p e h (inr ne) = rw (slot_elsewhere c j.slot k (Gone j.connection) ne) (h k)

-- a current job that is decided stays current; the connection of a break is gone
decided_fits : (c : ControllerState) (j : Job) (t : Stage) → Fits c → RunsFitting c j t → ((i : ℕ) → SlotHasJobs c.waiting (Asking j t) i (slot_at c i))
    → ((i : ℕ) (s : Slot) → SlotHasJobs c.waiting (Asking j t) i s → SlotHasJobs c.waiting c.current i s) → ((d : ControllerState) → RunsFitting d j t → CurrentFits d c.current) →
    (p : Purpose) → j.purpose ≡ p → Fits (elim p [ Make ↦ c | Restore ↦ c | Break ↦ with_slot c j.slot (Gone j.connection) ])
decided_fits c j t h runs jobs same current Make is = h
decided_fits c j t h runs jobs same current Restore is = h
decided_fits c j t h runs jobs same current Break is =
    let lt : j.slot < length c.slots = omega (arith, h.slots, runs.job.slot) in
    record {
      slots = length-set c.slots j.slot (Gone j.connection) ∙ h.slots;
      each = All-set SlotFits c.slots j.slot (Gone j.connection) runs.job.connection h.each;
      waiting = h.waiting;
      few = h.few;
      current = current (with_slot c j.slot (Gone j.connection)) (record {
        of_slot = rw (slot_here c j.slot (Gone j.connection) lt) (gone_current j.slot (slot_at c j.slot) j is runs.of_slot);
        job = runs.job;
        stage = runs.stage;
      });
      jobs = λ k. same k (slot_at (with_slot c j.slot (Gone j.connection)) k) (jobs_gone c j t k lt is runs.of_slot jobs (cases_eq k j.slot));
    }

-- a job that is not decided: a restoring begins again, and another is over
interrupted_fits : (epoch : ℕ) (c : ControllerState) (j : Job) (t : Stage) → Fits c → RunsFitting c j t → ((i : ℕ) → SlotHasJobs c.waiting (Asking j t) i (slot_at c i)) → (p : Purpose)
    → j.purpose ≡ p →
    Fits (elim p [ Make ↦ after_stop c j Free (Overtaken j.slot (Reset epoch)) | Restore ↦ record c { current = Asking j Begin } | Break ↦ after_stop c j Free (Overtaken j.slot (Reset epoch)) ])
interrupted_fits epoch c j t h runs jobs Make is = stop_fits c j t Free (Overtaken j.slot (Reset epoch)) h runs tt tt runs.job.slot
    ((beside c.waiting j t (slot_at c j.slot) j.purpose refl runs.of_slot (jobs j.slot)).alone (λ e. cc)) jobs
interrupted_fits epoch c j t h runs jobs Break is = stop_fits c j t Free (Overtaken j.slot (Reset epoch)) h runs tt tt runs.job.slot
    ((beside c.waiting j t (slot_at c j.slot) j.purpose refl runs.of_slot (jobs j.slot)).alone (λ e. cc)) jobs
interrupted_fits epoch c j t h runs jobs Restore is = record {
  slots = h.slots;
  each = h.each;
  waiting = h.waiting;
  few = h.few;
  current = record { of_slot = runs.of_slot; job = runs.job; stage = tt };
  jobs = λ k. let r = jobs k in record { makes = r.makes; breaks = r.breaks; gone = r.gone };
}

overtaken_fits : (epoch : ℕ) (c : ControllerState) (j : Job) (t : Stage) → Fits c → RunsFitting c j t → ((i : ℕ) → SlotHasJobs c.waiting (Asking j t) i (slot_at c i))
    → ((i : ℕ) (s : Slot) → SlotHasJobs c.waiting (Asking j t) i s → SlotHasJobs c.waiting c.current i s) → ((d : ControllerState) → RunsFitting d j t → CurrentFits d c.current) →
    Fits (overtaken epoch c j t)
overtaken_fits epoch c j (Made f) h runs jobs same current =
    stop_fits c j (Made f) (Restoring j.connection f false) (Overtaken j.slot (made_outcome j f)) h runs (runs.job.connection, runs.stage) tt runs.job.slot tt jobs
overtaken_fits epoch c j (Ended e) h runs jobs same current = decided_fits c j (Ended e) h runs jobs same current j.purpose refl
overtaken_fits epoch c j t h runs jobs same current = interrupted_fits epoch c j t h runs jobs j.purpose refl

pub current_reset_fits : (epoch : ℕ) (ss : List Slot) (ts : List WaitingJob) (cur : Current) → Fits (record { slots = ss; waiting = ts; current = cur })
    → Fits (current_reset epoch (record { slots = ss; waiting = ts; current = cur }) cur)
current_reset_fits epoch ss ts Nothing h = h
current_reset_fits epoch ss ts (Asking j t) h = overtaken_fits epoch (record { slots = ss; waiting = ts; current = Asking j t }) j t h h.current h.jobs (λ i s r. r) (λ d r. r)
current_reset_fits epoch ss ts (Hearing j t) h =
    let runs : RunsFitting (record { slots = ss; waiting = ts; current = Hearing j t }) j t = h.current in
    overtaken_fits epoch (record { slots = ss; waiting = ts; current = Hearing j t }) j t h runs (λ i. settled ts j t t i (get_or ss i Free) (h.jobs i))
    (λ i s r. record { makes = r.makes; breaks = r.breaks; gone = r.gone }) (λ d r. r)
current_reset_fits epoch ss ts (Overtaken i o) h = h

-- the same if the response to its request was lost
pub lost_fits : (epoch : ℕ) (ss : List Slot) (ts : List WaitingJob) (cur : Current) → Fits (record { slots = ss; waiting = ts; current = cur })
    → Fits (lost_reset epoch (record { slots = ss; waiting = ts; current = cur }) cur)
lost_fits epoch ss ts Nothing h = h
lost_fits epoch ss ts (Asking j t) h = interrupted_fits epoch (record { slots = ss; waiting = ts; current = Asking j t }) j t h h.current h.jobs j.purpose refl
lost_fits epoch ss ts (Hearing j t) h =
    let runs : RunsFitting (record { slots = ss; waiting = ts; current = Hearing j t }) j t = h.current in
    interrupted_fits epoch (record { slots = ss; waiting = ts; current = Hearing j t }) j t h runs (λ i. settled ts j t t i (get_or ss i Free) (h.jobs i)) j.purpose refl
lost_fits epoch ss ts (Overtaken i o) h = h

-- the waiting jobs stay
decided_waiting : (c : ControllerState) (j : Job) (p : Purpose) → (elim p as (λ _. ControllerState) [ Make ↦ c | Restore ↦ c | Break ↦ with_slot c j.slot (Gone j.connection) ]).waiting ≡ c.waiting
decided_waiting c j Make = refl
decided_waiting c j Restore = refl
decided_waiting c j Break = refl

interrupted_waiting : (epoch : ℕ) (c : ControllerState) (j : Job) (p : Purpose)
    → (elim p as (λ _. ControllerState) [
      | Make ↦ after_stop c j Free (Overtaken j.slot (Reset epoch))
      | Restore ↦ record c { current = Asking j Begin }
      | Break ↦ after_stop c j Free
          (Overtaken j.slot (Reset epoch))
    ]).waiting ≡ c.waiting
interrupted_waiting epoch c j Make = refl
interrupted_waiting epoch c j Restore = refl
interrupted_waiting epoch c j Break = refl

overtaken_waiting : (epoch : ℕ) (c : ControllerState) (j : Job) (t : Stage) → (overtaken epoch c j t).waiting ≡ c.waiting
overtaken_waiting epoch c j (Made f) = refl
overtaken_waiting epoch c j (Ended e) = decided_waiting c j j.purpose
overtaken_waiting epoch c j t = interrupted_waiting epoch c j j.purpose

pub current_reset_waiting : (epoch : ℕ) (c : ControllerState) (cur : Current) → (current_reset epoch c cur).waiting ≡ c.waiting
current_reset_waiting epoch c Nothing = refl
current_reset_waiting epoch c (Asking j t) = overtaken_waiting epoch c j t
current_reset_waiting epoch c (Hearing j t) = overtaken_waiting epoch c j t
current_reset_waiting epoch c (Overtaken i o) = refl

pub lost_reset_waiting : (epoch : ℕ) (c : ControllerState) (cur : Current) → (lost_reset epoch c cur).waiting ≡ c.waiting
lost_reset_waiting epoch c Nothing = refl
lost_reset_waiting epoch c (Asking j t) = interrupted_waiting epoch c j j.purpose
lost_reset_waiting epoch c (Hearing j t) = interrupted_waiting epoch c j j.purpose
lost_reset_waiting epoch c (Overtaken i o) = refl
