-- The slots after a bus reset, and after the end of the reclaim second.
use Rattle.fw_cmp.proofs.Common.{◌≡◌, ◌≢◌, ℕ, ◌<◌, Bool, true, false, List, length, get_or, refl, ap, sym, ◌∙◌, arith, Option, Some, ⊤, Slot, Free, Making, Established, Restoring, Gone, Current}
use Rattle.fw_cmp.proofs.Common.{Nothing, Asking, Hearing, Overtaken, WaitingJob, Job, Purpose, Make, Restore, Break, Stage, Begin, Made, Ended, ControllerState, slot_at, with_slot, job_for}
use Rattle.fw_cmp.proofs.Common.{SlotHasJobs, CurrentFits, RunsFitting, Fits, SlotFits, current_reset, lost_reset, slot_reset, after_reset, slot_over}
use Rattle.std.proofs.Common.{map}
use Rattle.std.proofs.lemmas.List.{length-map}
use Rattle.std.proofs.Math.ListN.{get_or-map}
use Rattle.std.proofs.lemmas.List.Elements.{All-map}
use Rattle.fw_cmp_jobs.specs.declared.outcome.Outcome.TheVariants.{Reset}
use Rattle.fw_cmp.specs.Resets.{overtaken, slots_reset, after_lost_reset, state_reset, after_second}
use Rattle.fw_cmp.proofs.Ended.{purpose_or, after_stop}
use Rattle.fw_cmp.proofs.Fitting.{slot_here}
use Rattle.fw_cmp.proofs.Overtaken.{current_reset_fits, lost_fits}

-- ---- the slots after it

abbrev pub is_standing : Slot → Bool
is_standing (Established conn f) = true
is_standing _ = false

-- the current job's connection does not stand
abbrev pub IsMoved : ControllerState → Current → Type 0
IsMoved c Nothing = ⊤
IsMoved c (Asking j t) = is_standing (slot_at c j.slot) ≡ false
IsMoved c (Hearing j t) = is_standing (slot_at c j.slot) ≡ false
IsMoved c (Overtaken i o) = ⊤

reset_same : (i : ℕ) (s : Slot) → is_standing s ≡ false → job_for i (slot_reset s) ≡ job_for i s
reset_same i Free e = refl
reset_same i (Making conn asked overhead) e = refl
reset_same i (Established conn f) e = cc
reset_same i (Restoring conn f over) e = refl
reset_same i (Gone conn) e = refl

reset_fits_slot : (s : Slot) → SlotFits s → SlotFits (slot_reset s)
reset_fits_slot Free h = h
reset_fits_slot (Making conn asked overhead) h = h
reset_fits_slot (Established conn f) h = h
reset_fits_slot (Restoring conn f over) h = h
reset_fits_slot (Gone conn) h = h

reset_jobs : (ts : List WaitingJob) (cur : Current) (i : ℕ) (s : Slot) → SlotHasJobs ts cur i s → SlotHasJobs ts cur i (slot_reset s)
reset_jobs ts cur i Free h = h
reset_jobs ts cur i (Making conn asked overhead) h = h
reset_jobs ts cur i (Established conn f) h = record { makes = h.makes; breaks = h.breaks; gone = h.gone }
reset_jobs ts cur i (Restoring conn f over) h = h
reset_jobs ts cur i (Gone conn) h = h

pub slot_at_reset : (ss : List Slot) (i : ℕ) → get_or (map slot_reset ss) i Free ≡ slot_reset (get_or ss i Free)
slot_at_reset ss i = get_or-map slot_reset ss i Free

reset_runs : (c : ControllerState) (j : Job) (t : Stage) → is_standing (slot_at c j.slot) ≡ false → RunsFitting c j t → RunsFitting (slots_reset c) j t
reset_runs c j t e h = record { of_slot = rw (slot_at_reset c.slots j.slot) (reset_same j.slot (slot_at c j.slot) e ∙ h.of_slot); job = h.job; stage = h.stage }

reset_current : (c : ControllerState) (cur : Current) → IsMoved c cur → CurrentFits c cur → CurrentFits (slots_reset c) cur
reset_current c Nothing m h = h
reset_current c (Asking j t) m h = reset_runs c j t m h
reset_current c (Hearing j t) m h = reset_runs c j t m h
reset_current c (Overtaken i o) m h = h

pub slots_reset_fits : (c : ControllerState) → IsMoved c c.current → Fits c → Fits (slots_reset c)
slots_reset_fits c m h = record {
  slots = length-map c.slots slot_reset ∙ h.slots;
  each = All-map SlotFits slot_reset c.slots (λ k d lt. reset_fits_slot (get_or c.slots k d) (h.each k d lt));
  waiting = h.waiting;
  few = h.few;
  current = reset_current c c.current m h.current;
  jobs = λ k. rw (slot_at_reset c.slots k) (reset_jobs c.waiting c.current k (slot_at c k) (h.jobs k));
}

-- ---- a bus reset as a whole

not_standing : (i : ℕ) (s : Slot) (j : Job) → job_for i s ≡ Some j → (p : Purpose) → j.purpose ≡ p → p ≢ Break → is_standing s ≡ false
not_standing i Free j e p is ne = refl
not_standing i (Making conn asked overhead) j e p is ne = refl
not_standing i (Established conn f) j e p is ne = absurd (ne (sym is ∙ sym (ap (λ (x : Option Job). purpose_or x Break) e)))
not_standing i (Restoring conn f over) j e p is ne = refl
not_standing i (Gone conn) j e p is ne = refl

decided_moved : (c : ControllerState) (j : Job) (t : Stage) → j.slot < length c.slots → job_for j.slot (slot_at c j.slot) ≡ Some j
    → ((d : ControllerState) → is_standing (slot_at d j.slot) ≡ false → IsMoved d c.current) → (p : Purpose) → j.purpose ≡ p →
    let r : ControllerState = elim p as (λ _. ControllerState) [ Make ↦ c | Restore ↦ c | Break ↦ with_slot c j.slot (Gone j.connection) ] in IsMoved r r.current
decided_moved c j t lt e moved Make is = moved c (not_standing j.slot (slot_at c j.slot) j e Make is (λ x. cc))
decided_moved c j t lt e moved Restore is = moved c (not_standing j.slot (slot_at c j.slot) j e Restore is (λ x. cc))
decided_moved c j t lt e moved Break is = moved (with_slot c j.slot (Gone j.connection)) (ap is_standing (slot_here c j.slot (Gone j.connection) lt))

interrupted_moved : (epoch : ℕ) (c : ControllerState) (j : Job) → job_for j.slot (slot_at c j.slot) ≡ Some j → (p : Purpose) → j.purpose ≡ p →
    let r : ControllerState = elim p as (λ _. ControllerState) [
      | Make ↦ after_stop c j Free
          (Overtaken j.slot (Reset epoch))
      | Restore ↦ record c { current = Asking j Begin }
      | Break ↦ after_stop c j Free (Overtaken j.slot (Reset epoch))
    ] in IsMoved r r.current
interrupted_moved epoch c j e Make is = tt
interrupted_moved epoch c j e Break is = tt
interrupted_moved epoch c j e Restore is = not_standing j.slot (slot_at c j.slot) j e Restore is (λ x. cc)

overtaken_moved : (epoch : ℕ) (c : ControllerState) (j : Job) (t : Stage) → j.slot < length c.slots → job_for j.slot (slot_at c j.slot) ≡ Some j
    → ((d : ControllerState) → is_standing (slot_at d j.slot) ≡ false → IsMoved d c.current) → IsMoved (overtaken epoch c j t) (overtaken epoch c j t).current
overtaken_moved epoch c j (Made f) lt e moved = tt
overtaken_moved epoch c j (Ended x) lt e moved = decided_moved c j (Ended x) lt e moved j.purpose refl
overtaken_moved epoch c j t lt e moved = interrupted_moved epoch c j e j.purpose refl

current_reset_moved : (epoch : ℕ) (ss : List Slot) (ts : List WaitingJob) (cur : Current) → Fits (record { slots = ss; waiting = ts; current = cur })
    → let r : ControllerState = current_reset epoch (record { slots = ss; waiting = ts; current = cur }) cur in IsMoved r r.current
current_reset_moved epoch ss ts Nothing h = tt
current_reset_moved epoch ss ts (Asking j t) h =
    let runs : RunsFitting (record { slots = ss; waiting = ts; current = Asking j t }) j t = h.current in
    overtaken_moved epoch (record { slots = ss; waiting = ts; current = Asking j t }) j t (omega (arith, h.slots, runs.job.slot)) runs.of_slot (λ d e. e)
current_reset_moved epoch ss ts (Hearing j t) h =
    let runs : RunsFitting (record { slots = ss; waiting = ts; current = Hearing j t }) j t = h.current in
    overtaken_moved epoch (record { slots = ss; waiting = ts; current = Hearing j t }) j t (omega (arith, h.slots, runs.job.slot)) runs.of_slot (λ d e. e)
current_reset_moved epoch ss ts (Overtaken i o) h = tt

lost_moved : (epoch : ℕ) (ss : List Slot) (ts : List WaitingJob) (cur : Current) → Fits (record { slots = ss; waiting = ts; current = cur })
    → let r : ControllerState = lost_reset epoch (record { slots = ss; waiting = ts; current = cur }) cur in IsMoved r r.current
lost_moved epoch ss ts Nothing h = tt
lost_moved epoch ss ts (Asking j t) h = interrupted_moved epoch (record { slots = ss; waiting = ts; current = Asking j t }) j h.current.of_slot j.purpose refl
lost_moved epoch ss ts (Hearing j t) h = interrupted_moved epoch (record { slots = ss; waiting = ts; current = Hearing j t }) j h.current.of_slot j.purpose refl
lost_moved epoch ss ts (Overtaken i o) h = tt

pub lost_reset_fits : (epoch : ℕ) (c : ControllerState) → Fits c → Fits (after_lost_reset epoch c)
lost_reset_fits epoch c h = slots_reset_fits (lost_reset epoch c c.current) (lost_moved epoch c.slots c.waiting c.current h) (lost_fits epoch c.slots c.waiting c.current h)

pub reset_fits : (epoch : ℕ) (c : ControllerState) → Fits c → Fits (after_reset epoch c)
reset_fits epoch c h = slots_reset_fits (current_reset epoch c c.current) (current_reset_moved epoch c.slots c.waiting c.current h) (current_reset_fits epoch c.slots c.waiting c.current h)

pub is_slots_reset : (r : ControllerState) (ss us : List Slot) (ts : List WaitingJob) (cur : Current) → us ≡ map slot_reset ss → ss ≡ r.slots → ts ≡ r.waiting → cur ≡ r.current
    → record { slots = us; waiting = ts; current = cur } ≡ slots_reset r
is_slots_reset r ss us ts cur a b d e = cc

pub state_reset_fits : (epoch : ℕ) (lost : Bool) (c : ControllerState) → Fits c → Fits (state_reset epoch lost c)
state_reset_fits epoch true c h = lost_reset_fits epoch c h
state_reset_fits epoch false c h = reset_fits epoch c h

-- ---- the end of the reclaim second

over_same : (i : ℕ) (s : Slot) → job_for i (slot_over s) ≡ job_for i s
over_same i Free = refl
over_same i (Making conn asked overhead) = refl
over_same i (Established conn f) = refl
over_same i (Restoring conn f over) = refl
over_same i (Gone conn) = refl

over_fits_slot : (s : Slot) → SlotFits s → SlotFits (slot_over s)
over_fits_slot Free h = h
over_fits_slot (Making conn asked overhead) h = h
over_fits_slot (Established conn f) h = h
over_fits_slot (Restoring conn f over) h = h
over_fits_slot (Gone conn) h = h

over_jobs : (ts : List WaitingJob) (cur : Current) (i : ℕ) (s : Slot) → SlotHasJobs ts cur i s → SlotHasJobs ts cur i (slot_over s)
over_jobs ts cur i Free h = h
over_jobs ts cur i (Making conn asked overhead) h = h
over_jobs ts cur i (Established conn f) h = h
over_jobs ts cur i (Restoring conn f over) h = record { makes = h.makes; breaks = h.breaks; gone = h.gone }
over_jobs ts cur i (Gone conn) h = h

pub slot_at_over : (ss : List Slot) (i : ℕ) → get_or (map slot_over ss) i Free ≡ slot_over (get_or ss i Free)
slot_at_over ss i = get_or-map slot_over ss i Free

over_runs : (c : ControllerState) (j : Job) (t : Stage) → RunsFitting c j t → RunsFitting (after_second c) j t
over_runs c j t h = record { of_slot = rw (slot_at_over c.slots j.slot) (over_same j.slot (slot_at c j.slot) ∙ h.of_slot); job = h.job; stage = h.stage }

over_current : (c : ControllerState) (cur : Current) → CurrentFits c cur → CurrentFits (after_second c) cur
over_current c Nothing h = h
over_current c (Asking j t) h = over_runs c j t h
over_current c (Hearing j t) h = over_runs c j t h
over_current c (Overtaken i o) h = h

pub second_fits : (c : ControllerState) → Fits c → Fits (after_second c)
second_fits c h = record {
  slots = length-map c.slots slot_over ∙ h.slots;
  each = All-map SlotFits slot_over c.slots (λ k d lt. over_fits_slot (get_or c.slots k d) (h.each k d lt));
  waiting = h.waiting;
  few = h.few;
  current = over_current c c.current h.current;
  jobs = λ k. rw (slot_at_over c.slots k) (over_jobs c.waiting c.current k (slot_at c k) (h.jobs k));
}
