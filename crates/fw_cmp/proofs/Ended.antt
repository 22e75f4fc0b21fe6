-- A job ends, or a bus reset overtakes it: what a controller keeps.
use Rattle.fw_cmp.proofs.Common.{◌≡◌, ◌≢◌, ℕ, ◌<◌, ◌≤◌, Bool, true, false, List, length, refl, ap, sym, ◌∙◌, arith, Option, Some, None, ◌⊎◌, inl, inr, ◌&&◌, ⊤, if◌then◌else◌, cases_eq, Connection}
use Rattle.fw_cmp.proofs.Common.{
  Slot,
  Free,
  Making,
  Established,
  Restoring,
  Gone,
  Current,
  Nothing,
  Asking,
  Hearing,
  Overtaken,
  WaitingJob,
  Job,
  Purpose,
  Make,
  Restore,
  Break,
  Stage,
  Made,
  ControllerState,
}
use Rattle.fw_cmp.proofs.Common.{slot_at, with_slot, count_of, breaks_waiting, job_for, SlotHasJobs, CurrentFits, RunsFitting, Fits, restores, SlotFits}
use Rattle.std.proofs.Common.{◌==◌}
use Rattle.std.proofs.lemmas.List.{length-set}
use Rattle.std.proofs.lemmas.List.Elements.{All-set}
use Rattle.fw_cmp.specs.Controllers.{break_waits}
use Rattle.fw_cmp_jobs.specs.Slots.{is_make_at, is_break_at}
use Rattle.fw_cmp.specs.Controllers.{makes_waiting}
use Rattle.fw_cmp_jobs.specs.Fits.{ConnectionFits}
use Rattle.fw_cmp.specs.Turns.{ended}
use Rattle.fw_cmp.proofs.Jobs.{same_count, other_count, breaks_none, breaks_some}
use Rattle.fw_cmp.proofs.Fitting.{slot_here, slot_elsewhere}

-- ---- the job of a slot

abbrev pub purpose_or : Option Job → Purpose → Purpose
purpose_or None p = p
purpose_or (Some j) p = j.purpose

abbrev pub connection_or : Option Job → Connection → Connection
connection_or None conn = conn
connection_or (Some j) conn = j.connection

abbrev pub make_count : Purpose → ℕ → ℕ → ℕ
make_count p slot i = count_of (elim p [ Make ↦ slot == i | Restore ↦ false | Break ↦ false ])

abbrev pub break_count : Purpose → ℕ → ℕ → ℕ
break_count p slot i = count_of (elim p [ Make ↦ false | Restore ↦ false | Break ↦ slot == i ])

pub make_count_elsewhere : (p : Purpose) (slot i : ℕ) → slot ≢ i → make_count p slot i ≡ 0
make_count_elsewhere Make slot i ne = other_count slot i ne
make_count_elsewhere Restore slot i ne = refl
make_count_elsewhere Break slot i ne = refl

pub break_count_elsewhere : (p : Purpose) (slot i : ℕ) → slot ≢ i → break_count p slot i ≡ 0
break_count_elsewhere Make slot i ne = refl
break_count_elsewhere Restore slot i ne = refl
break_count_elsewhere Break slot i ne = other_count slot i ne

-- what waits for the slot of a current job: no making, and no break beside a making or a break
pub record WaitsBeside (ts : List WaitingJob) (p : Purpose) (i : ℕ) : Type 0 where
  pub makes : makes_waiting ts i ≡ 0
  pub breaks : breaks_waiting ts i ≤ 1
  pub alone : p ≢ Restore → breaks_waiting ts i ≡ 0

pub beside : (ts : List WaitingJob) (j : Job) (t : Stage) (s : Slot) (p : Purpose) → j.purpose ≡ p → job_for j.slot s ≡ Some j → SlotHasJobs ts (Asking j t) j.slot s → WaitsBeside ts p j.slot
beside ts j t Free p is e h = cc
beside ts j t (Making conn asked overhead) p is e h =
    let same : Make ≡ p = ap (λ (o : Option Job). purpose_or o Make) e ∙ is in
    let runs : count_of (is_make_at j j.slot) ≡ 1 = ap (λ (q : Purpose). make_count q j.slot j.slot) (is ∙ sym same) ∙ same_count j.slot in
    record { makes = omega (arith, h.makes); breaks = omega (arith, h.breaks); alone = λ _. omega (arith, h.breaks) }
beside ts j t (Established conn f) p is e h =
    let same : Break ≡ p = ap (λ (o : Option Job). purpose_or o Break) e ∙ is in
    let runs : count_of (is_break_at j j.slot) ≡ 1 = ap (λ (q : Purpose). break_count q j.slot j.slot) (is ∙ sym same) ∙ same_count j.slot in
    record { makes = omega (arith, h.makes); breaks = omega (arith, h.breaks); alone = λ _. omega (arith, h.breaks) }
beside ts j t (Restoring conn f over) p is e h =
    let same : Restore ≡ p = ap (λ (o : Option Job). purpose_or o Restore) e ∙ is in
    record { makes = omega (arith, h.makes); breaks = omega (arith, h.breaks); alone = λ ne. absurd (ne (sym same)) }
beside ts j t (Gone conn) p is e h =
    let same : Break ≡ p = ap (λ (o : Option Job). purpose_or o Break) e ∙ is in
    let runs : count_of (is_break_at j j.slot) ≡ 1 = ap (λ (q : Purpose). break_count q j.slot j.slot) (is ∙ sym same) ∙ same_count j.slot in
    record { makes = omega (arith, h.makes); breaks = omega (arith, h.breaks); alone = λ _. omega (arith, h.breaks) }

-- ---- the job is no longer current

-- nothing is current, or only an outcome
abbrev pub IsStopped : Current → Type 0
IsStopped Nothing = ⊤
IsStopped (Overtaken k o) = ⊤
IsStopped _ = ⊥

stopped : (ts : List WaitingJob) (cur : Current) (i : ℕ) (s : Slot) → IsStopped cur → SlotHasJobs ts Nothing i s → SlotHasJobs ts cur i s
stopped ts Nothing i s h r = r
stopped ts (Overtaken k o) i s h r = record { makes = r.makes; breaks = r.breaks; gone = r.gone }
stopped ts (Asking j t) i s h r = absurd h
stopped ts (Hearing j t) i s h r = absurd h

stopped_elsewhere : (ts : List WaitingJob) (j : Job) (t : Stage) (i : ℕ) (s : Slot) → j.slot ≢ i → SlotHasJobs ts (Asking j t) i s → SlotHasJobs ts Nothing i s
stopped_elsewhere ts j t i s ne h =
    let m : count_of (is_make_at j i) ≡ 0 = make_count_elsewhere j.purpose j.slot i ne in
    let b : count_of (is_break_at j i) ≡ 0 = break_count_elsewhere j.purpose j.slot i ne in
    record { makes = omega (arith, h.makes); breaks = omega (arith, h.breaks); gone = omega (arith, h.gone) }

-- its slot is one that what waits beside it goes with
abbrev pub GoesWith : List WaitingJob → Purpose → ℕ → Slot → Type 0
GoesWith ts p i Free = breaks_waiting ts i ≡ 0
GoesWith ts p i (Established conn f) = ⊤
GoesWith ts p i (Restoring conn f over) = ⊤
GoesWith ts p i (Gone conn) = 1 ≤ breaks_waiting ts i
GoesWith ts p i (Making conn asked overhead) = ⊥

stopped_here : (ts : List WaitingJob) (p : Purpose) (i : ℕ) (s : Slot) → WaitsBeside ts p i → GoesWith ts p i s → SlotHasJobs ts Nothing i s
stopped_here ts p i Free w g = record { makes = omega (arith, w.makes); breaks = omega (arith, g); gone = omega arith }
stopped_here ts p i (Established conn f) w g = record { makes = omega (arith, w.makes); breaks = omega (arith, w.breaks); gone = omega arith }
stopped_here ts p i (Restoring conn f over) w g = record { makes = omega (arith, w.makes); breaks = omega (arith, w.breaks); gone = omega arith }
stopped_here ts p i (Gone conn) w g = record { makes = omega (arith, w.makes); breaks = omega (arith, w.breaks); gone = omega (arith, g) }
stopped_here ts p i (Making conn asked overhead) w g = absurd g

-- the current job j stops, and its slot becomes s
abbrev pub after_stop : ControllerState → Job → Slot → Current → ControllerState
after_stop c j s cur = with_slot (record c { current = cur }) j.slot s

jobs_stopped : (c : ControllerState) (j : Job) (t : Stage) (s : Slot) (cur : Current) (k : ℕ) → j.slot < length c.slots → IsStopped cur → job_for j.slot (slot_at c j.slot) ≡ Some j
    → GoesWith c.waiting j.purpose j.slot s → ((i : ℕ) → SlotHasJobs c.waiting (Asking j t) i (slot_at c i)) → (k ≡ j.slot) ⊎ (k ≢ j.slot) →
    SlotHasJobs c.waiting cur k (slot_at (after_stop c j s cur) k)
jobs_stopped c j t s cur k lt stop e g h (inl is) = rw is (rw (slot_here (record c { current = cur }) j.slot s lt)
    (stopped c.waiting cur j.slot s stop (stopped_here c.waiting j.purpose j.slot s (beside c.waiting j t (slot_at c j.slot) j.purpose refl e (h j.slot)) g)))
jobs_stopped c j t s cur k lt stop e g h (inr ne) = rw (slot_elsewhere (record c { current = cur }) j.slot k s ne)
    (stopped c.waiting cur k (slot_at c k) stop (stopped_elsewhere c.waiting j t k (slot_at c k) (λ is. ne (sym is)) (h k)))

pub stop_fits : (c : ControllerState) (j : Job) (t : Stage) (s : Slot) (cur : Current) → Fits c → RunsFitting c j t → SlotFits s → IsStopped cur → CurrentFits (after_stop c j s cur) cur
    → GoesWith c.waiting j.purpose j.slot s → ((i : ℕ) → SlotHasJobs c.waiting (Asking j t) i (slot_at c i)) → Fits (after_stop c j s cur)
stop_fits c j t s cur h runs fits stop current g jobs = record {
  slots = length-set c.slots j.slot s ∙ h.slots;
  each = All-set SlotFits c.slots j.slot s fits h.each;
  waiting = h.waiting;
  few = h.few;
  current = current;
  jobs = λ k. jobs_stopped c j t s cur k (omega (arith, h.slots, runs.job.slot)) stop runs.of_slot g jobs (cases_eq k j.slot);
}

-- ---- a job ends

restores_is : (j : Job) (p : Purpose) → j.purpose ≡ p → restores j ≡ elim p as (λ _. Bool) [ Make ↦ false | Restore ↦ true | Break ↦ false ]
restores_is j p e = ap (λ (q : Purpose). elim q as (λ _. Bool) [ Make ↦ false | Restore ↦ true | Break ↦ false ]) e

-- a slot that is free or gone after the job goes with what waits
goes_ended : (c : ControllerState) (j : Job) (t : Stage) → RunsFitting c j t → SlotHasJobs c.waiting (Asking j t) j.slot (slot_at c j.slot) → (p : Purpose) → j.purpose ≡ p → (b : Bool)
    → break_waits c j.slot ≡ b →
    GoesWith c.waiting j.purpose j.slot (if restores j && b then Gone j.connection else Free)
goes_ended c j t runs h Make is b w = rw (restores_is j Make is) ((beside c.waiting j t (slot_at c j.slot) Make is runs.of_slot h).alone (λ e. cc))
goes_ended c j t runs h Break is b w = rw (restores_is j Break is) ((beside c.waiting j t (slot_at c j.slot) Break is runs.of_slot h).alone (λ e. cc))
goes_ended c j t runs h Restore is true w = rw (restores_is j Restore is) (breaks_some c.waiting j.slot w)
goes_ended c j t runs h Restore is false w = rw (restores_is j Restore is) (breaks_none c.waiting j.slot w)

fits_ended : (conn : Connection) (b : Bool) → ConnectionFits conn → SlotFits (if b then Gone conn else Free)
fits_ended conn true h = h
fits_ended conn false h = tt

pub ended_fits : (c : ControllerState) (j : Job) (t : Stage) → Fits c → RunsFitting c j t → ((i : ℕ) → SlotHasJobs c.waiting (Asking j t) i (slot_at c i)) → Fits (ended c j t)
ended_fits c j (Made f) h runs jobs = stop_fits c j (Made f) (Established j.connection f) Nothing h runs (runs.job.connection, runs.stage) tt tt tt jobs
ended_fits c j t h runs jobs = stop_fits c j t (if restores j && break_waits c j.slot then Gone j.connection else Free) Nothing h runs
    (fits_ended j.connection (restores j && break_waits c j.slot) runs.job.connection) tt tt (goes_ended c j t runs (jobs j.slot) j.purpose refl (break_waits c j.slot) refl) jobs
