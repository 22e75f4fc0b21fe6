-- What a controller is at, and whether its request is outstanding.
use Rattle.fw_cmp.proofs.Common.{◌≡◌, ℕ, Bool, true, false, IsTrue, IsFalse, List, refl, false≢true, Reply, Slot, Current, Nothing, Asking, Hearing, Overtaken, WaitingJob, Job, Stage, ControllerState}
use Rattle.fw_cmp.proofs.Common.{CurrentFits, Fits, IsHeard, IsStanding, SlotHasJobs, break_runs, slot_at, after_hear, heard, asked}
use Rattle.fw_cmp.specs.Works.{CurrentRuns, IsAsking, MayStand, shown}

-- ---- what is kept, and what it is at

pub heard_unless : (x : Current) → ((j : Job) (s : Stage) → x ≡ Hearing j s → ⊥) → IsHeard x
heard_unless Nothing ne = tt
heard_unless (Asking j s) ne = tt
heard_unless (Hearing j s) ne = absurd (ne j s refl)
heard_unless (Overtaken i o) ne = tt

pub asked_stays : (x : Current) → ((j : Job) (s : Stage) → x ≡ Asking j s → ⊥) → asked x ≡ x
asked_stays Nothing ne = refl
asked_stays (Asking j s) ne = absurd (ne j s refl)
asked_stays (Hearing j s) ne = refl
asked_stays (Overtaken i o) ne = refl

pub asking_is : (x : Current) → ((j : Job) (s : Stage) → x ≡ Asking j s → ⊥) → IsAsking x → ⊥
asking_is Nothing ne h = h
asking_is (Asking j s) ne h = ne j s refl
asking_is (Hearing j s) ne h = h
asking_is (Overtaken i o) ne h = h

-- the flag says whether a request is outstanding
pub stands_shows : (b : Bool) (x : Current) → MayStand b x → (IsTrue b → IsStanding (shown b x)) × (IsStanding (shown b x) → IsTrue b)
stands_shows true Nothing h = absurd (h.asking refl)
stands_shows true (Asking j s) h = (λ e. tt, λ e. refl)
stands_shows true (Hearing j s) h = absurd h.heard
stands_shows true (Overtaken i o) h = absurd (h.asking refl)
stands_shows false Nothing h = (λ e. absurd (false≢true e), λ e. absurd e)
stands_shows false (Asking j s) h = (λ e. absurd (false≢true e), λ e. absurd e)
stands_shows false (Hearing j s) h = absurd h.heard
stands_shows false (Overtaken i o) h = (λ e. absurd (false≢true e), λ e. absurd e)

pub heard_shows : (b : Bool) (x : Current) → MayStand b x → (IsFalse b → IsHeard (shown b x)) × (IsHeard (shown b x) → IsFalse b)
heard_shows true Nothing h = absurd (h.asking refl)
heard_shows true (Asking j s) h = (λ e. cc, λ e. absurd e)
heard_shows true (Hearing j s) h = absurd h.heard
heard_shows true (Overtaken i o) h = absurd (h.asking refl)
heard_shows false x h = (λ e. h.heard, λ e. refl)

-- if no request is outstanding, what is kept is what it is at
pub heard_kept : (b : Bool) (x : Current) → MayStand b x → IsHeard (shown b x) → x ≡ shown b x
heard_kept true Nothing h e = refl
heard_kept true (Asking j s) h e = absurd e
heard_kept true (Hearing j s) h e = refl
heard_kept true (Overtaken i o) h e = refl
heard_kept false x h e = refl

-- if a request is outstanding, it went out from what is kept
pub standing_kept : (b : Bool) (x : Current) → MayStand b x → IsStanding (shown b x) → IsAsking x × (asked x ≡ shown b x)
standing_kept true x h e = (h.asking refl, refl)
standing_kept false Nothing h e = absurd e
standing_kept false (Asking j s) h e = absurd e
standing_kept false (Hearing j s) h e = absurd h.heard
standing_kept false (Overtaken i o) h e = absurd e

-- a job whose request does not stand is kept as it is
pub asking_kept : (b : Bool) (x : Current) → IsAsking (shown b x) → IsAsking x × (x ≡ shown b x)
asking_kept true Nothing e = absurd e
asking_kept true (Asking j s) e = absurd e
asking_kept true (Hearing j s) e = absurd e
asking_kept true (Overtaken i o) e = absurd e
asking_kept false x e = (e, refl)

pub breaks_kept : (b : Bool) (x : Current) (i : ℕ) → break_runs x i ≡ break_runs (shown b x) i
breaks_kept true Nothing i = refl
breaks_kept true (Asking j s) i = refl
breaks_kept true (Hearing j s) i = refl
breaks_kept true (Overtaken k o) i = refl
breaks_kept false x i = refl

pub runs_kept : (b : Bool) (x : Current) → CurrentRuns (shown b x) → CurrentRuns x
runs_kept true Nothing h = h
runs_kept true (Asking j s) h = h
runs_kept true (Hearing j s) h = h
runs_kept true (Overtaken i o) h = h
runs_kept false x h = h

-- ---- an answer

pub heard_hears : (x : Current) (r : Reply) → IsHeard (heard x r)
heard_hears Nothing r = tt
heard_hears (Asking j s) r = tt
heard_hears (Hearing j s) r = tt
heard_hears (Overtaken i o) r = tt

-- a current job fits, which is said of it alone
pub runs_of : (c : ControllerState) (x : Current) → CurrentFits c x → CurrentRuns x
runs_of c Nothing h = tt
runs_of c (Asking j s) h = (h.job, h.stage)
runs_of c (Hearing j s) h = (h.job, h.stage)
runs_of c (Overtaken i o) h = tt

-- the job that has heard is of the same slot
heard_current : (c : ControllerState) (x : Current) (r : Reply) → CurrentFits c x → CurrentRuns (heard x r) → CurrentFits (after_hear c r) (heard x r)
heard_current c Nothing r h runs = tt
heard_current c (Asking j s) r h runs = record { of_slot = h.of_slot; job = h.job; stage = h.stage }
heard_current c (Hearing j s) r h runs = record { of_slot = h.of_slot; job = h.job; stage = runs.1 }
heard_current c (Overtaken i o) r h runs = h

heard_jobs : (ts : List WaitingJob) (x : Current) (r : Reply) (i : ℕ) (s : Slot) → SlotHasJobs ts x i s → SlotHasJobs ts (heard x r) i s
heard_jobs ts Nothing r i s h = h
heard_jobs ts (Asking j t) r i s h = h
heard_jobs ts (Hearing j t) r i s h = record { makes = h.makes; breaks = h.breaks; gone = h.gone }
heard_jobs ts (Overtaken k o) r i s h = h

pub hear_fits : (c : ControllerState) (r : Reply) → Fits c → CurrentRuns (heard c.current r) → Fits (after_hear c r)
hear_fits c r h runs = record {
  slots = h.slots;
  each = h.each;
  waiting = h.waiting;
  few = h.few;
  current = heard_current c c.current r h.current runs;
  jobs = λ i. heard_jobs c.waiting c.current r i (slot_at c i) (h.jobs i);
}
