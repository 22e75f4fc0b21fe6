-- A controller as contracts see it: its slots, the waiting jobs and the current one.
use Rattle.std.specs.Prelude.{ℕ, ◌+◌, ◌<◌, ◌≤◌, ◌≡◌, ◌==◌, ◌&&◌, ◌||◌, not, if◌then◌else◌, Bool, false}
use Rattle.std.specs.Prelude.{Some, List, [], length, slice_index_or, slice_set, sum_by, replicate, All, ⊤}
use Rattle.std.specs.List.{list_any}
use Rattle.fw_cmp_jobs.specs.declared.connection.Slot.{Slot}
use Rattle.fw_cmp_jobs.specs.declared.connection.Slot.TheVariants.{Free}
use Rattle.fw_cmp_jobs.specs.declared.job.Job.{Job}
use Rattle.fw_cmp_jobs.specs.declared.stage.Stage.{Stage}
use Rattle.fw_cmp.specs.declared.current.WaitingJob.{WaitingJob}
use Rattle.fw_cmp.specs.declared.current.Current.{Current}
use Rattle.fw_cmp.specs.declared.current.Current.TheVariants.{Nothing, Asking, Hearing, Overtaken}
use Rattle.fw_cmp_jobs.specs.Fits.{SlotFits, JobFits, StageFits}
use Rattle.fw_cmp_jobs.specs.Slots.{is_making, is_gone, is_breakable, is_make_at, is_break_at, job_for}

-- what a controller keeps: 32 slots for connections, the jobs that wait, in their order, and the current one
pub record ControllerState : Type 0 where
  pub slots : List Slot
  pub waiting : List WaitingJob
  pub current : Current

-- 32 free slots, and nothing to do
abbrev pub first_state : ControllerState
first_state = record { slots = replicate 32 Free; waiting = []; current = Nothing }

-- ---- slots

-- the slot of this number; one beyond the 32 reads as free
abbrev pub slot_at : ControllerState → ℕ → Slot
slot_at c i = slice_index_or c.slots i Free

-- the controller with something else in one slot
abbrev pub with_slot : ControllerState → ℕ → Slot → ControllerState
with_slot c i s = record c { slots = slice_set c.slots i s }

-- ---- jobs

-- a waiting job breaks the connection of the slot
abbrev pub breaks_slot : ℕ → WaitingJob → Bool
breaks_slot i t = t.breaks && (t.slot == i)

-- a break of the slot waits
abbrev pub break_waits : ControllerState → ℕ → Bool
break_waits c i = list_any (breaks_slot i) c.waiting

-- no request is outstanding
abbrev pub IsHeard : Current → Type 0
IsHeard (Hearing j s) = ⊥
IsHeard _ = ⊤

-- a request is outstanding
abbrev pub IsStanding : Current → Type 0
IsStanding (Hearing j s) = ⊤
IsStanding _ = ⊥

-- ---- the jobs of a slot

-- 1 for a fact that holds, and 0 for one that does not
abbrev pub count_of : Bool → ℕ
count_of b = if b then 1 else 0

-- a waiting job makes the connection of the slot
abbrev pub makes_slot : ℕ → WaitingJob → Bool
makes_slot i t = not t.breaks && (t.slot == i)

-- how many waiting jobs make the connection of a slot
abbrev pub makes_waiting : List WaitingJob → ℕ → ℕ
makes_waiting ts i = sum_by (λ t. count_of (makes_slot i t)) ts

-- how many waiting jobs break the connection of a slot
abbrev pub breaks_waiting : List WaitingJob → ℕ → ℕ
breaks_waiting ts i = sum_by (λ t. count_of (breaks_slot i t)) ts

-- the current job makes the connection of a slot
abbrev pub make_runs : Current → ℕ → Bool
make_runs Nothing i = false
make_runs (Asking j s) i = is_make_at j i
make_runs (Hearing j s) i = is_make_at j i
make_runs (Overtaken k o) i = false

-- the current job breaks the connection of a slot
abbrev pub break_runs : Current → ℕ → Bool
break_runs Nothing i = false
break_runs (Asking j s) i = is_break_at j i
break_runs (Hearing j s) i = is_break_at j i
break_runs (Overtaken k o) i = false

-- A slot has exactly one job that makes its connection while that is being made, and at most one that breaks it, only if
-- there is a connection, and surely if it is gone.
pub record SlotHasJobs (waiting : List WaitingJob) (current : Current) (i : ℕ) (s : Slot) : Type 0 where
  pub makes : makes_waiting waiting i + count_of (make_runs current i) ≡ count_of (is_making s)
  pub breaks : breaks_waiting waiting i + count_of (break_runs current i) ≤ count_of (is_breakable s || is_gone s)
  pub gone : count_of (is_gone s) ≤ breaks_waiting waiting i + count_of (break_runs current i)

-- ---- what holds at all times

-- a job is the one for what its slot holds
abbrev pub IsOfSlot : ControllerState → Job → Type 0
IsOfSlot c j = job_for j.slot (slot_at c j.slot) ≡ Some j

-- a current job is the one for its slot, and its numbers and those of its stage are in their ranges
pub record RunsFitting (c : ControllerState) (j : Job) (s : Stage) : Type 0 where
  pub of_slot : IsOfSlot c j
  pub job : JobFits j
  pub stage : StageFits j s

-- what a controller is at is in its ranges
abbrev pub CurrentFits : ControllerState → Current → Type 0
CurrentFits c Nothing = ⊤
CurrentFits c (Asking j s) = RunsFitting c j s
CurrentFits c (Hearing j s) = RunsFitting c j s
CurrentFits c (Overtaken i o) = i < 32

-- What holds of a controller at all times: 32 slots, at most eight waiting jobs, and each number in the range of its field.
pub record Fits (c : ControllerState) : Type 0 where
  pub slots : length c.slots ≡ 32
  pub each : All SlotFits c.slots
  pub waiting : All (λ t. t.slot < 32) c.waiting
  pub few : length c.waiting ≤ 8
  pub current : CurrentFits c c.current
  pub jobs : (i : ℕ) → SlotHasJobs c.waiting c.current i (slot_at c i)
