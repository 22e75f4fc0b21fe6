-- Which job comes next, and from which stage it goes on.
use Rattle.std.specs.Prelude.{ℕ, ◌&&◌, ◌||◌, nat_lt, not, is_some, slice_index_or, Bool, true, false, Option, Some, None, List, [], ◌∷◌, slice_get, remove, position, if◌then◌else◌}
use Rattle.fw_terms.specs.Tables.{find_to}
use Rattle.fw_cmp_jobs.specs.declared.connection.Slot.{Slot}
use Rattle.fw_cmp_jobs.specs.declared.connection.Slot.TheVariants.{Free}
use Rattle.fw_cmp.specs.declared.current.Current.{Current}
use Rattle.fw_cmp.specs.declared.current.Current.TheVariants.{Nothing, Asking, Hearing, Overtaken}
use Rattle.fw_cmp_jobs.specs.declared.directory.Directory.{Directory}
use Rattle.fw_cmp.specs.declared.current.WaitingJob.{WaitingJob}
use Rattle.fw_cmp_jobs.specs.declared.job.Job.{Job}
use Rattle.fw_cmp_jobs.specs.declared.stage.Stage.TheVariants.{Begin}
use Rattle.fw_cmp_jobs.specs.Jobs.{resumed}
use Rattle.fw_cmp.specs.Controllers.{ControllerState, slot_at}
use Rattle.fw_cmp_jobs.specs.Slots.{is_restoring, job_for}

-- ---- the order of jobs: connections to be restored, lowest slot first; then the first waiting break; then the first other
-- waiting job, if no reclaim second runs

-- a job that has become current, at its beginning
abbrev pub job_current : Option Job → Current
job_current None = Nothing
job_current (Some j) = Asking j Begin

-- the job for what a slot holds becomes current
abbrev pub current_for : ℕ → Slot → Current
current_for i s = job_current (job_for i s)

-- the job of a slot becomes current
abbrev pub takes_slot : ControllerState → ℕ → ControllerState
takes_slot c i = record c { current = current_for i (slot_at c i) }

-- the slot of a waiting job
abbrev pub slot_of_task : Option WaitingJob → ℕ
slot_of_task None = 0
slot_of_task (Some t) = t.slot

-- the waiting job at a place becomes current
abbrev pub takes_task : ControllerState → ℕ → ControllerState
takes_task c k = takes_slot (record c { waiting = remove c.waiting k }) (slot_of_task (slice_get c.waiting k))

-- the lowest slot whose connection is to be restored
abbrev pub to_restore : ControllerState → Option ℕ
to_restore c = find_to 32 (λ i. is_restoring (slot_at c i))

-- a waiting job is a break
abbrev pub is_break : WaitingJob → Bool
is_break t = t.breaks

-- the place of the first break that waits
abbrev pub waiting_break : ControllerState → Option ℕ
waiting_break c = position is_break c.waiting

-- no job waits
abbrev pub is_empty : List WaitingJob → Bool
is_empty [] = true
is_empty (t ∷ ts) = false

-- a new connection is not begun while a reclaim second runs
abbrev pub takes_making : ℕ → Directory → ControllerState → ControllerState
takes_making now d c = if is_empty c.waiting then c else (if nat_lt now d.over_at then c else takes_task c 0)

-- a waiting break becomes current, or else another waiting job
abbrev pub takes_waiting : Option ℕ → ℕ → Directory → ControllerState → ControllerState
takes_waiting (Some k) now d c = takes_task c k
takes_waiting None now d c = takes_making now d c

-- a connection that is to be restored becomes current, or else a waiting job
abbrev pub takes_next : Option ℕ → ℕ → Directory → ControllerState → ControllerState
takes_next (Some i) now d c = takes_slot c i
takes_next None now d c = takes_waiting (waiting_break c) now d c

-- a job is to be had: a connection to be restored, a waiting break, or another waiting job if no reclaim second runs
abbrev pub can_pick : ℕ → Directory → List Slot → List WaitingJob → Bool
can_pick now d slots waiting = is_some (find_to 32 (λ i. is_restoring (slice_index_or slots i Free))) || is_some (position is_break waiting) || (not (is_empty waiting) && not (nat_lt now d.over_at))

-- the controller with a current job, if there is one to be had
abbrev pub picked : ℕ → Directory → ControllerState → ControllerState
picked now d c = elim c.current [
  | Nothing ↦ takes_next (to_restore c) now d c
  | Asking j s ↦ c
  | Hearing j s ↦ c
  | Overtaken i o ↦ c
]

-- ---- the stage from which the current job goes on

-- what the controller is at as it answers
abbrev pub resumed_current : ControllerState → Directory → Current → Current
resumed_current c d Nothing = Nothing
resumed_current c d (Asking j s) = Asking j (resumed d (slot_at c j.slot) j s)
resumed_current c d (Hearing j s) = Hearing j s
resumed_current c d (Overtaken i o) = Overtaken i o

-- the controller with its current job at the stage from which it goes on
abbrev pub going : Directory → ControllerState → ControllerState
going d c = record c { current = resumed_current c d c.current }

-- the controller as it takes its turn: with a job, if one is to be had, at the stage from which it goes on
abbrev pub ready : ℕ → Directory → ControllerState → ControllerState
ready now d c = going d (picked now d c)
