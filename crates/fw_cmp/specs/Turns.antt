-- How a job ends; and a controller's turn with its job at hand: it sends the next request, ends or has nothing to do.
use Rattle.std.specs.Prelude.{ℕ, ◌&&◌, Bool, true, false, Option, Some, None, List, if◌then◌else◌}
use Rattle.fw_cmp_jobs.specs.declared.connection.Slot.{Slot}
use Rattle.fw_cmp_jobs.specs.declared.connection.Slot.TheVariants.{Free, Established, Gone}
use Rattle.fw_cmp.specs.declared.current.Current.TheVariants.{Nothing, Asking, Hearing, Overtaken}
use Rattle.fw_cmp_jobs.specs.declared.directory.Directory.{Directory}
use Rattle.fw_cmp.specs.declared.current.WaitingJob.{WaitingJob}
use Rattle.fw_cmp_jobs.specs.declared.job.Job.{Job}
use Rattle.fw_cmp.specs.declared.outcome.Next.{Next}
use Rattle.fw_cmp.specs.declared.outcome.Next.TheVariants.{Send, End, Idle, Waiting, Deaf, Force}
use Rattle.fw_cmp_jobs.specs.declared.request.Access.{Access}
use Rattle.fw_cmp_jobs.specs.declared.stage.Stage.{Stage}
use Rattle.fw_cmp_jobs.specs.declared.stage.Stage.TheVariants.{Made}
use Rattle.fw_cmp_jobs.specs.Decisions.{restores}
use Rattle.fw_cmp_jobs.specs.Requests.{access_of, request_of, addressee_of}
use Rattle.fw_cmp_jobs.specs.Jobs.{outcome_of}
use Rattle.fw_cmp.specs.Controllers.{ControllerState, with_slot, break_waits}
use Rattle.fw_cmp.specs.Jobs.{is_empty, ready}

-- ---- how a job ends

-- the slot of a job that has ended: the connection stands, or it is gone, and the slot free once no break of it waits
abbrev pub slot_after : ControllerState → Job → Stage → Slot
slot_after c j (Made f) = Established j.connection f
slot_after c j _ = if restores j && break_waits c j.slot then Gone j.connection else Free

-- the controller after a job that has ended
abbrev pub ended : ControllerState → Job → Stage → ControllerState
ended c j s = with_slot (record c { current = Nothing }) j.slot (slot_after c j s)

-- ---- the turn

-- a request without an addressee does not come about, if the directory is one at which the controller can go on
abbrev pub sending : Option ℕ → Access → Next
sending None a = Send 63 (request_of a)
sending (Some to) a = Send to (request_of a)

-- a job sends the request of its stage, or ends if the stage makes none
abbrev pub asks_or_ends : ℕ → Directory → Job → Stage → Option Access → Next
asks_or_ends now d j s None = End j.slot (outcome_of now j s)
asks_or_ends now d j s (Some a) = sending (addressee_of d a.target) a

-- a controller with no current job is idle, or waits for the end of the reclaim second
abbrev pub rests : Directory → List WaitingJob → Next
rests d waiting = if is_empty waiting then Idle else Waiting d.over_at

-- what a controller with its job at hand does: it sends, ends, waits or is idle
abbrev pub answer_of : ℕ → Directory → ControllerState → Next
answer_of now d c = elim c.current [
  | Nothing ↦ rests d c.waiting
  | Asking j s ↦ asks_or_ends now d j s (access_of j s)
  | Hearing j s ↦ Idle
  | Overtaken i o ↦ End i o
]

-- the controller after its request went out, or its job ended
abbrev pub after_asking : ControllerState → Job → Stage → Option Access → ControllerState
after_asking c j s None = ended c j s
after_asking c j s (Some a) = record c { current = Hearing j s }

-- the controller after its turn
abbrev pub after_answer : ControllerState → ControllerState
after_answer c = elim c.current [
  | Nothing ↦ c
  | Asking j s ↦ after_asking c j s (access_of j s)
  | Hearing j s ↦ c
  | Overtaken i o ↦ record c { current = Nothing }
]

-- what a controller does next, in this cycle
abbrev pub next : ℕ → Directory → ControllerState → Next
next now d c = answer_of now d (ready now d c)

-- the controller after its turn in this cycle
abbrev pub after_next : ℕ → Directory → ControllerState → ControllerState
after_next now d c = after_answer (ready now d c)

-- the node that a request goes to
abbrev pub addressee_in : Next → Option ℕ
addressee_in (Send to r) = Some to
addressee_in _ = None

-- a turn in which the controller sends, ends a job or has lost a response
abbrev pub is_busy : Next → Bool
is_busy (Send to r) = true
is_busy (End i o) = true
is_busy Idle = false
is_busy (Waiting until) = false
is_busy (Deaf until) = true
is_busy Force = true
