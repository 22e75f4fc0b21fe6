-- What an answer, a bus reset and the end of the reclaim second do to a controller.
use Rattle.std.specs.Prelude.{ℕ, Bool, true, false, map}
use Rattle.fw_csr.specs.declared.reply.Reply.{Reply}
use Rattle.fw_cmp_jobs.specs.declared.connection.Slot.TheVariants.{Free, Restoring, Gone}
use Rattle.fw_cmp.specs.declared.current.Current.{Current}
use Rattle.fw_cmp.specs.declared.current.Current.TheVariants.{Nothing, Asking, Hearing, Overtaken}
use Rattle.fw_cmp_jobs.specs.declared.job.Job.{Job}
use Rattle.fw_cmp_jobs.specs.declared.job.Purpose.TheVariants.{Make, Restore, Break}
use Rattle.fw_cmp_jobs.specs.declared.outcome.Outcome.TheVariants.{Reset}
use Rattle.fw_cmp_jobs.specs.declared.stage.Stage.{Stage}
use Rattle.fw_cmp_jobs.specs.declared.stage.Stage.TheVariants.{Begin, Made, Ended}
use Rattle.fw_cmp_jobs.specs.Stages.{hear_reply}
use Rattle.fw_cmp_jobs.specs.Slots.{slot_reset, slot_over}
use Rattle.fw_cmp_jobs.specs.Jobs.{made_outcome}
use Rattle.fw_cmp.specs.Controllers.{ControllerState, with_slot}

-- ---- an answer to the outstanding request

-- the current job after the answer to its request
abbrev pub heard : Current → Reply → Current
heard Nothing r = Nothing
heard (Asking j s) r = Asking j s
heard (Hearing j s) r = Asking j (hear_reply j s r)
heard (Overtaken i o) r = Overtaken i o

-- the controller after the answer to its request
abbrev pub after_hear : ControllerState → Reply → ControllerState
after_hear c r = record c { current = heard c.current r }

-- ---- a bus reset

-- a job that no answer has decided: a restoring begins again, and another ends with the new epoch, its slot being free
abbrev pub interrupted : ℕ → ControllerState → Job → ControllerState
interrupted epoch c j = elim j.purpose [
  | Make ↦ with_slot (record c { current = Overtaken j.slot (Reset epoch) }) j.slot Free
  | Restore ↦ record c { current = Asking j Begin }
  | Break ↦ with_slot (record c { current = Overtaken j.slot (Reset epoch) }) j.slot Free
]

-- a job that is decided ends as it is decided; the connection of a break is gone
abbrev pub decided : ControllerState → Job → ControllerState
decided c j = elim j.purpose [
  | Make ↦ c
  | Restore ↦ c
  | Break ↦ with_slot c j.slot (Gone j.connection)
]

-- a connection that is made is to be restored from this reset on
abbrev pub overtaken : ℕ → ControllerState → Job → Stage → ControllerState
overtaken epoch c j (Made f) = with_slot (record c { current = Overtaken j.slot (made_outcome j f) }) j.slot (Restoring j.connection f false)
overtaken epoch c j (Ended e) = decided c j
overtaken epoch c j _ = interrupted epoch c j

-- the controller after a bus reset, by its current job
abbrev pub current_reset : ℕ → ControllerState → Current → ControllerState
current_reset epoch c Nothing = c
current_reset epoch c (Asking j s) = overtaken epoch c j s
current_reset epoch c (Hearing j s) = overtaken epoch c j s
current_reset epoch c (Overtaken i o) = c

-- the controller with each connection that stands to be restored
abbrev pub slots_reset : ControllerState → ControllerState
slots_reset c = record c { slots = map slot_reset c.slots }

-- the controller after a bus reset that found it with no response lost
abbrev pub after_reset : ℕ → ControllerState → ControllerState
after_reset epoch c = slots_reset (current_reset epoch c c.current)

-- The same if the response to the request was lost: its job counts as one whose answer was not heard, so it is not decided.
abbrev pub lost_reset : ℕ → ControllerState → Current → ControllerState
lost_reset epoch c Nothing = c
lost_reset epoch c (Asking j s) = interrupted epoch c j
lost_reset epoch c (Hearing j s) = interrupted epoch c j
lost_reset epoch c (Overtaken i o) = c

-- the controller after a bus reset that found it with a response lost
abbrev pub after_lost_reset : ℕ → ControllerState → ControllerState
after_lost_reset epoch c = slots_reset (lost_reset epoch c c.current)

-- a bus reset, by whether the response was lost
abbrev pub state_reset : ℕ → Bool → ControllerState → ControllerState
state_reset epoch true c = after_lost_reset epoch c
state_reset epoch false c = after_reset epoch c

-- ---- the end of the reclaim second

-- the controller after the end of the reclaim second
abbrev pub after_second : ControllerState → ControllerState
after_second c = record c { slots = map slot_over c.slots }
