-- What a job that restores a connection in its own second never ends by: want of units, and another channel at its output plug.
use Rattle.std.specs.Prelude.{Bool, true, false, not, IsTrue, IsFalse, ⊤}
use Rattle.fw_cmp_jobs.specs.declared.connection.Slot.{Slot}
use Rattle.fw_cmp_jobs.specs.declared.connection.Slot.TheVariants.{Restoring}
use Rattle.fw_cmp.specs.declared.current.Current.{Current}
use Rattle.fw_cmp.specs.declared.current.Current.TheVariants.{Nothing, Asking, Hearing, Overtaken}
use Rattle.fw_cmp.specs.Controllers.{ControllerState, slot_at}
use Rattle.fw_cmp_jobs.specs.declared.job.Ending.{Ending}
use Rattle.fw_cmp_jobs.specs.declared.job.Ending.TheVariants.{NoUnits, Late}
use Rattle.fw_cmp_jobs.specs.declared.outcome.Outcome.{Outcome}
use Rattle.fw_cmp_jobs.specs.declared.outcome.Outcome.TheVariants as outcome
use Rattle.fw_cmp_jobs.specs.declared.job.Then.{Then}
use Rattle.fw_cmp_jobs.specs.declared.job.Then.TheVariants.{EndsAs, Again}
use Rattle.fw_cmp_jobs.specs.declared.stage.Stage.{Stage}
use Rattle.fw_cmp_jobs.specs.declared.stage.Stage.TheVariants.{ReadOutputToLeave, LeaveOutput, ReadBandwidthToRelease, RaiseBandwidth, ReadChannelsToRelease, RestoreChannel, Ended}

-- a job ends for want of units, or comes too late
abbrev pub is_want : Ending → Bool
is_want (NoUnits left) = true
is_want Late = true
is_want _ = false

-- a job is to end so once it has given back what it holds
abbrev pub leads_to_want : Then → Bool
leads_to_want (EndsAs e) = is_want e
leads_to_want Again = false

-- an outcome for want of units, or of a restoring that came too late
abbrev pub is_want_outcome : Outcome → Bool
is_want_outcome (outcome.NoUnits left) = true
is_want_outcome (outcome.Late now) = true
is_want_outcome _ = false

-- the job has ended so, or ends so once it has given back what it holds
abbrev pub wants : Stage → Bool
wants (ReadOutputToLeave e ch u) = is_want e
wants (LeaveOutput e ch u arg) = is_want e
wants (ReadBandwidthToRelease next ch u) = leads_to_want next
wants (RaiseBandwidth next ch u arg) = leads_to_want next
wants (ReadChannelsToRelease next ch) = leads_to_want next
wants (RestoreChannel next ch arg) = leads_to_want next
wants (Ended e) = is_want e
wants _ = false

-- a connection that is to be restored, whose own second runs
abbrev pub is_own : Slot → Bool
is_own (Restoring conn f over) = not over
is_own _ = false

-- a restoring whose own second runs has not come to that, and no outcome that is still to be told is that
abbrev pub IsContent : ControllerState → Current → Type 0
IsContent c Nothing = ⊤
IsContent c (Asking j s) = IsTrue (is_own (slot_at c j.slot)) → IsFalse (wants s)
IsContent c (Hearing j s) = IsTrue (is_own (slot_at c j.slot)) → IsFalse (wants s)
IsContent c (Overtaken i o) = IsFalse (is_want_outcome o)
