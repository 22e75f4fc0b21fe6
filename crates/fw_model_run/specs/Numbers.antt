-- The numbers that a state of a run keeps fit the fields of what is written of them.
use Rattle.std.specs.Prelude.{ℕ, ◌<◌, ◌^◌, ◌≡◌, Some, IsTrue, ⊤}
use Rattle.fw_cmp.specs.declared.current.Current.{Current}
use Rattle.fw_cmp.specs.declared.current.Current.TheVariants.{Nothing, Asking, Hearing, Overtaken}
use Rattle.fw_cmp_jobs.specs.declared.job.Ending.{Ending}
use Rattle.fw_cmp_jobs.specs.declared.job.Ending.TheVariants.{NoChannel, NoUnits, PlugFull, InputBusy, NoPlug, Absent}
use Rattle.fw_cmp_jobs.specs.declared.job.Then.{Then}
use Rattle.fw_cmp_jobs.specs.declared.job.Then.TheVariants.{EndsAs, Again}
use Rattle.fw_cmp_jobs.specs.declared.stage.Stage.{Stage}
use Rattle.fw_cmp_jobs.specs.declared.stage.Stage.TheVariants.{ReadOutputToLeave, LeaveOutput, Made, Ended}
use Rattle.fw_cmp_jobs.specs.declared.stage.Stage.TheVariants.{ReadBandwidthToRelease, RaiseBandwidth, ReadChannelsToRelease, RestoreChannel}
use Rattle.fw_order.specs.declared.order.Transaction.{Transaction}
use Rattle.fw_model_run.specs.Entries.{coded}
use Rattle.fw_model_run.specs.State.{State, is_linked}

-- the value that an outcome shows is a quadlet
abbrev pub EndingShows : Ending → Type 0
EndingShows (NoChannel word) = word < 2 ^ 32
EndingShows (NoUnits remainder) = remainder < 2 ^ 32
EndingShows (PlugFull word) = word < 2 ^ 32
EndingShows (InputBusy word) = word < 2 ^ 32
EndingShows (NoPlug rcode) = rcode < 2 ^ 32
EndingShows (Absent device) = device < 2 ^ 32
EndingShows _ = ⊤

-- so is the value of the end that a job comes to once all is given back
abbrev pub ThenShows : Then → Type 0
ThenShows (EndsAs e) = EndingShows e
ThenShows Again = ⊤

-- so is the value with which a stage ends its job, or is to end it
abbrev pub StageShows : Stage → Type 0
StageShows (ReadOutputToLeave e ch u) = EndingShows e
StageShows (LeaveOutput e ch u arg) = EndingShows e
StageShows (ReadBandwidthToRelease next ch u) = ThenShows next
StageShows (RaiseBandwidth next ch u arg) = ThenShows next
StageShows (ReadChannelsToRelease next ch) = ThenShows next
StageShows (RestoreChannel next ch arg) = ThenShows next
StageShows (Made f) = f.channel < 2 ^ 32
StageShows (Ended e) = EndingShows e
StageShows _ = ⊤

-- so is the value of the outcome that a controller is to write
abbrev pub CurrentShows : Current → Type 0
CurrentShows Nothing = ⊤
CurrentShows (Asking j s) = StageShows s
CurrentShows (Hearing j s) = StageShows s
CurrentShows (Overtaken i o) = (coded o).1 < 2 ^ 32

-- The outcomes that controllers are to write show quadlets, BUS_MANAGER_ID is one, and a transaction that waits is at a node with
-- a link.
pub record HasNumbers (s : State) : Type 0 where
  pub shows : (d : ℕ) → CurrentShows (s.controllers d).current
  pub bus_manager_id : s.bus_manager_id < 2 ^ 32
  pub asks : (x : Transaction) → s.transaction ≡ Some x → IsTrue (is_linked s x.to)
