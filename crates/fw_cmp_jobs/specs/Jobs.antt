-- How a job begins, when a restoring comes too late, and how a job ends.
use Rattle.std.specs.Prelude.{ℕ, ◌&&◌, Bool, true, false, Option, Some, None, if◌then◌else◌}
use Rattle.fw_terms.specs.declared.plug.PlugAt.{PlugAt}
use Rattle.fw_cmp_jobs.specs.declared.connection.Connection.{Connection}
use Rattle.fw_cmp_jobs.specs.declared.connection.Connection.TheVariants.{PlugToPlug, BroadcastOut, BroadcastIn}
use Rattle.fw_cmp_jobs.specs.declared.connection.Flow.{Flow}
use Rattle.fw_cmp_jobs.specs.declared.connection.Slot.{Slot}
use Rattle.fw_cmp_jobs.specs.declared.connection.Slot.TheVariants.{Established, Restoring}
use Rattle.fw_cmp_jobs.specs.declared.directory.Directory.{Directory}
use Rattle.fw_cmp_jobs.specs.declared.job.Job.{Job}
use Rattle.fw_cmp_jobs.specs.declared.job.Purpose.TheVariants.{Make, Restore, Break}
use Rattle.fw_cmp_jobs.specs.declared.job.Ending.{Ending}
use Rattle.fw_cmp_jobs.specs.declared.job.Ending.TheVariants as ending
use Rattle.fw_cmp_jobs.specs.declared.outcome.Outcome.{Outcome}
use Rattle.fw_cmp_jobs.specs.declared.outcome.Outcome.TheVariants as outcome
use Rattle.fw_cmp_jobs.specs.declared.stage.Stage.{Stage}
use Rattle.fw_cmp_jobs.specs.declared.stage.Stage.TheVariants.{Begin, ReadOutput, ReadChannels, SwapChannels, OverlayOutput, ReadInput, ConnectInput, ReadInputToLeave, ReadOutputToLeave, Made, Ended}
use Rattle.fw_cmp_jobs.specs.Connections.{output_of, input_of, is_listen}
use Rattle.fw_cmp_jobs.specs.Decisions.{restores, channel_or, units_or}
use Rattle.fw_cmp_jobs.specs.Nodes.{node_of}

-- ---- how a job begins

-- the flow that a job asks for, channel 63 if it asks for none
abbrev pub own_flow : Job → Flow
own_flow j = record { channel = channel_or j.asked 63; overhead = j.overhead; units = units_or j.units 0 }

-- the device of a plug, if it is not on the bus
abbrev pub without_node : Directory → Option PlugAt → Option ℕ
without_node d None = None
without_node d (Some p) = elim (node_of d p.device) [ None ↦ Some p.device | Some n ↦ None ]

-- the first of the output plug's and the input plug's device that is not on the bus
abbrev pub absent_of : Directory → Connection → Option ℕ
absent_of d conn = elim (without_node d (output_of conn)) [ Some device ↦ Some device | None ↦ without_node d (input_of conn) ]

-- a job that needs the isochronous resource manager begins, or ends if the bus has none
abbrev pub begin_managed : Option ℕ → Stage
begin_managed None = Ended ending.NoManager
begin_managed (Some n) = ReadOutput

-- a job whose devices are on the bus begins at its first plug
abbrev pub begin_present : Directory → Job → Stage
begin_present d j = if is_listen j.connection then ReadInput (own_flow j) else begin_managed d.manager

-- a connection is made, or made again
abbrev pub begin_making : Directory → Job → Stage
begin_making d j = elim (absent_of d j.connection) [ Some device ↦ Ended (ending.Absent device) | None ↦ begin_present d j ]

-- a connection that stands leaves its input plug first, then its output plug
abbrev pub begin_leaving : Connection → Flow → Stage
begin_leaving (PlugToPlug out into) f = ReadInputToLeave f.channel f.units
begin_leaving (BroadcastOut out) f = ReadOutputToLeave ending.Broken f.channel f.units
begin_leaving (BroadcastIn into) f = ReadInputToLeave f.channel f.units

-- a break of a connection that is gone ends without a request
abbrev pub begin_breaking : Slot → Stage
begin_breaking (Established conn f) = begin_leaving conn f
begin_breaking _ = Ended ending.Broken

-- the first stage of a job, by its purpose
abbrev pub begin : Directory → Slot → Job → Stage
begin d slot j = elim j.purpose [ Make ↦ begin_making d j | Restore ↦ begin_making d j | Break ↦ begin_breaking slot ]

-- the stage from which the job goes on
abbrev pub begun : Directory → Slot → Job → Stage → Stage
begun d slot j Begin = begin d slot j
begun d slot j s = s

-- ---- a restoring that comes too late

-- the job holds no channel and stands at no plug, and no answer has decided its outcome
abbrev pub is_undecided : Job → Stage → Bool
is_undecided j Begin = true
is_undecided j ReadOutput = true
is_undecided j (ReadChannels base w) = true
is_undecided j (SwapChannels ch arg w) = true
is_undecided j (OverlayOutput arg) = true
is_undecided j (ReadInput f) = is_listen j.connection
is_undecided j (ConnectInput f arg) = is_listen j.connection
is_undecided j _ = false

-- the slot's own second is over: the reclaim second that runs from the reset at which it was to be restored
abbrev pub is_over : Slot → Bool
is_over (Restoring conn f over) = over
is_over _ = false

-- a restoring whose slot's own second is over, and which has come to nothing yet, is too late
abbrev pub is_late : Slot → Job → Stage → Bool
is_late slot j s = restores j && (is_over slot && is_undecided j s)

-- the stage at which a job goes on; a restoring that is too late ends
abbrev pub resumed : Directory → Slot → Job → Stage → Stage
resumed d slot j s = if is_late slot j s then Ended ending.Late else begun d slot j s

-- ---- how a job ends

-- the outcome that the log names for how a job ended
abbrev pub outcome_for : ℕ → Ending → Outcome
outcome_for now ending.Broken = outcome.Broken
outcome_for now (ending.NoChannel w) = outcome.NoChannel w
outcome_for now (ending.NoUnits left) = outcome.NoUnits left
outcome_for now (ending.PlugFull w) = outcome.PlugFull w
outcome_for now (ending.InputBusy w) = outcome.InputBusy w
outcome_for now (ending.NoPlug rcode) = outcome.NoPlug rcode
outcome_for now ending.NoManager = outcome.NoManager
outcome_for now (ending.Absent device) = outcome.Absent device
outcome_for now ending.Late = outcome.Late now

-- the outcome of a connection that was made, or restored
abbrev pub made_outcome : Job → Flow → Outcome
made_outcome j f = if restores j then outcome.Restored f.channel else outcome.Connected f.channel

-- the outcome of a stage that makes no request
abbrev pub outcome_of : ℕ → Job → Stage → Outcome
outcome_of now j (Made f) = made_outcome j f
outcome_of now j (Ended e) = outcome_for now e
outcome_of now j _ = outcome.Broken
