-- What a controller rests on that is to restore connections after a bus reset.
use Rattle.std.specs.Prelude.{ℕ, slice_get, ◌≡◌, ◌⊎◌, Bool, true, false, Some, IsTrue, IsFalse, ⊤}
use Rattle.fw_terms.specs.declared.plug.PlugAt.{PlugAt}
use Rattle.fw_model_account.specs.Account.{Account, has_connection}
use Rattle.fw_model_account.specs.Network.{is_output, is_input}
use Rattle.fw_cmp_jobs.specs.declared.connection.Connection.{Connection}
use Rattle.fw_cmp_jobs.specs.declared.connection.Flow.{Flow}
use Rattle.fw_cmp_jobs.specs.declared.connection.Slot.{Slot}
use Rattle.fw_cmp_jobs.specs.declared.connection.Slot.TheVariants.{Making, Established, Restoring, Gone}
use Rattle.fw_cmp.specs.declared.current.WaitingJob.{WaitingJob}
use Rattle.fw_cmp.specs.declared.current.Current.{Current}
use Rattle.fw_cmp.specs.declared.current.Current.TheVariants.{Nothing, Asking, Hearing, Overtaken}
use Rattle.fw_cmp_jobs.specs.declared.job.Job.{Job}
use Rattle.fw_cmp_jobs.specs.declared.job.Purpose.{Purpose}
use Rattle.fw_cmp_jobs.specs.declared.job.Purpose.TheVariants.{Make, Restore, Break}
use Rattle.fw_cmp_jobs.specs.declared.job.Then.{Then}
use Rattle.fw_cmp_jobs.specs.declared.job.Then.TheVariants.{EndsAs, Again}
use Rattle.fw_cmp_jobs.specs.declared.stage.Stage.{Stage}
use Rattle.fw_cmp_jobs.specs.declared.stage.Stage.TheVariants.{Begin, ReadOutput, ReadChannels, SwapChannels, ReadBandwidth, SwapBandwidth, ConnectOutput}
use Rattle.fw_cmp_jobs.specs.declared.stage.Stage.TheVariants.{OverlayOutput, ReadInput, ConnectInput, ReadInputToLeave, LeaveInput, ReadOutputToLeave, LeaveOutput}
use Rattle.fw_cmp_jobs.specs.declared.stage.Stage.TheVariants.{ReadBandwidthToRelease, RaiseBandwidth, ReadChannelsToRelease, RestoreChannel, Made, Ended}
use Rattle.fw_cmp_jobs.specs.Connections.{output_of, input_of, is_listen}
use Rattle.fw_cmp.specs.Controllers.{ControllerState, slot_at}
use Rattle.fw_cmp_jobs.specs.Slots.{restoring_job, is_making}
use Rattle.fw_cmp.specs.Holdings.{is_current_slot}
use Rattle.fw_model_controllers.specs.InStep.{IsFlow}
use Rattle.fw_model_controllers.specs.Registers.{has_manager}
use Rattle.fw_model_controllers.specs.Moves.{move_of}
use Rattle.fw_model_account.specs.Moves.{Move, Can, after}

-- ---- a connection and the account

-- The plugs of a connection are set to its flow: the output plug to its channel, overhead_ID and units, the input plug to
-- its channel. And there is a manager, if the connection needs one.
pub record KeepsFlow (l : Account) (conn : Connection) (f : Flow) : Type 0 where
  pub output : (p : PlugAt) → output_of conn ≡ Some p → IsFlow (l.settings p) f
  pub input : (q : PlugAt) → input_of conn ≡ Some q → l.input_channel q ≡ f.channel
  pub manager : IsFalse (is_listen conn) → IsTrue (has_manager l.latest)

-- A connection can be restored: the second runs, its plugs are on the bus and set to its flow, and its flow may be allocated
-- again.
pub record IsRestorable (l : Account) (conn : Connection) (f : Flow) : Type 0 where
  pub second : IsTrue l.reclaiming
  pub keeps : KeepsFlow l conn f
  pub listed : (p : PlugAt) → output_of conn ≡ Some p → l.reclaimable f.channel ≡ Some (record { plug = p; units = f.units })
  pub output : (p : PlugAt) → output_of conn ≡ Some p → IsTrue (is_output l.latest p)
  pub input : (q : PlugAt) → input_of conn ≡ Some q → IsTrue (is_input l.latest q)

-- ---- the current job

-- a job is for what its slot holds
abbrev pub MatchesFor : Purpose → Job → Slot → Type 0
MatchesFor Make j slot = slot ≡ Making j.connection j.asked j.overhead
MatchesFor Restore j slot = (f : Flow) × (over : Bool) × (slot ≡ Restoring j.connection f over) × (j ≡ restoring_job j.slot j.connection f)
MatchesFor Break j slot = ((f : Flow) × (slot ≡ Established j.connection f)) ⊎ (slot ≡ Gone j.connection)

-- A restoring on its course to the connection with this flow. It gives nothing back, and it has not ended in any other way.
abbrev pub IsOnCourse : Flow → Stage → Type 0
IsOnCourse f Begin = ⊤
IsOnCourse f ReadOutput = ⊤
IsOnCourse f (ReadChannels base w) = ⊤
IsOnCourse f (SwapChannels ch arg w) = ch ≡ f.channel
IsOnCourse f (ReadBandwidth ch w) = ch ≡ f.channel
IsOnCourse f (SwapBandwidth ch u arg w) = (ch ≡ f.channel) × (u ≡ f.units)
IsOnCourse f (ConnectOutput ch u arg) = (ch ≡ f.channel) × (u ≡ f.units)
IsOnCourse f (OverlayOutput arg) = ⊤
IsOnCourse f (ReadInput g) = g ≡ f
IsOnCourse f (ConnectInput g arg) = g ≡ f
IsOnCourse f (Made g) = g ≡ f
IsOnCourse f _ = ⊥

-- how the job ends is decided
abbrev pub is_ended : Stage → Bool
is_ended (Ended e) = true
is_ended _ = false

-- the job has not begun, or how it ends is decided
abbrev pub is_still : Stage → Bool
is_still Begin = true
is_still (Ended e) = true
is_still _ = false

-- the job ends once all is given back
abbrev pub is_final : Then → Bool
is_final (EndsAs e) = true
is_final Again = false

-- the stages of a break
abbrev pub is_leaving : Stage → Bool
is_leaving (ReadInputToLeave ch u) = true
is_leaving (LeaveInput ch u arg) = true
is_leaving (ReadOutputToLeave e ch u) = true
is_leaving (LeaveOutput e ch u arg) = true
is_leaving (ReadBandwidthToRelease next ch u) = is_final next
is_leaving (RaiseBandwidth next ch u arg) = is_final next
is_leaving (ReadChannelsToRelease next ch) = is_final next
is_leaving (RestoreChannel next ch arg) = is_final next
is_leaving (Ended e) = true
is_leaving _ = false

-- What a job does while a reclaim second runs: it restores a connection in its slot's own second, or breaks one, or nothing.
abbrev pub CourseFor : Purpose → Slot → Stage → Type 0
CourseFor Make slot s = IsTrue (is_ended s)
CourseFor Restore (Restoring conn f false) s = IsOnCourse f s
CourseFor Restore (Restoring conn f true) s = IsTrue (is_still s)
CourseFor Restore _ s = ⊥
CourseFor Break slot s = IsTrue (is_leaving s)

-- the current job is for what its slot holds
abbrev pub CurrentMatches : ControllerState → Current → Type 0
CurrentMatches c Nothing = ⊤
CurrentMatches c (Asking j s) = MatchesFor j.purpose j (slot_at c j.slot)
CurrentMatches c (Hearing j s) = MatchesFor j.purpose j (slot_at c j.slot)
CurrentMatches c (Overtaken i o) = ⊤

-- the current job does what it may while a reclaim second runs
abbrev pub CurrentCourse : ControllerState → Current → Type 0
CurrentCourse c Nothing = ⊤
CurrentCourse c (Asking j s) = CourseFor j.purpose (slot_at c j.slot) s
CurrentCourse c (Hearing j s) = CourseFor j.purpose (slot_at c j.slot) s
CurrentCourse c (Overtaken i o) = ⊤

-- ---- a controller

-- What a controller has to have for its connections to come back: their plugs are set to their flows, and its job is on its course.
pub record Restores (l : Account) (c : ControllerState) : Type 0 where
  pub matches : CurrentMatches c c.current
  pub standing : (i : ℕ) (conn : Connection) (f : Flow) → slot_at c i ≡ Established conn f → is_current_slot c.current i ≡ false → KeepsFlow l conn f
  pub restoring : (i : ℕ) (conn : Connection) (f : Flow) → slot_at c i ≡ Restoring conn f false → IsRestorable l conn f
  pub course : IsTrue l.reclaiming → CurrentCourse c c.current

-- ---- changes of the account

-- What a change of the account leaves to all controllers: a connected plug keeps what it is set to, and in a reclaim second
-- each plug does; the second goes on, with the same flows, on the same bus.
pub record LeavesPlugs (l m : Account) : Type 0 where
  pub settings : (q : PlugAt) → (has_connection (l.outputs q) ≡ true) ⊎ (l.reclaiming ≡ true) → m.settings q ≡ l.settings q
  pub channels : (q : PlugAt) → (has_connection (l.inputs q) ≡ true) ⊎ (l.reclaiming ≡ true) → m.input_channel q ≡ l.input_channel q
  pub latest : m.latest ≡ l.latest
  pub reclaiming : m.reclaiming ≡ l.reclaiming
  pub reclaimable : (ch : ℕ) → m.reclaimable ch ≡ l.reclaimable ch

-- The answer to a request of controller c, whose job is at this stage, changed the account from l to m: not at all, or by the
-- move of the stage.
pub data Carries (l : Account) (c : ℕ) (j : Job) (s : Stage) (m : Account) : Type 0 where
  Unchanged : m ≡ l → Carries l c j s m
  Moved : (p : PlugAt) → (move : Move) → move_of j s ≡ Some (p, move) → Can c p move l → m ≡ after c p move l → Carries l c j s m

-- ---- waiting jobs

-- a break does not wait for a connection that is being made
abbrev pub BreaksFit : ControllerState → Type 0
BreaksFit c = (k : ℕ) (t : WaitingJob) → slice_get c.waiting k ≡ Some t → t.breaks ≡ true → is_making (slot_at c t.slot) ≡ false
