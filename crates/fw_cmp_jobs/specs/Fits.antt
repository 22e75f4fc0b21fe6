-- What a stage keeps has passed the decisions that led to it, and has room in the registers.
use Rattle.std.specs.Prelude.{ℕ, ◌+◌, ◌-◌, ◌^◌, ◌<◌, ◌≤◌, ◌≡◌, ◌⊎◌, Option, Some, None, IsTrue, IsFalse, ⊤}
use Rattle.fw_plug.specs.Words.{is_connected}
use Rattle.fw_terms.specs.declared.plug.PlugAt.{PlugAt}
use Rattle.fw_cmp_jobs.specs.declared.connection.Connection.{Connection}
use Rattle.fw_cmp_jobs.specs.declared.connection.Connection.TheVariants.{PlugToPlug, BroadcastOut, BroadcastIn}
use Rattle.fw_cmp_jobs.specs.declared.connection.Flow.{Flow}
use Rattle.fw_cmp_jobs.specs.declared.connection.Slot.{Slot}
use Rattle.fw_cmp_jobs.specs.declared.connection.Slot.TheVariants.{Free, Making, Established, Restoring, Gone}
use Rattle.fw_cmp_jobs.specs.declared.job.HeldResources.{HeldResources}
use Rattle.fw_cmp_jobs.specs.declared.job.Job.{Job}
use Rattle.fw_cmp_jobs.specs.declared.request.Target.{Target}
use Rattle.fw_cmp_jobs.specs.declared.request.Target.TheVariants.{OutputPlug, InputPlug, Channels, BandwidthAvailable}
use Rattle.fw_cmp_jobs.specs.declared.stage.Stage.{Stage}
use Rattle.fw_cmp_jobs.specs.declared.stage.Stage.TheVariants.{Begin, ReadOutput, ReadChannels, SwapChannels, ReadBandwidth, SwapBandwidth, ConnectOutput}
use Rattle.fw_cmp_jobs.specs.declared.stage.Stage.TheVariants.{OverlayOutput, ReadInput, ConnectInput, ReadInputToLeave, LeaveInput, ReadOutputToLeave, LeaveOutput}
use Rattle.fw_cmp_jobs.specs.declared.stage.Stage.TheVariants.{ReadBandwidthToRelease, RaiseBandwidth, ReadChannelsToRelease, RestoreChannel, Made, Ended}
use Rattle.fw_cmp_jobs.specs.Connections.{kind_of, is_listen}
use Rattle.fw_cmp_jobs.specs.Plugs.{is_full, shows_connection, half_of, is_bit, remainder_of}

-- ---- numbers

-- a plug by device, 0 to 62, and number, 0 to 30
abbrev pub PlugFits : PlugAt → Type 0
PlugFits p = (p.device < 63) × (p.plug < 31)

-- the plugs of a connection are in their ranges
abbrev pub ConnectionFits : Connection → Type 0
ConnectionFits (PlugToPlug out into) = PlugFits out × PlugFits into
ConnectionFits (BroadcastOut out) = PlugFits out
ConnectionFits (BroadcastIn into) = PlugFits into

-- a flow's channel, overhead_ID and units are in their ranges
pub record FlowFits (f : Flow) : Type 0 where
  pub channel : f.channel < 64
  pub overhead : f.overhead < 16
  pub units : f.units < 2 ^ 32

-- units, if there are any, are a quadlet
abbrev pub UnitsFit : Option ℕ → Type 0
UnitsFit None = ⊤
UnitsFit (Some u) = u < 2 ^ 32

-- the asked channel, if any, is 0 to 63
abbrev pub AskedFits : Option ℕ → Type 0
AskedFits None = ⊤
AskedFits (Some ch) = ch < 64

-- what a slot holds is in its ranges
abbrev pub SlotFits : Slot → Type 0
SlotFits Free = ⊤
SlotFits (Making conn asked overhead) = ConnectionFits conn × AskedFits asked × (overhead < 16)
SlotFits (Established conn f) = ConnectionFits conn × FlowFits f
SlotFits (Restoring conn f over) = ConnectionFits conn × FlowFits f
SlotFits (Gone conn) = ConnectionFits conn

-- what a job keeps is in its ranges
pub record JobFits (j : Job) : Type 0 where
  pub slot : j.slot < 32
  pub connection : ConnectionFits j.connection
  pub asked : AskedFits j.asked
  pub overhead : j.overhead < 16
  pub units : UnitsFit j.units

-- ---- stages

-- one of the two CHANNELS_AVAILABLE registers begins with this channel
abbrev pub IsHalf : ℕ → Type 0
IsHalf base = (base ≡ 0) ⊎ (base ≡ 32)

-- the asked channel stands in the register from base on
abbrev pub AskedWithin : Option ℕ → ℕ → Type 0
AskedWithin None base = ⊤
AskedWithin (Some ch) base = (base ≤ ch) × (ch < base + 32)

-- a word of a plug with no connection
abbrev pub IsUnconnected : ℕ → Type 0
IsUnconnected w = (w < 2 ^ 32) × IsFalse (is_connected w)

-- the connection has an output plug
abbrev pub HasOutput : Connection → Type 0
HasOutput conn = IsFalse (is_listen conn)

-- the connection has an input plug
abbrev pub HasInput : Connection → Type 0
HasInput (PlugToPlug out into) = ⊤
HasInput (BroadcastOut out) = ⊥
HasInput (BroadcastIn into) = ⊤

-- a channel and units
abbrev pub ResourcesFit : ℕ → ℕ → Type 0
ResourcesFit ch u = (ch < 64) × (u < 2 ^ 32)

-- The words and numbers that a stage keeps have passed the decisions that led to it.
abbrev pub StageFits : Job → Stage → Type 0
StageFits j Begin = ⊤
StageFits j ReadOutput = HasOutput j.connection
StageFits j (ReadChannels base w) = HasOutput j.connection × IsHalf base × AskedWithin j.asked base × IsUnconnected w
StageFits j (SwapChannels ch arg w) = HasOutput j.connection × (ch < 64) × AskedWithin j.asked (half_of ch) × IsTrue (is_bit arg (ch - half_of ch)) × (arg < 2 ^ 32) × IsUnconnected w
StageFits j (ReadBandwidth ch w) = HasOutput j.connection × (ch < 64) × IsUnconnected w
StageFits j (SwapBandwidth ch u arg w) = HasOutput j.connection × (ch < 64) × (u ≤ remainder_of arg) × (arg < 2 ^ 32) × IsUnconnected w
StageFits j (ConnectOutput ch u arg) = HasOutput j.connection × ResourcesFit ch u × IsUnconnected arg
StageFits j (OverlayOutput arg) = HasOutput j.connection × (arg < 2 ^ 32) × IsTrue (is_connected arg) × IsFalse (is_full (kind_of j.connection) arg)
StageFits j (ReadInput f) = HasInput j.connection × FlowFits f
StageFits j (ConnectInput f arg) = HasInput j.connection × FlowFits f × (arg < 2 ^ 32) × IsFalse (is_full (kind_of j.connection) arg)
StageFits j (ReadInputToLeave ch u) = HasInput j.connection × ResourcesFit ch u
StageFits j (LeaveInput ch u arg) = HasInput j.connection × ResourcesFit ch u × (arg < 2 ^ 32) × IsTrue (shows_connection (kind_of j.connection) arg)
StageFits j (ReadOutputToLeave e ch u) = HasOutput j.connection × ResourcesFit ch u
StageFits j (LeaveOutput e ch u arg) = HasOutput j.connection × ResourcesFit ch u × (arg < 2 ^ 32) × IsTrue (shows_connection (kind_of j.connection) arg)
StageFits j (ReadBandwidthToRelease next ch u) = HasOutput j.connection × ResourcesFit ch u
StageFits j (RaiseBandwidth next ch u arg) = HasOutput j.connection × ResourcesFit ch u × (arg < 2 ^ 32) × (u + remainder_of arg ≤ 4915)
StageFits j (ReadChannelsToRelease next ch) = HasOutput j.connection × (ch < 64)
StageFits j (RestoreChannel next ch arg) = HasOutput j.connection × (ch < 64) × (arg < 2 ^ 32)
StageFits j (Made f) = FlowFits f
StageFits j (Ended e) = ⊤

-- what is held is of a channel
abbrev pub HeldFits : Option HeldResources → Type 0
HeldFits None = ⊤
HeldFits (Some h) = ResourcesFit h.channel h.units

-- the plug, if there is one, is in its range
abbrev pub PlugFit : Option PlugAt → Type 0
PlugFit None = ⊤
PlugFit (Some p) = PlugFits p

-- the plug of a register is one
abbrev pub TargetFits : Target → Type 0
TargetFits (OutputPlug p) = PlugFits p
TargetFits (InputPlug p) = PlugFits p
TargetFits (Channels base) = ⊤
TargetFits BandwidthAvailable = ⊤
