-- What a controller holds: channel and units of its current job, and its connections at plugs; and what it wants.
use Rattle.std.specs.Prelude.{ℕ, ◌+◌, ◌==◌, ◌&&◌, not, Bool, true, false, Option, Some, None, ◌≡◌, ⊤, IsFalse, IsSome}
use Rattle.fw_terms.specs.Tables.{same_plug, sum_to}
use Rattle.fw_terms.specs.declared.plug.ConnectionKind.{ConnectionKind}
use Rattle.fw_terms.specs.declared.plug.ConnectionKind.TheVariants.{PointToPoint, Broadcast}
use Rattle.fw_terms.specs.declared.plug.PlugAt.{PlugAt}
use Rattle.fw_cmp_jobs.specs.declared.connection.Connection.{Connection}
use Rattle.fw_cmp_jobs.specs.declared.connection.Flow.{Flow}
use Rattle.fw_cmp_jobs.specs.declared.connection.Slot.{Slot}
use Rattle.fw_cmp_jobs.specs.declared.connection.Slot.TheVariants.{Established, Restoring}
use Rattle.fw_cmp.specs.declared.current.Current.{Current}
use Rattle.fw_cmp.specs.declared.current.Current.TheVariants.{Nothing, Asking, Hearing, Overtaken}
use Rattle.fw_cmp_jobs.specs.declared.directory.Directory.{Directory}
use Rattle.fw_cmp_jobs.specs.declared.job.HeldResources.{HeldResources}
use Rattle.fw_cmp_jobs.specs.declared.job.Job.{Job}
use Rattle.fw_cmp_jobs.specs.declared.stage.Stage.{Stage}
use Rattle.fw_cmp_jobs.specs.declared.stage.Stage.TheVariants.{Begin, SwapChannels, ReadBandwidth, SwapBandwidth, ConnectOutput, ReadInput, ConnectInput, ReadInputToLeave, LeaveInput}
use Rattle.fw_cmp_jobs.specs.declared.stage.Stage.TheVariants.{ReadOutputToLeave, LeaveOutput, ReadBandwidthToRelease, RaiseBandwidth, ReadChannelsToRelease, RestoreChannel, Made, Ended}
use Rattle.fw_cmp_jobs.specs.Connections.{kind_of, output_of, input_of, is_listen}
use Rattle.fw_cmp_jobs.specs.Nodes.{node_of}
use Rattle.fw_cmp.specs.Controllers.{ControllerState, slot_at, count_of}

-- ---- channel and units that are allocated and at no plug yet, or no more

-- the channel and the units that a job holds at a stage without a connection at its output plug
abbrev pub pending_of : Stage → Option HeldResources
pending_of (ReadBandwidth ch w) = Some (record { channel = ch; units = 0 })
pending_of (SwapBandwidth ch u arg w) = Some (record { channel = ch; units = 0 })
pending_of (ConnectOutput ch u arg) = Some (record { channel = ch; units = u })
pending_of (ReadBandwidthToRelease next ch u) = Some (record { channel = ch; units = u })
pending_of (RaiseBandwidth next ch u arg) = Some (record { channel = ch; units = u })
pending_of (ReadChannelsToRelease next ch) = Some (record { channel = ch; units = 0 })
pending_of (RestoreChannel next ch arg) = Some (record { channel = ch; units = 0 })
pending_of _ = None

-- the channel and the units that a controller holds without a connection, by its current job
abbrev pub pending_at : Current → Option HeldResources
pending_at Nothing = None
pending_at (Asking j s) = pending_of s
pending_at (Hearing j s) = pending_of s
pending_at (Overtaken i o) = None

-- the output plug that a current job allocates for
abbrev pub addressed_by : Current → Option PlugAt
addressed_by Nothing = None
addressed_by (Asking j s) = output_of j.connection
addressed_by (Hearing j s) = output_of j.connection
addressed_by (Overtaken i o) = None

-- ---- connections at plugs

-- the job's connection stands at its output plug, if it has one
abbrev pub is_at_output : Stage → Bool
is_at_output (ReadInput f) = true
is_at_output (ConnectInput f arg) = true
is_at_output (ReadInputToLeave ch u) = true
is_at_output (LeaveInput ch u arg) = true
is_at_output (ReadOutputToLeave e ch u) = true
is_at_output (LeaveOutput e ch u arg) = true
is_at_output (Made f) = true
is_at_output _ = false

-- the job's connection stands at its input plug, if it has one
abbrev pub is_at_input : Stage → Bool
is_at_input (ReadInputToLeave ch u) = true
is_at_input (LeaveInput ch u arg) = true
is_at_input (Made f) = true
is_at_input _ = false

-- the connection has a plug there, and it is this one
abbrev pub is_plug : Option PlugAt → PlugAt → Bool
is_plug None q = false
is_plug (Some p) q = same_plug q p

-- two connections are of one kind
abbrev pub same_kind : ConnectionKind → ConnectionKind → Bool
same_kind PointToPoint PointToPoint = true
same_kind PointToPoint Broadcast = false
same_kind Broadcast PointToPoint = false
same_kind Broadcast Broadcast = true

-- a connection of this kind has this output plug
abbrev pub has_output : Connection → ConnectionKind → PlugAt → Bool
has_output conn kind q = is_plug (output_of conn) q && same_kind kind (kind_of conn)

-- a connection of this kind has this input plug
abbrev pub has_input : Connection → ConnectionKind → PlugAt → Bool
has_input conn kind q = is_plug (input_of conn) q && same_kind kind (kind_of conn)

-- the slot of the current job, whose connection is where the job's stage says
abbrev pub is_current_slot : Current → ℕ → Bool
is_current_slot Nothing i = false
is_current_slot (Asking j s) i = j.slot == i
is_current_slot (Hearing j s) i = j.slot == i
is_current_slot (Overtaken k o) i = false

-- the connection of a slot stands, and has this output plug
abbrev pub stands_at_output : Slot → ConnectionKind → PlugAt → Bool
stands_at_output (Established conn f) kind q = has_output conn kind q
stands_at_output _ kind q = false

-- the connection of a slot stands, and has this input plug
abbrev pub stands_at_input : Slot → ConnectionKind → PlugAt → Bool
stands_at_input (Established conn f) kind q = has_input conn kind q
stands_at_input _ kind q = false

-- the connections of the slots but the current one, of a kind at an output plug
abbrev pub slot_outputs : ControllerState → ConnectionKind → PlugAt → ℕ
slot_outputs c kind q = sum_to 32 (λ i. count_of (not (is_current_slot c.current i) && stands_at_output (slot_at c i) kind q))

-- the connections of the slots but the current one, of a kind at an input plug
abbrev pub slot_inputs : ControllerState → ConnectionKind → PlugAt → ℕ
slot_inputs c kind q = sum_to 32 (λ i. count_of (not (is_current_slot c.current i) && stands_at_input (slot_at c i) kind q))

-- how many connections the current job has, of a kind at an output plug
abbrev pub job_outputs : Job → Stage → ConnectionKind → PlugAt → ℕ
job_outputs j s kind q = count_of (is_at_output s && has_output j.connection kind q)

-- how many connections the current job has, of a kind at an input plug
abbrev pub job_inputs : Job → Stage → ConnectionKind → PlugAt → ℕ
job_inputs j s kind q = count_of (is_at_input s && has_input j.connection kind q)

-- how many connections the current job has at an output plug, 0 if there is none
abbrev pub current_outputs : Current → ConnectionKind → PlugAt → ℕ
current_outputs Nothing kind q = 0
current_outputs (Asking j s) kind q = job_outputs j s kind q
current_outputs (Hearing j s) kind q = job_outputs j s kind q
current_outputs (Overtaken i o) kind q = 0

-- how many connections the current job has at an input plug, 0 if there is none
abbrev pub current_inputs : Current → ConnectionKind → PlugAt → ℕ
current_inputs Nothing kind q = 0
current_inputs (Asking j s) kind q = job_inputs j s kind q
current_inputs (Hearing j s) kind q = job_inputs j s kind q
current_inputs (Overtaken i o) kind q = 0

-- the connections that a controller has, of a kind at an output plug
abbrev pub outputs_held : ControllerState → ConnectionKind → PlugAt → ℕ
outputs_held c kind q = slot_outputs c kind q + current_outputs c.current kind q

-- the connections that a controller has, of a kind at an input plug
abbrev pub inputs_held : ControllerState → ConnectionKind → PlugAt → ℕ
inputs_held c kind q = slot_inputs c kind q + current_inputs c.current kind q

-- ---- what a controller wants

-- the channel that a stage is to take, or has taken
abbrev pub wanted : Stage → Option ℕ
wanted (SwapChannels ch arg w) = Some ch
wanted (ReadBandwidth ch w) = Some ch
wanted (SwapBandwidth ch u arg w) = Some ch
wanted _ = None

-- a connection is to be restored at this output plug, while its slot's own second runs
abbrev pub reclaims_output : Slot → ConnectionKind → PlugAt → Bool
reclaims_output (Restoring conn f over) kind q = not over && has_output conn kind q
reclaims_output _ kind q = false

-- a connection is to be restored at this input plug, while its slot's own second runs
abbrev pub reclaims_input : Slot → ConnectionKind → PlugAt → Bool
reclaims_input (Restoring conn f over) kind q = not over && has_input conn kind q
reclaims_input _ kind q = false

-- the connection of a slot stands at its output plug already, as far as its current job has come
abbrev pub is_back_at_output : Current → ℕ → Bool
is_back_at_output Nothing i = false
is_back_at_output (Asking j s) i = (j.slot == i) && is_at_output s
is_back_at_output (Hearing j s) i = (j.slot == i) && is_at_output s
is_back_at_output (Overtaken k o) i = false

-- the connection of a slot stands at its input plug already, as far as its current job has come
abbrev pub is_back_at_input : Current → ℕ → Bool
is_back_at_input Nothing i = false
is_back_at_input (Asking j s) i = (j.slot == i) && is_at_input s
is_back_at_input (Hearing j s) i = (j.slot == i) && is_at_input s
is_back_at_input (Overtaken k o) i = false

-- how many connections of a kind are still to come back at an output plug, in their slots' own second
abbrev pub outputs_wanted : ControllerState → ConnectionKind → PlugAt → ℕ
outputs_wanted c kind q = sum_to 32 (λ i. count_of (not (is_back_at_output c.current i) && reclaims_output (slot_at c i) kind q))

-- how many connections of a kind are still to come back at an input plug, in their slots' own second
abbrev pub inputs_wanted : ControllerState → ConnectionKind → PlugAt → ℕ
inputs_wanted c kind q = sum_to 32 (λ i. count_of (not (is_back_at_input c.current i) && reclaims_input (slot_at c i) kind q))

-- ---- the bus that a controller goes on at

-- the devices of a connection's plugs are on the bus, and it has a manager unless none is asked
pub record IsReached (d : Directory) (conn : Connection) : Type 0 where
  pub output : (p : PlugAt) → output_of conn ≡ Some p → IsSome (node_of d p.device)
  pub input : (p : PlugAt) → input_of conn ≡ Some p → IsSome (node_of d p.device)
  pub manager : IsFalse (is_listen conn) → IsSome d.manager

-- the plugs of a job that has begun and not ended are on the bus
abbrev pub StageReached : Directory → Job → Stage → Type 0
StageReached d j Begin = ⊤
StageReached d j (Ended e) = ⊤
StageReached d j _ = IsReached d j.connection

-- the plugs of the current job, once it has begun, are on the bus
abbrev pub CurrentReached : Directory → Current → Type 0
CurrentReached d Nothing = ⊤
CurrentReached d (Asking j s) = StageReached d j s
CurrentReached d (Hearing j s) = StageReached d j s
CurrentReached d (Overtaken i o) = ⊤

-- The connections that stand, and the one that is being made or broken, are those of devices on this bus. This holds of each
-- directory after a bus reset, and goes on to hold of the one directory that the controller is given until the next.
pub record CanGoOn (d : Directory) (c : ControllerState) : Type 0 where
  pub standing : (i : ℕ) (conn : Connection) (f : Flow) → slot_at c i ≡ Established conn f → IsReached d conn
  pub current : CurrentReached d c.current
