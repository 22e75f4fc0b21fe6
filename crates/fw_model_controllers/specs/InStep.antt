-- A job at a stage, in step with the account.
use Rattle.std.specs.Prelude.{ℕ, ◌+◌, ◌≡◌, ◌<◌, ◌&&◌, ◌||◌, ◌⊎◌, Bool, true, false, Option, Some, None, is_some, IsTrue, IsFalse, ⊤}
use Rattle.fw_terms.specs.declared.plug.PlugAt.{PlugAt}
use Rattle.fw_words.specs.declared.swap.Swap.{Swap}
use Rattle.fw_csr.specs.declared.reply.Reply.{Reply}
use Rattle.fw_plug.specs.Words.{Settings, units_of, is_connected}
use Rattle.fw_model_account.specs.Account.{Account}
use Rattle.fw_model_account.specs.Network.{is_output, is_input}
use Rattle.fw_model_account.specs.Decode.{IsMove}
use Rattle.fw_model_account.specs.Moves.{Move}
use Rattle.fw_model_account.specs.Words.{Register, BandwidthAvailable, ChannelsAvailable, OutputPlug, InputPlug}
use Rattle.fw_cmp_jobs.specs.declared.connection.Flow.{Flow}
use Rattle.fw_cmp_jobs.specs.declared.job.Job.{Job}
use Rattle.fw_cmp_jobs.specs.declared.job.HeldResources.{HeldResources}
use Rattle.fw_cmp_jobs.specs.declared.job.Then.{Then}
use Rattle.fw_cmp_jobs.specs.declared.job.Then.TheVariants.{EndsAs, Again}
use Rattle.fw_cmp_jobs.specs.declared.stage.Stage.{Stage}
use Rattle.fw_cmp_jobs.specs.declared.stage.Stage.TheVariants.{Begin, ReadOutput, ReadChannels, SwapChannels, ReadBandwidth, SwapBandwidth, ConnectOutput}
use Rattle.fw_cmp_jobs.specs.declared.stage.Stage.TheVariants.{OverlayOutput, ReadInput, ConnectInput, ReadInputToLeave, LeaveInput, ReadOutputToLeave, LeaveOutput}
use Rattle.fw_cmp_jobs.specs.declared.stage.Stage.TheVariants.{ReadBandwidthToRelease, RaiseBandwidth, ReadChannelsToRelease, RestoreChannel, Made, Ended}
use Rattle.fw_cmp_jobs.specs.declared.request.Target.{Target}
use Rattle.fw_cmp_jobs.specs.Connections.{output_of, input_of, is_listen}
use Rattle.fw_cmp_jobs.specs.Plugs.{channel_of}
use Rattle.fw_cmp_jobs.specs.Decisions.{restores, needs, is_other}
use Rattle.fw_cmp_jobs.specs.Stages.{hear_reply}
use Rattle.fw_cmp_jobs.specs.Requests.{swap_of}
use Rattle.fw_cmp.specs.Holdings.{pending_of, job_outputs, job_inputs}
use Rattle.fw_model_controllers.specs.Holding.{Reservation, Holding, Counts, Holds}
use Rattle.fw_model_controllers.specs.Registers.{register_at, has_manager, succeeds}
use Rattle.fw_model_controllers.specs.Moves.{move_of, carried_out}

-- ---- what the controller has

-- the connections that it has beside those of its current job
pub record Others : Type 0 where
  pub outputs : Counts
  pub inputs : Counts

-- what is allocated for the output plug of a job and stands at no plug
abbrev pub reservation : Option PlugAt → Option HeldResources → Option Reservation
reservation plug None = None
reservation None (Some h) = None
reservation (Some p) (Some h) = Some (record { plug = p; channel = h.channel; units = h.units })

-- what a controller has while its job is at a stage
abbrev pub holding : Job → Stage → Others → Holding
holding j s others = record {
  reserved = reservation (output_of j.connection) (pending_of s);
  outputs = λ kind q. others.outputs kind q + job_outputs j s kind q;
  inputs = λ kind q. others.inputs kind q + job_inputs j s kind q;
}

-- ---- what a stage knows

-- the units at a data rate, with an overhead_ID
abbrev pub units_at : ℕ → ℕ → ℕ
units_at rate overhead = units_of (record { channel = 0; rate = rate; overhead = overhead })

-- the words and units that a stage keeps, if its output plug has this data rate
abbrev pub Knows : ℕ → Job → Stage → Type 0
Knows rate j (ReadChannels base w) = needs j w ≡ units_at rate j.overhead
Knows rate j (SwapChannels ch arg w) = IsFalse (is_other j.asked ch) × (needs j w ≡ units_at rate j.overhead)
Knows rate j (ReadBandwidth ch w) = IsFalse (is_other j.asked ch) × (needs j w ≡ units_at rate j.overhead)
Knows rate j (SwapBandwidth ch u arg w) = IsFalse (is_other j.asked ch) × (needs j w ≡ units_at rate j.overhead) × (u ≡ units_at rate j.overhead)
Knows rate j (ConnectOutput ch u arg) = u ≡ units_at rate j.overhead
Knows rate j (ReadBandwidthToRelease next ch u) = 0 < u
Knows rate j (RaiseBandwidth next ch u arg) = 0 < u
Knows rate j _ = ⊤

-- the connection goes on with the channel that a connected input plug has
abbrev pub KnowsInput : Stage → Type 0
KnowsInput (ConnectInput f arg) = IsTrue (is_connected arg) → channel_of arg ≡ f.channel
KnowsInput _ = ⊤

-- channel, overhead_ID and units of an output plug
pub record IsFlow (k : Settings) (f : Flow) : Type 0 where
  pub channel : k.channel ≡ f.channel
  pub overhead : k.overhead ≡ f.overhead
  pub units : units_of k ≡ f.units

-- a job that has its connection at its output plug knows what the plug is set to
abbrev pub KnowsFlow : Settings → Stage → Type 0
KnowsFlow k (ReadInput f) = IsFlow k f
KnowsFlow k (ConnectInput f arg) = IsFlow k f
KnowsFlow k (ReadInputToLeave ch u) = (k.channel ≡ ch) × (units_of k ≡ u)
KnowsFlow k (LeaveInput ch u arg) = (k.channel ≡ ch) × (units_of k ≡ u)
KnowsFlow k (ReadOutputToLeave e ch u) = (k.channel ≡ ch) × (units_of k ≡ u)
KnowsFlow k (LeaveOutput e ch u arg) = (k.channel ≡ ch) × (units_of k ≡ u)
KnowsFlow k (Made f) = IsFlow k f
KnowsFlow k _ = ⊤

-- a connection that is made has the channel of its input plug
abbrev pub KnowsChannel : ℕ → Stage → Type 0
KnowsChannel ch (Made f) = ch ≡ f.channel
KnowsChannel ch _ = ⊤

-- ---- what a stage rests on

-- the job may still allocate a channel or units
abbrev pub again : Then → Bool
again (EndsAs e) = false
again Again = true

-- the job is at a stage from which it may still allocate a channel or units
abbrev pub allocates : Stage → Bool
allocates ReadOutput = true
allocates (ReadChannels base w) = true
allocates (SwapChannels ch arg w) = true
allocates (ReadBandwidth ch w) = true
allocates (SwapBandwidth ch u arg w) = true
allocates (ConnectOutput ch u arg) = true
allocates (OverlayOutput arg) = true
allocates (ReadBandwidthToRelease next ch u) = again next
allocates (RaiseBandwidth next ch u arg) = again next
allocates (ReadChannelsToRelease next ch) = again next
allocates (RestoreChannel next ch arg) = again next
allocates _ = false

-- in a reclaim second a job that may allocate restores a flow that talked before the reset: it asks for the flow's channel,
-- and takes its units
abbrev pub MayReclaim : Account → PlugAt → Job → Type 0
MayReclaim l p j = (ch : ℕ) × (j.asked ≡ Some ch) × (l.reclaimable ch ≡ Some (record { plug = p; units = units_at (l.settings p).rate j.overhead }))

-- the output plug's register was read since the job began
abbrev pub sees : Stage → Bool
sees (ReadChannels base w) = true
sees (SwapChannels ch arg w) = true
sees (ReadBandwidth ch w) = true
sees (SwapBandwidth ch u arg w) = true
sees (ConnectOutput ch u arg) = true
sees (OverlayOutput arg) = true
sees (LeaveOutput e ch u arg) = true
sees _ = false

-- the output plug's register is asked for the first time
abbrev pub looks : Stage → Bool
looks ReadOutput = true
looks (ReadOutputToLeave e ch u) = true
looks _ = false

-- the input plug's register was read since the job began
abbrev pub sees_input : Stage → Bool
sees_input (ConnectInput f arg) = true
sees_input _ = false

-- a request at the input plug
abbrev pub is_input_stage : Stage → Bool
is_input_stage (ReadInput f) = true
is_input_stage (ConnectInput f arg) = true
is_input_stage (ReadInputToLeave ch u) = true
is_input_stage (LeaveInput ch u arg) = true
is_input_stage _ = false

-- the job has begun and has not ended without a connection
abbrev pub works : Stage → Bool
works Begin = false
works (Ended e) = false
works _ = true

-- only a restoring waits to begin again
abbrev pub IsFresh : Job → Stage → Type 0
IsFresh j Begin = IsTrue (restores j)
IsFresh j _ = ⊤

-- ---- in step

-- Controller c, whose job is at this stage, with its request standing or not, has exactly what the stage says beside its
-- other connections; and the stage's words and numbers are those of the account.
pub record IsInStep (l : Account) (c : ℕ) (j : Job) (s : Stage) (waits : Bool) (others : Others) : Type 0 where
  pub holds : Holds l c (holding j s others)
  pub knows : (p : PlugAt) → output_of j.connection ≡ Some p → Knows (l.settings p).rate j s
  pub knows_flow : (p : PlugAt) → output_of j.connection ≡ Some p → KnowsFlow (l.settings p) s
  pub knows_channel : (q : PlugAt) → input_of j.connection ≡ Some q → KnowsChannel (l.input_channel q) s
  pub knows_input : KnowsInput s
  pub fresh : IsFresh j s
  pub plugs : IsTrue (is_input_stage s) → IsTrue (is_some (input_of j.connection))
  pub units : (p : PlugAt) (u : ℕ) → output_of j.connection ≡ Some p → j.units ≡ Some u → u ≡ units_at (l.settings p).rate j.overhead
  pub reclaims : (p : PlugAt) → output_of j.connection ≡ Some p → IsTrue l.reclaiming → IsTrue (allocates s) → MayReclaim l p j
  pub addressed : (p : PlugAt) → output_of j.connection ≡ Some p → IsTrue (sees s || (waits && looks s)) → l.addressed c ≡ Some p
  pub found : (p : PlugAt) → output_of j.connection ≡ Some p → IsTrue (sees s) → IsTrue (is_output l.latest p)
  pub found_input : (q : PlugAt) → input_of j.connection ≡ Some q → IsTrue (sees_input s) → IsTrue (is_input l.latest q)
  pub manager : IsFalse (is_listen j.connection) → IsTrue (works s) → IsTrue (has_manager l.latest)

-- ---- a half step that has a request carried out

-- the swap of a stage, if it succeeds, is a move of its register from word to word
pub record SwapIsMove (l : Account) (c : ℕ) (t : Target) (s : Swap) (m : Option (PlugAt × Move)) : Type 0 where
  pub plug : PlugAt
  pub move : Move
  pub move_is : m ≡ Some (plug, move)
  pub is_move : IsMove c plug move (register_at t) s.argument s.new l

-- the answer to the request of a stage: a swap that succeeds is a move, and the controller stays in step
pub record HalfStep (l : Account) (c : ℕ) (j : Job) (s : Stage) (others : Others) (t : Target) (r : Reply) : Type 0 where
  pub moves : (swap : Swap) → swap_of j s ≡ Some swap → IsTrue (succeeds (Some swap) r) → SwapIsMove l c t swap (move_of j s)
  pub step : IsInStep (carried_out c j s r l) c j (hear_reply j s r) false others

-- a register of the bus: each of the two CHANNELS_AVAILABLE registers begins with channel 0 or 32
abbrev pub IsRegister : Register → Type 0
IsRegister BandwidthAvailable = ⊤
IsRegister (ChannelsAvailable base) = (base ≡ 0) ⊎ (base ≡ 32)
IsRegister (OutputPlug p) = ⊤
IsRegister (InputPlug p) = ⊤
