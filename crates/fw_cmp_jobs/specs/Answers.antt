-- What it comes to that an answer decides how a job ends.
use Rattle.std.specs.Prelude.{ℕ, ◌-◌, ◌<◌, ◌≡◌, ◌≢◌, ◌⊎◌, true, false, Option, Some, None, ⊤}
use Rattle.fw_csr.specs.declared.reply.Reply.{Reply}
use Rattle.fw_plug.specs.Words.{is_connected}
use Rattle.fw_cmp_jobs.specs.declared.connection.Flow.{Flow}
use Rattle.fw_cmp_jobs.specs.declared.job.Job.{Job}
use Rattle.fw_cmp_jobs.specs.declared.job.Ending.{Ending}
use Rattle.fw_cmp_jobs.specs.declared.job.Ending.TheVariants.{Broken, NoChannel, NoUnits, PlugFull, InputBusy, NoPlug, NoManager, Absent, Late}
use Rattle.fw_cmp_jobs.specs.declared.job.Then.{Then}
use Rattle.fw_cmp_jobs.specs.declared.job.Then.TheVariants.{EndsAs, Again}
use Rattle.fw_cmp_jobs.specs.declared.stage.Stage.{Stage}
use Rattle.fw_cmp_jobs.specs.declared.stage.Stage.TheVariants.{ReadOutput, ReadChannels, SwapChannels, ReadBandwidth, SwapBandwidth, ConnectOutput, OverlayOutput, ReadInput, ConnectInput}
use Rattle.fw_cmp_jobs.specs.declared.stage.Stage.TheVariants.{ReadInputToLeave}
use Rattle.fw_cmp_jobs.specs.declared.stage.Stage.TheVariants.{LeaveInput, ReadOutputToLeave, LeaveOutput, ReadBandwidthToRelease, RaiseBandwidth, ReadChannelsToRelease, RestoreChannel, Ended}
use Rattle.fw_cmp_jobs.specs.Connections.{kind_of, is_listen}
use Rattle.fw_cmp_jobs.specs.Decisions.{restores, is_lost, needs}
use Rattle.fw_cmp_jobs.specs.Plugs.{has_broadcast, counter_of, channel_of, is_full, half_of, is_bit, remainder_of}

-- ---- how a job is to end, as far as it is decided

-- the end that a job comes to once what it holds is given back; none if it begins again
abbrev pub ending_of : Then → Option Ending
ending_of (EndsAs e) = Some e
ending_of Again = None

-- a break is to end Broken from its first stage on
abbrev pub decision_of : Stage → Option Ending
decision_of (ReadInputToLeave ch u) = Some Broken
decision_of (LeaveInput ch u arg) = Some Broken
decision_of (ReadOutputToLeave e ch u) = Some e
decision_of (LeaveOutput e ch u arg) = Some e
decision_of (ReadBandwidthToRelease next ch u) = ending_of next
decision_of (RaiseBandwidth next ch u arg) = ending_of next
decision_of (ReadChannelsToRelease next ch) = ending_of next
decision_of (RestoreChannel next ch arg) = ending_of next
decision_of (Ended e) = Some e
decision_of _ = None

-- ---- what the word of a complete answer shows

-- the asked channel taken, or after the first register the second one without a free channel
abbrev pub ShowsNoChannel : Job → Option ℕ → ℕ → ℕ → Type 0
ShowsNoChannel j (Some ch) base w = (restores j ≡ false) × (is_bit w (ch - base) ≡ false)
ShowsNoChannel j None base w = (base ≢ 0) × ((i : ℕ) → i < 32 → is_bit w i ≡ false)

-- a connection on another channel than the job's, or for a broadcast-in connection the broadcast bit
abbrev pub ShowsBusy : Job → Flow → ℕ → Type 0
ShowsBusy j f w = ((is_listen j.connection ≡ true) × (has_broadcast w ≡ true)) ⊎ ((is_listen j.connection ≡ false) × (is_connected w ≡ true) × (channel_of w ≢ f.channel))

-- the word of the output plug is full, or shows that a restoring has come too late
abbrev pub DecidesOutput : Job → ℕ → Ending → Type 0
DecidesOutput j w (PlugFull word) = (word ≡ w) × (is_full (kind_of j.connection) w ≡ true)
DecidesOutput j w Late = (is_connected w ≡ true) × (is_lost j w ≡ true)
DecidesOutput j w _ = ⊥

-- the word of a CHANNELS_AVAILABLE register has no channel for the job
abbrev pub DecidesChannel : Job → ℕ → ℕ → Ending → Type 0
DecidesChannel j base w (NoChannel word) = (word ≡ w) × ShowsNoChannel j j.asked base w
DecidesChannel j base w _ = ⊥

-- the word of BANDWIDTH_AVAILABLE has fewer units than the job needs
abbrev pub DecidesUnits : Job → ℕ → ℕ → Ending → Type 0
DecidesUnits j plug w (NoUnits left) = (left ≡ remainder_of w) × (left < needs j plug)
DecidesUnits j plug w _ = ⊥

-- the word of the input plug shows it busy, or its counter at 63
abbrev pub DecidesInput : Job → Flow → ℕ → Ending → Type 0
DecidesInput j f w (InputBusy word) = (word ≡ w) × ShowsBusy j f w
DecidesInput j f w (PlugFull word) = (word ≡ w) × (is_listen j.connection ≡ false) × (counter_of w ≡ 63)
DecidesInput j f w _ = ⊥

-- the word decides, by what the stage asked for, that the job ends so
abbrev pub Decides : Job → Stage → ℕ → Ending → Type 0
Decides j ReadOutput w e = DecidesOutput j w e
Decides j (ReadChannels base plug) w e = DecidesChannel j base w e
Decides j (SwapChannels ch arg plug) w e = DecidesChannel j (half_of ch) w e
Decides j (ReadBandwidth ch plug) w e = DecidesUnits j plug w e
Decides j (SwapBandwidth ch u arg plug) w e = DecidesUnits j plug w e
Decides j (ConnectOutput ch u arg) w e = DecidesOutput j w e
Decides j (OverlayOutput arg) w e = DecidesOutput j w e
Decides j (ReadInput f) w e = DecidesInput j f w e
Decides j (ConnectInput f arg) w e = DecidesInput j f w e
Decides j _ w e = ⊥

-- the response code of an answer that is not complete
abbrev pub Refuses : ℕ → Ending → Type 0
Refuses rcode (NoPlug shown) = shown ≡ rcode
Refuses rcode _ = ⊥

-- the answer decides that the job ends so
abbrev pub DecidedBy : Job → Stage → Reply → Ending → Type 0
DecidedBy j s r e = ((r.rcode ≡ 0) × Decides j s r.value e) ⊎ ((r.rcode ≢ 0) × Refuses r.rcode e)

-- ---- decisions between calls

-- answers decide so; that there is no manager, or no such device, the directory decides, as a job begins
abbrev pub IsOfAnswers : Ending → Type 0
IsOfAnswers NoManager = ⊥
IsOfAnswers (Absent device) = ⊥
IsOfAnswers _ = ⊤
