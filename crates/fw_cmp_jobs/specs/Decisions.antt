-- What a word that an answer shows means for a job: the decisions of a connection controller (IEC 61883-1, connection management).
use Rattle.std.specs.Prelude.{ℕ, ◌+◌, ◌-◌, ◌==◌, nat_le, Bool, true, false, not, ◌&&◌, if◌then◌else◌, Option, Some, None}
use Rattle.fw_terms.specs.Tables.{find_to}
use Rattle.fw_plug.specs.Words.{is_connected}
use Rattle.fw_cmp_jobs.specs.declared.connection.Connection.{Connection}
use Rattle.fw_cmp_jobs.specs.declared.connection.Flow.{Flow}
use Rattle.fw_cmp_jobs.specs.declared.job.Job.{Job}
use Rattle.fw_cmp_jobs.specs.declared.job.Purpose.TheVariants.{Make, Restore, Break}
use Rattle.fw_cmp_jobs.specs.declared.job.HeldResources.{HeldResources}
use Rattle.fw_cmp_jobs.specs.declared.job.Ending.{Ending}
use Rattle.fw_cmp_jobs.specs.declared.job.Ending.TheVariants.{Broken, NoChannel, NoUnits, PlugFull, InputBusy, Late}
use Rattle.fw_cmp_jobs.specs.declared.job.Then.{Then}
use Rattle.fw_cmp_jobs.specs.declared.job.Then.TheVariants.{EndsAs, Again}
use Rattle.fw_cmp_jobs.specs.declared.stage.Stage.{Stage}
use Rattle.fw_cmp_jobs.specs.declared.stage.Stage.TheVariants.{ReadOutput, ReadChannels, SwapChannels, SwapBandwidth, ConnectOutput, OverlayOutput, ReadInput, ConnectInput}
use Rattle.fw_cmp_jobs.specs.declared.stage.Stage.TheVariants.{LeaveInput, ReadOutputToLeave, LeaveOutput, ReadBandwidthToRelease, RaiseBandwidth, ReadChannelsToRelease, Made, Ended}
use Rattle.fw_cmp_jobs.specs.Connections.{kind_of, is_listen, is_point_to_point}
use Rattle.fw_cmp_jobs.specs.Plugs.{has_broadcast, counter_of, channel_of, overhead_of, is_full, shows_connection, one_less, units_with, half_of, is_bit, remainder_of}

-- the job makes a connection again after a bus reset
abbrev pub restores : Job → Bool
restores j = elim j.purpose [ Make ↦ false | Restore ↦ true | Break ↦ false ]

-- ---- giving back what was taken: units before the channel

-- the stage after all was given back: the job ends, or reads its output plug again
abbrev pub goes_on : Then → Stage
goes_on (EndsAs e) = Ended e
goes_on Again = ReadOutput

-- the stage that gives back what is held, the units first and then the channel
abbrev pub give_back : Option HeldResources → Then → Stage
give_back None next = goes_on next
give_back (Some h) next = if h.units == 0 then ReadChannelsToRelease next h.channel else ReadBandwidthToRelease next h.channel h.units

-- if the connection stands at the output plug it is left first
abbrev pub leave_output : Connection → Ending → Flow → Stage
leave_output conn e f = if is_listen conn then Ended e else ReadOutputToLeave e f.channel f.units

-- ---- the output plug

-- the job asks for a channel, and this is another
abbrev pub is_other : Option ℕ → ℕ → Bool
is_other None ch = false
is_other (Some c) ch = not (c == ch)

-- the CHANNELS_AVAILABLE register to begin with: that of the asked channel, or the first
abbrev pub first_half : Option ℕ → ℕ
first_half None = 0
first_half (Some ch) = half_of ch

-- no connection: a first one is made with what is held, or a channel is looked for
abbrev pub decide_free : Job → Option HeldResources → ℕ → Stage
decide_free j None w = ReadChannels (first_half j.asked) w
decide_free j (Some h) w = ConnectOutput h.channel h.units w

-- a connection on another channel than the one to be restored
abbrev pub is_lost : Job → ℕ → Bool
is_lost j w = restores j && is_other j.asked (channel_of w)

-- a connection: it is overlaid, once nothing is held
abbrev pub decide_connected : Job → Option HeldResources → ℕ → Stage
decide_connected j None w = if is_lost j w then Ended Late else OverlayOutput w
decide_connected j (Some h) w = give_back (Some h) (if is_lost j w then EndsAs Late else Again)

-- the stage after the word of the output plug: it is full, overlaid, or to be connected first
abbrev pub decide_out : Job → Option HeldResources → ℕ → Stage
decide_out j held w =
    if is_full (kind_of j.connection) w then give_back held (EndsAs (PlugFull w))
    else (if is_connected w then decide_connected j held w else decide_free j held w)

-- ---- the manager's registers

-- the lowest free channel, of the first register and then of the second
abbrev pub decide_any : Option ℕ → ℕ → ℕ → ℕ → Stage
decide_any (Some i) base w v = SwapChannels (base + i) v w
decide_any None base w v = if base == 0 then ReadChannels 32 w else Ended (NoChannel v)

-- a restoring waits for the holder of its channel, which restores the same plug
abbrev pub decide_channel : Job → Option ℕ → ℕ → ℕ → ℕ → Stage
decide_channel j (Some ch) base w v = if is_bit v (ch - base) then SwapChannels ch v w else (if restores j then ReadOutput else Ended (NoChannel v))
decide_channel j None base w v = decide_any (find_to 32 (is_bit v)) base w v

-- the units that the job takes: those of its slot, or what the output plug's word shows with the job's overhead_ID
abbrev pub units_or : Option ℕ → ℕ → ℕ
units_or None u = u
units_or (Some own) u = own

-- the bandwidth units that the job takes at an output plug with this word
abbrev pub needs : Job → ℕ → ℕ
needs j w = units_or j.units (units_with j.overhead w)

-- the stage after the word of BANDWIDTH_AVAILABLE: the units are taken, or the channel is given back
abbrev pub decide_units : Job → ℕ → ℕ → ℕ → Stage
decide_units j ch w v = if nat_le (needs j w) (remainder_of v) then SwapBandwidth ch (needs j w) v w else ReadChannelsToRelease (EndsAs (NoUnits (remainder_of v))) ch

-- ---- the connection stands at the output plug

-- the flow of a first connection: what the job has taken
abbrev pub first_flow : Job → ℕ → ℕ → Flow
first_flow j ch u = record { channel = ch; overhead = j.overhead; units = u }

-- the flow of an overlaid connection: what the word of the output plug shows
abbrev pub overlaid_flow : ℕ → Flow
overlaid_flow w = record { channel = channel_of w; overhead = overhead_of w; units = units_with (overhead_of w) w }

-- the stage after the output plug is connected: the input plug, unless the connection has none
abbrev pub output_joined : Job → Flow → Stage
output_joined j f = if is_point_to_point j.connection then ReadInput f else Made f

-- ---- the input plug

-- the asked channel, or else this one
abbrev pub channel_or : Option ℕ → ℕ → ℕ
channel_or None ch = ch
channel_or (Some own) ch = own

-- a broadcast-in connection takes the channel of a plug that is connected, and else its own
abbrev pub listen_flow : Job → Flow → ℕ → Flow
listen_flow j f w = record f { channel = if is_connected w then channel_of w else channel_or j.asked 63 }

-- the stage of a broadcast-in connection after the word of its input plug
abbrev pub decide_listen : Job → Flow → ℕ → Stage
decide_listen j f w = if has_broadcast w then Ended (InputBusy w) else ConnectInput (listen_flow j f w) w

-- the stage of a point-to-point connection after the word of its input plug
abbrev pub decide_point_to_point : Job → Flow → ℕ → Stage
decide_point_to_point j f w =
    if is_connected w && not (channel_of w == f.channel) then leave_output j.connection (InputBusy w) f
    else (if counter_of w == 63 then leave_output j.connection (PlugFull w) f else ConnectInput f w)

-- the stage after the word of the input plug: it is busy, full, or to be connected
abbrev pub decide_in : Job → Flow → ℕ → Stage
decide_in j f w = if is_listen j.connection then decide_listen j f w else decide_point_to_point j f w

-- ---- breaking and giving back

-- the stage after a broken connection has left its input plug: its output plug, if it has one
abbrev pub input_left : Job → ℕ → ℕ → Stage
input_left j ch u = if is_listen j.connection then Ended Broken else ReadOutputToLeave Broken ch u

-- the stage of a break after the word of the input plug: the connection is left there, if it still shows one
abbrev pub decide_leave_in : Job → ℕ → ℕ → ℕ → Stage
decide_leave_in j ch u v = if shows_connection (kind_of j.connection) v then LeaveInput ch u v else input_left j ch u

-- the stage of a break after the word of the output plug: the connection is left there, if it still shows one
abbrev pub decide_leave_out : Job → Ending → ℕ → ℕ → ℕ → Stage
decide_leave_out j e ch u v = if shows_connection (kind_of j.connection) v then LeaveOutput e ch u v else Ended e

-- if the plug's last connection was left, its units and its channel are given back
abbrev pub output_left : Job → Ending → ℕ → ℕ → ℕ → Stage
output_left j e ch u w = if is_connected (one_less (kind_of j.connection) w) then Ended e else ReadBandwidthToRelease (EndsAs e) ch u

-- units are given back only if the sum stays within those of the bus
abbrev pub decide_raise : Then → ℕ → ℕ → ℕ → Stage
decide_raise next ch u v = if nat_le (u + remainder_of v) 4915 then RaiseBandwidth next ch u v else ReadChannelsToRelease next ch
