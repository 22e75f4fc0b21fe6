-- What a stage asks: of which register, and by a read or a quadlet compare_swap.
use Rattle.std.specs.Prelude.{ℕ, ◌+◌, ◌-◌, ◌*◌, ◌==◌, if◌then◌else◌, Option, Some, None}
use Rattle.std.specs.Option.{option_map}
use Rattle.fw_csr.specs.declared.offset.TheConstants.{BANDWIDTH_AVAILABLE, CHANNELS_AVAILABLE_HI, CHANNELS_AVAILABLE_LO, OPCR, IPCR}
use Rattle.fw_csr.specs.declared.request.Request.{Request}
use Rattle.fw_csr.specs.Requests.{request_at}
use Rattle.fw_words.specs.declared.swap.Swap.{Swap}
use Rattle.fw_plug.specs.Words.{is_connected}
use Rattle.fw_cmp_jobs.specs.declared.job.Job.{Job}
use Rattle.fw_cmp_jobs.specs.declared.request.Target.{Target}
use Rattle.fw_cmp_jobs.specs.declared.request.Target.TheVariants.{OutputPlug, InputPlug, Channels, BandwidthAvailable}
use Rattle.fw_cmp_jobs.specs.declared.request.Access.{Access}
use Rattle.fw_cmp_jobs.specs.declared.stage.Stage.{Stage}
use Rattle.fw_cmp_jobs.specs.declared.stage.Stage.TheVariants.{Begin, ReadOutput, ReadChannels, SwapChannels, ReadBandwidth, SwapBandwidth, ConnectOutput}
use Rattle.fw_cmp_jobs.specs.declared.stage.Stage.TheVariants.{OverlayOutput, ReadInput, ConnectInput, ReadInputToLeave, LeaveInput, ReadOutputToLeave, LeaveOutput}
use Rattle.fw_cmp_jobs.specs.declared.stage.Stage.TheVariants.{ReadBandwidthToRelease, RaiseBandwidth, ReadChannelsToRelease, RestoreChannel, Made, Ended}
use Rattle.fw_cmp_jobs.specs.declared.directory.Directory.{Directory}
use Rattle.fw_cmp_jobs.specs.Connections.{kind_of, output_of, input_of}
use Rattle.fw_cmp_jobs.specs.Plugs.{one_more, one_less, with_channel, with_overhead, half_of, with_bit, without_bit}
use Rattle.fw_cmp_jobs.specs.Nodes.{node_of}

-- ---- the register

-- the oPCR of the job's connection, if it has an output plug
abbrev pub output_target : Job → Option Target
output_target j = option_map OutputPlug (output_of j.connection)

-- the iPCR of the job's connection, if it has an input plug
abbrev pub input_target : Job → Option Target
input_target j = option_map InputPlug (input_of j.connection)

-- the register of a stage's request; none if the stage makes none
abbrev pub target_of : Job → Stage → Option Target
target_of j Begin = None
target_of j ReadOutput = output_target j
target_of j (ReadChannels base w) = Some (Channels base)
target_of j (SwapChannels ch arg w) = Some (Channels (half_of ch))
target_of j (ReadBandwidth ch w) = Some BandwidthAvailable
target_of j (SwapBandwidth ch u arg w) = Some BandwidthAvailable
target_of j (ConnectOutput ch u arg) = output_target j
target_of j (OverlayOutput arg) = output_target j
target_of j (ReadInput f) = input_target j
target_of j (ConnectInput f arg) = input_target j
target_of j (ReadInputToLeave ch u) = input_target j
target_of j (LeaveInput ch u arg) = input_target j
target_of j (ReadOutputToLeave e ch u) = output_target j
target_of j (LeaveOutput e ch u arg) = output_target j
target_of j (ReadBandwidthToRelease next ch u) = Some BandwidthAvailable
target_of j (RaiseBandwidth next ch u arg) = Some BandwidthAvailable
target_of j (ReadChannelsToRelease next ch) = Some (Channels (half_of ch))
target_of j (RestoreChannel next ch arg) = Some (Channels (half_of ch))
target_of j (Made f) = None
target_of j (Ended e) = None

-- ---- the swap

-- the word of an output plug with its first connection
abbrev pub first_word : Job → ℕ → ℕ → ℕ
first_word j ch arg = one_more (kind_of j.connection) (with_overhead (with_channel arg ch) j.overhead)

-- the word of an input plug with one connection more; its first one sets the channel
abbrev pub input_word : Job → ℕ → ℕ → ℕ
input_word j ch arg = one_more (kind_of j.connection) (if is_connected arg then arg else with_channel arg ch)

-- a compare_swap from an argument to a new word
abbrev pub swapping : ℕ → ℕ → Option Swap
swapping arg new = Some (record { argument = arg; new = new })

-- the swap of a stage, if it makes one
abbrev pub swap_of : Job → Stage → Option Swap
swap_of j (SwapChannels ch arg w) = swapping arg (without_bit arg (ch - half_of ch))
swap_of j (SwapBandwidth ch u arg w) = swapping arg (arg - u)
swap_of j (ConnectOutput ch u arg) = swapping arg (first_word j ch arg)
swap_of j (OverlayOutput arg) = swapping arg (one_more (kind_of j.connection) arg)
swap_of j (ConnectInput f arg) = swapping arg (input_word j f.channel arg)
swap_of j (LeaveInput ch u arg) = swapping arg (one_less (kind_of j.connection) arg)
swap_of j (LeaveOutput e ch u arg) = swapping arg (one_less (kind_of j.connection) arg)
swap_of j (RaiseBandwidth next ch u arg) = swapping arg (arg + u)
swap_of j (RestoreChannel next ch arg) = swapping arg (with_bit arg (ch - half_of ch))
swap_of j _ = None

-- a read of a register, or its compare_swap
abbrev pub access_at : Option Swap → Target → Access
access_at s t = record { target = t; swap = s }

-- the access of a stage: a read, or a swap; none if the stage makes no request
abbrev pub access_of : Job → Stage → Option Access
access_of j s = option_map (access_at (swap_of j s)) (target_of j s)

-- ---- the request packet's part

-- FFFF F000 0000, and 904, 984 for a device's first plugs, 224 or 228, and 220
abbrev pub offset_of : Target → ℕ
offset_of (OutputPlug p) = OPCR + 4 * p.plug
offset_of (InputPlug p) = IPCR + 4 * p.plug
offset_of (Channels base) = if base == 0 then CHANNELS_AVAILABLE_HI else CHANNELS_AVAILABLE_LO
offset_of BandwidthAvailable = BANDWIDTH_AVAILABLE

-- a quadlet read, or a lock request of function 2
abbrev pub request_of : Access → Request
request_of a = request_at (offset_of a.target) a.swap

-- the node that a request goes to: that of the plug's device, or the manager; none if the directory has none
abbrev pub addressee_of : Directory → Target → Option ℕ
addressee_of d (OutputPlug p) = node_of d p.device
addressee_of d (InputPlug p) = node_of d p.device
addressee_of d (Channels base) = d.manager
addressee_of d BandwidthAvailable = d.manager
