-- What follows an answer, by the stage whose request it answers.
use Rattle.std.specs.Prelude.{ℕ, ◌==◌, if◌then◌else◌, Some, None, ⊤}
use Rattle.fw_csr.specs.declared.reply.Reply.{Reply}
use Rattle.fw_cmp_jobs.specs.declared.job.Job.{Job}
use Rattle.fw_cmp_jobs.specs.declared.job.Ending.TheVariants.{NoPlug}
use Rattle.fw_cmp_jobs.specs.declared.stage.Stage.{Stage}
use Rattle.fw_cmp_jobs.specs.declared.stage.Stage.TheVariants.{Begin, ReadOutput, ReadChannels, SwapChannels, ReadBandwidth, SwapBandwidth, ConnectOutput}
use Rattle.fw_cmp_jobs.specs.declared.stage.Stage.TheVariants.{OverlayOutput, ReadInput, ConnectInput, ReadInputToLeave, LeaveInput, ReadOutputToLeave, LeaveOutput}
use Rattle.fw_cmp_jobs.specs.declared.stage.Stage.TheVariants.{ReadBandwidthToRelease, RaiseBandwidth, ReadChannelsToRelease, RestoreChannel, Made, Ended}
use Rattle.fw_cmp_jobs.specs.Plugs.{half_of}
use Rattle.fw_cmp_jobs.specs.Decisions.{goes_on, leave_output, decide_out, decide_channel, decide_units, first_flow, overlaid_flow}
use Rattle.fw_cmp_jobs.specs.Decisions.{output_joined, decide_in, input_left, decide_leave_in, decide_leave_out, output_left, decide_raise}

-- The stage after a complete answer that shows the word v. A swap has succeeded exactly if v equals its argument.
abbrev pub hear : Job → Stage → ℕ → Stage
hear j Begin v = Begin
hear j ReadOutput v = decide_out j None v
hear j (ReadChannels base w) v = decide_channel j j.asked base w v
hear j (SwapChannels ch arg w) v = if v == arg then ReadBandwidth ch w else decide_channel j j.asked (half_of ch) w v
hear j (ReadBandwidth ch w) v = decide_units j ch w v
hear j (SwapBandwidth ch u arg w) v = if v == arg then ConnectOutput ch u w else decide_units j ch w v
hear j (ConnectOutput ch u arg) v = if v == arg then output_joined j (first_flow j ch u) else decide_out j (Some (record { channel = ch; units = u })) v
hear j (OverlayOutput arg) v = if v == arg then output_joined j (overlaid_flow arg) else decide_out j None v
hear j (ReadInput f) v = decide_in j f v
hear j (ConnectInput f arg) v = if v == arg then Made f else decide_in j f v
hear j (ReadInputToLeave ch u) v = decide_leave_in j ch u v
hear j (LeaveInput ch u arg) v = if v == arg then input_left j ch u else decide_leave_in j ch u v
hear j (ReadOutputToLeave e ch u) v = decide_leave_out j e ch u v
hear j (LeaveOutput e ch u arg) v = if v == arg then output_left j e ch u arg else decide_leave_out j e ch u v
hear j (ReadBandwidthToRelease next ch u) v = decide_raise next ch u v
hear j (RaiseBandwidth next ch u arg) v = if v == arg then ReadChannelsToRelease next ch else decide_raise next ch u v
hear j (ReadChannelsToRelease next ch) v = RestoreChannel next ch v
hear j (RestoreChannel next ch arg) v = if v == arg then goes_on next else RestoreChannel next ch v
hear j (Made f) v = Made f
hear j (Ended e) v = Ended e

-- The stage after an answer that is not complete: the job ends, and leaves its output plug first if the input plug was
-- read to be joined.
abbrev pub refuse : Job → Stage → ℕ → Stage
refuse j (ReadInput f) rcode = leave_output j.connection (NoPlug rcode) f
refuse j _ rcode = Ended (NoPlug rcode)

-- the stage after an answer, complete or not
abbrev pub hear_reply : Job → Stage → Reply → Stage
hear_reply j s r = if r.rcode == 0 then hear j s r.value else refuse j s r.rcode

-- ---- groups of stages

-- the stages that take units
abbrev pub IsTakingUnits : Stage → Type 0
IsTakingUnits (ReadBandwidth ch w) = ⊤
IsTakingUnits (SwapBandwidth ch u arg w) = ⊤
IsTakingUnits _ = ⊥

-- the stage that adds a connection to an output plug
abbrev pub IsOverlaying : Stage → Type 0
IsOverlaying (OverlayOutput arg) = ⊤
IsOverlaying _ = ⊥

-- the stages that join plugs otherwise
abbrev pub IsJoining : Stage → Type 0
IsJoining (ConnectOutput ch u arg) = ⊤
IsJoining (ReadInput f) = ⊤
IsJoining (ConnectInput f arg) = ⊤
IsJoining _ = ⊥

-- the stages that leave plugs
abbrev pub IsLeaving : Stage → Type 0
IsLeaving (ReadInputToLeave ch u) = ⊤
IsLeaving (LeaveInput ch u arg) = ⊤
IsLeaving (ReadOutputToLeave e ch u) = ⊤
IsLeaving (LeaveOutput e ch u arg) = ⊤
IsLeaving _ = ⊥

-- the stages that give back units and the channel
abbrev pub IsReleasing : Stage → Type 0
IsReleasing (ReadBandwidthToRelease next ch u) = ⊤
IsReleasing (RaiseBandwidth next ch u arg) = ⊤
IsReleasing (ReadChannelsToRelease next ch) = ⊤
IsReleasing (RestoreChannel next ch arg) = ⊤
IsReleasing _ = ⊥
