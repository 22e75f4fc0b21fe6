-- The successful swaps and the outcome that are still to come of a job, at most.
use Rattle.std.specs.Prelude.{ℕ, ◌+◌}
use Rattle.fw_cmp_jobs.specs.declared.job.Then.{Then}
use Rattle.fw_cmp_jobs.specs.declared.job.Then.TheVariants.{EndsAs, Again}
use Rattle.fw_cmp_jobs.specs.declared.stage.Stage.{Stage}
use Rattle.fw_cmp_jobs.specs.declared.stage.Stage.TheVariants.{Begin, ReadOutput, ReadChannels, SwapChannels, ReadBandwidth, SwapBandwidth, ConnectOutput}
use Rattle.fw_cmp_jobs.specs.declared.stage.Stage.TheVariants.{OverlayOutput, ReadInput, ConnectInput, ReadInputToLeave, LeaveInput, ReadOutputToLeave, LeaveOutput}
use Rattle.fw_cmp_jobs.specs.declared.stage.Stage.TheVariants.{ReadBandwidthToRelease, RaiseBandwidth, ReadChannelsToRelease, RestoreChannel, Made, Ended}

-- all that a connection may still need: the channel, the units and the output plug, their giving back or the input plug,
-- and the outcome
abbrev pub most_remaining : ℕ
most_remaining = 7

-- what remains once all was given back: the outcome alone, or everything again
abbrev pub remaining_then : Then → ℕ
remaining_then (EndsAs e) = 1
remaining_then Again = most_remaining

-- by stage: the swaps that may still succeed if all that was taken is given back, and the outcome
abbrev pub remaining : Stage → ℕ
remaining Begin = most_remaining
remaining ReadOutput = most_remaining
remaining (ReadChannels base w) = most_remaining
remaining (SwapChannels ch arg w) = most_remaining
remaining (OverlayOutput arg) = most_remaining
remaining (ReadBandwidth ch w) = 6
remaining (SwapBandwidth ch u arg w) = 6
remaining (ConnectOutput ch u arg) = 5
remaining (ReadInput f) = 4
remaining (ConnectInput f arg) = 4
remaining (ReadInputToLeave ch u) = 5
remaining (LeaveInput ch u arg) = 5
remaining (ReadOutputToLeave e ch u) = 4
remaining (LeaveOutput e ch u arg) = 4
remaining (ReadBandwidthToRelease next ch u) = 2 + remaining_then next
remaining (RaiseBandwidth next ch u arg) = 2 + remaining_then next
remaining (ReadChannelsToRelease next ch) = 1 + remaining_then next
remaining (RestoreChannel next ch arg) = 1 + remaining_then next
remaining (Made f) = 1
remaining (Ended e) = 1
