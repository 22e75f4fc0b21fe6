-- The half steps of a restoring up to its next successful swap or its end, over registers that stand still, by stage.
use Rattle.std.specs.Prelude.{ℕ, ◌+◌, ◌==◌, nat_le, not, ◌&&◌, if◌then◌else◌}
use Rattle.fw_plug.specs.Words.{is_connected}
use Rattle.fw_cmp_jobs.specs.declared.connection.Flow.{Flow}
use Rattle.fw_cmp_jobs.specs.declared.job.Job.{Job}
use Rattle.fw_cmp_jobs.specs.declared.request.Target.{Target}
use Rattle.fw_cmp_jobs.specs.declared.request.Target.TheVariants.{Channels, BandwidthAvailable}
use Rattle.fw_cmp_jobs.specs.declared.stage.Stage.{Stage}
use Rattle.fw_cmp_jobs.specs.declared.stage.Stage.TheVariants.{Begin, ReadOutput, ReadChannels, SwapChannels, ReadBandwidth, SwapBandwidth, ConnectOutput}
use Rattle.fw_cmp_jobs.specs.declared.stage.Stage.TheVariants.{OverlayOutput, ReadInput, ConnectInput, ReadInputToLeave, LeaveInput, ReadOutputToLeave, LeaveOutput}
use Rattle.fw_cmp_jobs.specs.declared.stage.Stage.TheVariants.{ReadBandwidthToRelease, RaiseBandwidth, ReadChannelsToRelease, RestoreChannel, Made, Ended}
use Rattle.fw_cmp_jobs.specs.Connections.{kind_of, is_listen}
use Rattle.fw_cmp_jobs.specs.Decisions.{is_lost, needs}
use Rattle.fw_cmp_jobs.specs.Plugs.{has_broadcast, counter_of, channel_of, is_full, shows_connection, half_of, remainder_of}
use Rattle.fw_model_rounds.specs.Distance.{output_word, input_word, is_channel_free}

-- ---- after an answer, up to the next success

-- that shows the output plug, with nothing held: the job ends, it is overlaid, or the channel is read and taken
abbrev pub after_output : (Target → ℕ) → Job → ℕ
after_output words j =
    if is_full (kind_of j.connection) (output_word words j) then 1
    else (if is_connected (output_word words j) then (if is_lost j (output_word words j) then 1 else 2) else 4)

-- that shows the channel: it is taken, or the output plug is read again
abbrev pub after_channel : (Target → ℕ) → Job → ℕ → ℕ
after_channel words j ch = if is_channel_free words ch then 2 else 2 + after_output words j

-- that shows the units that are left: they are taken, or the channel is given back
abbrev pub after_units : (Target → ℕ) → Job → ℕ → ℕ
after_units words j w = if nat_le (needs j w) (remainder_of (words BandwidthAvailable)) then 2 else 4

-- that shows an output plug to be left
abbrev pub after_leaving : (Target → ℕ) → Job → ℕ
after_leaving words j = if shows_connection (kind_of j.connection) (output_word words j) then 2 else 1

-- that shows an input plug at which nothing is to be had or left: the output plug is left
abbrev pub after_missing : (Target → ℕ) → Job → ℕ
after_missing words j = if is_listen j.connection then 1 else 2 + after_leaving words j

-- that shows the input plug
abbrev pub after_input : (Target → ℕ) → Job → Flow → ℕ
after_input words j f =
    if is_listen j.connection then (if has_broadcast (input_word words j) then 1 else 2)
    else (if is_connected (input_word words j) && not (channel_of (input_word words j) == f.channel) then after_missing words j
    else (if counter_of (input_word words j) == 63 then after_missing words j else 2))

-- that shows an input plug to be left
abbrev pub after_leaving_input : (Target → ℕ) → Job → ℕ
after_leaving_input words j = if shows_connection (kind_of j.connection) (input_word words j) then 2 else after_missing words j

-- that shows the units that are left, to give some back
abbrev pub after_raising : (Target → ℕ) → ℕ → ℕ
after_raising words u = if nat_le (u + remainder_of (words BandwidthAvailable)) 4915 then 2 else 4

-- ---- by stage

-- a swap: its request and its answer, and what follows if the register shows another word
abbrev pub of_swap : ℕ → ℕ → ℕ → ℕ
of_swap shows arg rest = if shows == arg then 2 else 2 + rest

-- of a job on channel ch whose next request is not yet made; one less if the request stands
abbrev pub distance : (Target → ℕ) → Job → ℕ → Stage → ℕ
distance words j ch Begin = 0
distance words j ch ReadOutput = 2 + after_output words j
distance words j ch (ReadChannels base w) = 2 + after_channel words j ch
distance words j ch (SwapChannels k arg w) = of_swap (words (Channels (half_of k))) arg (after_channel words j ch)
distance words j ch (ReadBandwidth k w) = 2 + after_units words j w
distance words j ch (SwapBandwidth k u arg w) = of_swap (words BandwidthAvailable) arg (after_units words j w)
distance words j ch (ConnectOutput k u arg) = of_swap (output_word words j) arg 2
distance words j ch (OverlayOutput arg) = of_swap (output_word words j) arg (after_output words j)
distance words j ch (ReadInput f) = 2 + after_input words j f
distance words j ch (ConnectInput f arg) = of_swap (input_word words j) arg (after_input words j f)
distance words j ch (ReadInputToLeave k u) = 2 + after_leaving_input words j
distance words j ch (LeaveInput k u arg) = of_swap (input_word words j) arg (after_leaving_input words j)
distance words j ch (ReadOutputToLeave e k u) = 2 + after_leaving words j
distance words j ch (LeaveOutput e k u arg) = of_swap (output_word words j) arg (after_leaving words j)
distance words j ch (ReadBandwidthToRelease next k u) = 2 + after_raising words u
distance words j ch (RaiseBandwidth next k u arg) = of_swap (words BandwidthAvailable) arg (after_raising words u)
distance words j ch (ReadChannelsToRelease next k) = 4
distance words j ch (RestoreChannel next k arg) = of_swap (words (Channels (half_of k))) arg 2
distance words j ch (Made f) = 1
distance words j ch (Ended e) = 1
