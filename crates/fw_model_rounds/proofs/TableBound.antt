-- The table of distances: at most six half steps if a restoring does not wait.
use Rattle.fw_model_rounds.proofs.Common.{◌≡◌, ℕ, ◌+◌, ◌≤◌, Bool, true, false, eqb, leb, cond, arith, ◌&&◌, ◌||◌, not, is_connected, Flow, Job, Target, BandwidthAvailable, Stage, Begin, ReadOutput}
use Rattle.fw_model_rounds.proofs.Common.{ReadChannels, SwapChannels, ReadBandwidth, SwapBandwidth, ConnectOutput, OverlayOutput}
use Rattle.fw_model_rounds.proofs.Common.{ReadInput, ConnectInput, ReadInputToLeave, LeaveInput, ReadOutputToLeave}
use Rattle.fw_model_rounds.proofs.Common.{LeaveOutput, ReadBandwidthToRelease, RaiseBandwidth, ReadChannelsToRelease, RestoreChannel, Made, Ended, kind_of, is_listen, is_lost, needs, has_broadcast}
use Rattle.fw_model_rounds.proofs.Common.{counter_of, channel_of, is_full, shows_connection, remainder_of, output_word, is_channel_free, is_waiting}
use Rattle.fw_model_rounds.specs.Distance.{input_word}
use Rattle.fw_model_rounds.specs.Table.{after_output, after_channel, after_units, after_leaving, after_missing, after_input, after_leaving_input, after_raising, of_swap, distance}

few_swap : (shows arg rest : ℕ) → rest ≤ 4 → of_swap shows arg rest ≤ 6
few_swap shows arg rest le = go (eqb shows arg)
  where
    go : (b : Bool) → cond b 2 (2 + rest) ≤ 6
    go true = omega arith
    go false = omega arith

few_output : (words : Target → ℕ) (j : Job) → after_output words j ≤ 4
few_output words j = go (is_full (kind_of j.connection) (output_word words j)) (is_connected (output_word words j)) (is_lost j (output_word words j))
  where
    go : (b c d : Bool) → cond b 1 (cond c (cond d 1 2) 4) ≤ 4
    go true c d = omega arith
    go false true true = omega arith
    go false true false = omega arith
    go false false d = omega arith

-- if the channel is taken the plug has a connection, which ends the job or is overlaid
few_channel : (words : Target → ℕ) (j : Job) (ch : ℕ) → (is_connected (output_word words j) || is_channel_free words ch) ≡ true → after_channel words j ch ≤ 4
few_channel words j ch free = go (is_channel_free words ch) (is_full (kind_of j.connection) (output_word words j)) (is_connected (output_word words j)) free (is_lost j (output_word words j))
  where
    go : (f b c : Bool) → (c || f) ≡ true → (d : Bool) → cond f 2 (2 + cond b 1 (cond c (cond d 1 2) 4)) ≤ 4
    go true b c e d = omega arith
    go false true c e d = omega arith
    go false false true e true = omega arith
    go false false true e false = omega arith
    go false false false e d = grind arith

few_units : (words : Target → ℕ) (j : Job) (w : ℕ) → after_units words j w ≤ 4
few_units words j w = go (leb (needs j w) (remainder_of (words BandwidthAvailable)))
  where
    go : (b : Bool) → cond {A = ℕ} b 2 4 ≤ 4
    go true = omega arith
    go false = omega arith

few_leaving : (words : Target → ℕ) (j : Job) → after_leaving words j ≤ 2
few_leaving words j = go (shows_connection (kind_of j.connection) (output_word words j))
  where
    go : (b : Bool) → cond {A = ℕ} b 2 1 ≤ 2
    go true = omega arith
    go false = omega arith

few_missing : (words : Target → ℕ) (j : Job) → after_missing words j ≤ 4
few_missing words j = go (is_listen j.connection) (few_leaving words j)
  where
    go : (b : Bool) → after_leaving words j ≤ 2 → cond b 1 (2 + after_leaving words j) ≤ 4
    go true le = omega arith
    go false le = omega arith

few_input : (words : Target → ℕ) (j : Job) (f : Flow) → after_input words j f ≤ 4
few_input words j f = go (is_listen j.connection) (has_broadcast w) (is_connected w && not (eqb (channel_of w) f.channel)) (eqb (counter_of w) 63) (few_missing words j)
  where
    w : ℕ
    w = input_word words j

    go : (b c d e : Bool) → after_missing words j ≤ 4 → cond b (cond c 1 2) (cond d (after_missing words j) (cond e (after_missing words j) 2)) ≤ 4
    go true true d e le = omega arith
    go true false d e le = omega arith
    go false c true e le = le
    go false c false true le = le
    go false c false false le = omega arith

few_leaving_input : (words : Target → ℕ) (j : Job) → after_leaving_input words j ≤ 4
few_leaving_input words j = go (shows_connection (kind_of j.connection) (input_word words j)) (few_missing words j)
  where
    go : (b : Bool) → after_missing words j ≤ 4 → cond b 2 (after_missing words j) ≤ 4
    go true le = omega arith
    go false le = le

few_raising : (words : Target → ℕ) (u : ℕ) → after_raising words u ≤ 4
few_raising words u = go (leb (u + remainder_of (words BandwidthAvailable)) 4915)
  where
    go : (b : Bool) → cond {A = ℕ} b 2 4 ≤ 4
    go true = omega arith
    go false = omega arith

pub at_most_six : (words : Target → ℕ) (j : Job) (ch : ℕ) (s : Stage) → is_waiting words j ch s ≡ false → distance words j ch s ≤ 6
at_most_six words j ch Begin w = omega arith
at_most_six words j ch ReadOutput w = omega (arith, few_output words j)
at_most_six words j ch (ReadChannels base arg) w = omega (arith, few_channel words j ch (grind arith))
at_most_six words j ch (SwapChannels k arg a) w = few_swap _ arg _ (few_channel words j ch (grind arith))
at_most_six words j ch (ReadBandwidth k a) w = omega (arith, few_units words j a)
at_most_six words j ch (SwapBandwidth k u arg a) w = few_swap _ arg _ (few_units words j a)
at_most_six words j ch (ConnectOutput k u arg) w = few_swap _ arg 2 (omega arith)
at_most_six words j ch (OverlayOutput arg) w = few_swap _ arg _ (few_output words j)
at_most_six words j ch (ReadInput f) w = omega (arith, few_input words j f)
at_most_six words j ch (ConnectInput f arg) w = few_swap _ arg _ (few_input words j f)
at_most_six words j ch (ReadInputToLeave k u) w = omega (arith, few_leaving_input words j)
at_most_six words j ch (LeaveInput k u arg) w = few_swap _ arg _ (few_leaving_input words j)
at_most_six words j ch (ReadOutputToLeave e k u) w = omega (arith, few_leaving words j)
at_most_six words j ch (LeaveOutput e k u arg) w = few_swap _ arg (after_leaving words j) (omega (arith, few_leaving words j))
at_most_six words j ch (ReadBandwidthToRelease next k u) w = omega (arith, few_raising words u)
at_most_six words j ch (RaiseBandwidth next k u arg) w = few_swap _ arg _ (few_raising words u)
at_most_six words j ch (ReadChannelsToRelease next k) w = omega arith
at_most_six words j ch (RestoreChannel next k arg) w = few_swap _ arg 2 (omega arith)
at_most_six words j ch (Made f) w = omega arith
at_most_six words j ch (Ended e) w = omega arith
