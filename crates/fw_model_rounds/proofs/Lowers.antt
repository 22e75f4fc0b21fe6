-- Each answer leaves at most what remained, and one less if a swap succeeds.
use Rattle.fw_model_rounds.proofs.Common.{
  ◌≡◌,
  ℕ,
  ◌+◌,
  ◌≤◌,
  Bool,
  true,
  false,
  Option,
  Some,
  None,
  eqb,
  leb,
  cond,
  arith,
  ◌&&◌,
  not,
  is_connected,
  flag,
  Job,
  HeldResources,
  Late,
  Flow,
  Target,
  Channels,
}
use Rattle.fw_model_rounds.proofs.Common.{BandwidthAvailable, Stage, Begin, ReadOutput, ReadChannels, SwapChannels, ReadBandwidth, SwapBandwidth, ConnectOutput, OverlayOutput, ReadInput, ConnectInput}
use Rattle.fw_model_rounds.proofs.Common.{ReadInputToLeave, LeaveInput, ReadOutputToLeave, LeaveOutput, ReadBandwidthToRelease, RaiseBandwidth}
use Rattle.fw_model_rounds.proofs.Common.{ReadChannelsToRelease, RestoreChannel, Made, Ended, half_of}
use Rattle.fw_model_rounds.proofs.Common.{is_full, has_broadcast, counter_of, channel_of, shows_connection, remainder_of, kind_of, is_listen, restores, needs, is_lost, hear, answer_of, output_word}
use Rattle.fw_model_rounds.proofs.Common.{succeeds, remaining}
use Rattle.std.proofs.Common.{◌-◌}
use Rattle.fw_terms.specs.Tables.{find_to}
use Rattle.fw_cmp_jobs.specs.declared.job.Then.{Then}
use Rattle.fw_cmp_jobs.specs.declared.job.Then.TheVariants.{EndsAs, Again}
use Rattle.fw_cmp_jobs.specs.declared.job.Ending.{Ending}
use Rattle.fw_cmp_jobs.specs.declared.job.Ending.TheVariants.{PlugFull, NoUnits, InputBusy, Broken, NoChannel}
use Rattle.fw_cmp_jobs.specs.Plugs.{is_bit, one_less}
use Rattle.fw_cmp_jobs.specs.Connections.{is_point_to_point}
use Rattle.fw_cmp_jobs.specs.Decisions.{goes_on, decide_out, decide_any, decide_channel, decide_units, decide_in, decide_leave_in, decide_leave_out, decide_raise, output_joined}
use Rattle.fw_cmp_jobs.specs.Decisions.{output_left, leave_output, give_back, decide_connected, listen_flow, first_half, input_left, first_flow, overlaid_flow}
use Rattle.fw_model_rounds.specs.Distance.{input_word, HasPlug}
use Rattle.fw_model_rounds.specs.Remaining.{remaining_then}
use Rattle.fw_model_rounds.proofs.Near.{full_is}

-- ---- what the decisions leave

out_leaves : (j : Job) (w : ℕ) → remaining (decide_out j None w) ≤ 7
out_leaves j w = go (is_full (kind_of j.connection) w) (is_connected w) (is_lost j w)
  where
    go : (b c d : Bool) → remaining (cond b (Ended (PlugFull w)) (cond c (cond d (Ended Late) (OverlayOutput w)) (ReadChannels (first_half j.asked) w))) ≤ 7
    go true c d = omega arith
    go false true true = omega arith
    go false true false = omega arith
    go false false d = omega arith

-- with a channel and units held, and the plug without a connection
held_leaves : (j : Job) (h : HeldResources) (w : ℕ) → is_connected w ≡ false → remaining (decide_out j (Some h) w) ≤ 5
held_leaves j h w is = go (is_full (kind_of j.connection) w) (is_connected w) (full_is (kind_of j.connection) w is) is
  where
    go : (b c : Bool) → b ≡ false → c ≡ false → remaining (cond b (give_back (Some h) (EndsAs (PlugFull w))) (cond c (decide_connected j (Some h) w) (ConnectOutput h.channel h.units w))) ≤ 5
    go true c e f = grind arith
    go false true e f = grind arith
    go false false e f = omega arith

channel_leaves : (j : Job) (o : Option ℕ) (base w v : ℕ) → remaining (decide_channel j o base w v) ≤ 7
channel_leaves j (Some ch) base w v = go (is_bit v (ch - base)) (restores j)
  where
    go : (b c : Bool) → remaining (cond b (SwapChannels ch v w) (cond c ReadOutput (Ended (NoChannel v)))) ≤ 7
    go true c = omega arith
    go false true = omega arith
    go false false = omega arith
channel_leaves j None base w v = go (find_to 32 (is_bit v)) (eqb base 0)
  where
    go : (o : Option ℕ) (b : Bool) → remaining (decide_any o base w v) ≤ 7
    go (Some i) b = omega arith
    go None b = last (eqb base 0)
      where
        last : (b : Bool) → remaining (cond b (ReadChannels 32 w) (Ended (NoChannel v))) ≤ 7
        last true = omega arith
        last false = omega arith

units_leave : (j : Job) (ch w v : ℕ) → remaining (decide_units j ch w v) ≤ 6
units_leave j ch w v = go (leb (needs j w) (remainder_of v))
  where
    go : (b : Bool) → remaining (cond b (SwapBandwidth ch (needs j w) v w) (ReadChannelsToRelease (EndsAs (NoUnits (remainder_of v))) ch)) ≤ 6
    go true = omega arith
    go false = omega arith

joined_leaves : (j : Job) (f : Flow) → remaining (output_joined j f) ≤ 4
joined_leaves j f = go (is_point_to_point j.connection)
  where
    go : (b : Bool) → remaining (cond b (ReadInput f) (Made f)) ≤ 4
    go true = omega arith
    go false = omega arith

leave_leaves : (j : Job) (e : Ending) (f : Flow) → remaining (leave_output j.connection e f) ≤ 4
leave_leaves j e f = go (is_listen j.connection)
  where
    go : (b : Bool) → remaining (cond b (Ended e) (ReadOutputToLeave e f.channel f.units)) ≤ 4
    go true = omega arith
    go false = omega arith

in_leaves : (j : Job) (f : Flow) (w : ℕ) → remaining (decide_in j f w) ≤ 4
in_leaves j f w = go (is_listen j.connection) (has_broadcast w) (is_connected w && not (eqb (channel_of w) f.channel)) (eqb (counter_of w) 63)
  where
    go : (b c d e : Bool) → remaining (cond b (cond c (Ended (InputBusy w)) (ConnectInput (listen_flow j f w) w))
        (cond d (leave_output j.connection (InputBusy w) f) (cond e (leave_output j.connection (PlugFull w) f) (ConnectInput f w)))) ≤ 4
    go true true d e = omega arith
    go true false d e = omega arith
    go false c true e = leave_leaves j _ f
    go false c false true = leave_leaves j _ f
    go false c false false = omega arith

left_input_leaves : (j : Job) (ch u : ℕ) → remaining (input_left j ch u) ≤ 4
left_input_leaves j ch u = go (is_listen j.connection)
  where
    go : (b : Bool) → remaining (cond b (Ended Broken) (ReadOutputToLeave Broken ch u)) ≤ 4
    go true = omega arith
    go false = omega arith

leave_in_leaves : (j : Job) (ch u v : ℕ) → remaining (decide_leave_in j ch u v) ≤ 5
leave_in_leaves j ch u v = go (shows_connection (kind_of j.connection) v) (left_input_leaves j ch u)
  where
    go : (b : Bool) → remaining (input_left j ch u) ≤ 4 → remaining (cond b (LeaveInput ch u v) (input_left j ch u)) ≤ 5
    go true h = omega arith
    go false h = omega arith

leave_out_leaves : (j : Job) (e : Ending) (ch u v : ℕ) → remaining (decide_leave_out j e ch u v) ≤ 4
leave_out_leaves j e ch u v = go (shows_connection (kind_of j.connection) v)
  where
    go : (b : Bool) → remaining (cond b (LeaveOutput e ch u v) (Ended e)) ≤ 4
    go true = omega arith
    go false = omega arith

left_output_leaves : (j : Job) (e : Ending) (ch u w : ℕ) → remaining (output_left j e ch u w) ≤ 3
left_output_leaves j e ch u w = go (is_connected (one_less (kind_of j.connection) w))
  where
    go : (b : Bool) → remaining (cond b (Ended e) (ReadBandwidthToRelease (EndsAs e) ch u)) ≤ 3
    go true = omega arith
    go false = omega arith

raise_leaves : (next : Then) (ch u v : ℕ) → remaining (decide_raise next ch u v) ≤ 2 + remaining_then next
raise_leaves next ch u v = go (leb (u + remainder_of v) 4915)
  where
    go : (b : Bool) → remaining (cond b (RaiseBandwidth next ch u v) (ReadChannelsToRelease next ch)) ≤ 2 + remaining_then next
    go true = omega arith
    go false = omega arith

goes_on_leaves : (next : Then) → remaining (goes_on next) ≤ remaining_then next
goes_on_leaves (EndsAs e) = omega arith
goes_on_leaves Again = omega arith

-- ---- every stage

-- a swap: one less if it succeeds
swap_leaves : (b : Bool) (t u : Stage) (n : ℕ) → remaining t + 1 ≤ n → remaining u ≤ n → remaining (cond b t u) + flag b ≤ n
swap_leaves true t u n g h = g
swap_leaves false t u n g h = omega arith

pub lowers : (words : Target → ℕ) (j : Job) (s : Stage) → HasPlug words j s → remaining (hear j s (answer_of words j s)) + flag (succeeds words j s) ≤ remaining s
lowers words j Begin p = omega arith
lowers words j ReadOutput p = omega (arith, out_leaves j (output_word words j))
lowers words j (ReadChannels base w) p = omega (arith, channel_leaves j j.asked base w (words (Channels base)))
lowers words j (SwapChannels ch arg w) p = swap_leaves (eqb (words (Channels (half_of ch))) arg) _ _ 7 (omega arith) (channel_leaves j j.asked (half_of ch) w (words (Channels (half_of ch))))
lowers words j (ReadBandwidth ch w) p = omega (arith, units_leave j ch w (words BandwidthAvailable))
lowers words j (SwapBandwidth ch u arg w) p = swap_leaves (eqb (words BandwidthAvailable) arg) _ _ 6 (omega arith) (units_leave j ch w (words BandwidthAvailable))
lowers words j (ConnectOutput ch u arg) p = swap_leaves (eqb (output_word words j) arg) _ _ 5 (omega (arith, joined_leaves j (first_flow j ch u))) (held_leaves j _ (output_word words j) p)
lowers words j (OverlayOutput arg) p = swap_leaves (eqb (output_word words j) arg) _ _ 7 (omega (arith, joined_leaves j (overlaid_flow arg))) (out_leaves j (output_word words j))
lowers words j (ReadInput f) p = omega (arith, in_leaves j f (input_word words j))
lowers words j (ConnectInput f arg) p = swap_leaves (eqb (input_word words j) arg) _ _ 4 (omega arith) (in_leaves j f (input_word words j))
lowers words j (ReadInputToLeave ch u) p = omega (arith, leave_in_leaves j ch u (input_word words j))
lowers words j (LeaveInput ch u arg) p = swap_leaves (eqb (input_word words j) arg) _ _ 5 (omega (arith, left_input_leaves j ch u)) (leave_in_leaves j ch u (input_word words j))
lowers words j (ReadOutputToLeave e ch u) p = omega (arith, leave_out_leaves j e ch u (output_word words j))
lowers words j (LeaveOutput e ch u arg) p = swap_leaves (eqb (output_word words j) arg) _ _ 4 (omega (arith, left_output_leaves j e ch u arg)) (leave_out_leaves j e ch u (output_word words j))
lowers words j (ReadBandwidthToRelease next ch u) p = omega (arith, raise_leaves next ch u (words BandwidthAvailable))
lowers words j (RaiseBandwidth next ch u arg) p = swap_leaves (eqb (words BandwidthAvailable) arg) _ _ (2 + remaining_then next) (omega arith) (raise_leaves next ch u (words BandwidthAvailable))
lowers words j (ReadChannelsToRelease next ch) p = omega arith
lowers words j (RestoreChannel next ch arg) p = swap_leaves (eqb (words (Channels (half_of ch))) arg) _ _ (1 + remaining_then next) (omega (arith, goes_on_leaves next)) (omega arith)
lowers words j (Made f) p = omega arith
lowers words j (Ended e) p = omega arith
