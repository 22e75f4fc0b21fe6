-- The table of distances: each answer without success lowers it by two half steps.
use Rattle.fw_model_rounds.proofs.Common.{◌≡◌, ℕ, ◌+◌, Bool, true, false, Option, Some, None, eqb, leb, refl, ap}
use Rattle.fw_model_rounds.proofs.Common.{subst, sym, cond, arith, ◌&&◌, ◌||◌, not, nat_tests, is_connected, Flow, Job, Late, Target}
use Rattle.fw_model_rounds.proofs.Common.{Channels, BandwidthAvailable, Stage, Begin, ReadOutput, ReadChannels, SwapChannels, ReadBandwidth, SwapBandwidth, ConnectOutput, OverlayOutput, ReadInput}
use Rattle.fw_model_rounds.proofs.Common.{ConnectInput, ReadInputToLeave, LeaveInput, ReadOutputToLeave, LeaveOutput}
use Rattle.fw_model_rounds.proofs.Common.{ReadBandwidthToRelease, RaiseBandwidth, ReadChannelsToRelease, RestoreChannel, Made}
use Rattle.fw_model_rounds.proofs.Common.{Ended, kind_of, is_listen, restores, is_lost, needs, has_broadcast, counter_of, channel_of, is_full, shows_connection, half_of, remainder_of, hear, answer_of}
use Rattle.fw_model_rounds.proofs.Common.{output_word, is_channel_free, succeeds, has_begun, is_over, is_waiting}
use Rattle.fw_cmp_jobs.specs.declared.job.Then.{Then}
use Rattle.fw_cmp_jobs.specs.declared.job.Then.TheVariants.{EndsAs}
use Rattle.fw_cmp_jobs.specs.declared.job.Ending.{Ending}
use Rattle.fw_cmp_jobs.specs.declared.job.Ending.TheVariants.{PlugFull, NoUnits, InputBusy, Broken, NoChannel}
use Rattle.fw_cmp_jobs.specs.Decisions.{give_back, decide_out, decide_connected, decide_channel, decide_units, decide_in, decide_leave_in}
use Rattle.fw_cmp_jobs.specs.Decisions.{decide_leave_out, decide_raise, first_half, leave_output, listen_flow}
use Rattle.fw_model_rounds.specs.Distance.{input_word, IsRestoring}
use Rattle.fw_model_rounds.specs.Table.{after_output, after_channel, after_units, after_leaving, after_missing, after_input, after_leaving_input, after_raising, of_swap, distance}
use Rattle.fw_model_rounds.proofs.Near.{full_is}

-- a swap whose argument the register shows
now_two : (n rest : ℕ) → of_swap n n rest ≡ 2
now_two n rest = go (eqb n n) (grind (arith, nat_tests))
  where
    go : (b : Bool) → b ≡ true → cond b 2 (2 + rest) ≡ 2
    go true e = refl
    go false e = grind arith

-- a swap that does not succeed
swap_falls : (words : Target → ℕ) (j : Job) (ch shows arg rest : ℕ) (t u : Stage) → eqb shows arg ≡ false → distance words j ch u ≡ rest
    → of_swap shows arg rest ≡ 2 + distance words j ch (cond (eqb shows arg) t u)
swap_falls words j ch shows arg rest t u e h = go (eqb shows arg) e
  where
    go : (b : Bool) → b ≡ false → cond b 2 (2 + rest) ≡ 2 + distance words j ch (cond b t u)
    go true e = grind arith
    go false e = omega (arith, h)

-- ---- what an answer leads to

output_falls : (words : Target → ℕ) (j : Job) (ch : ℕ) → (is_connected (output_word words j) || is_channel_free words ch) ≡ true
    → distance words j ch (decide_out j None (output_word words j)) ≡ after_output words j
output_falls words j ch free = go (is_full (kind_of j.connection) w) (is_connected w) free (is_lost j w)
  where
    w : ℕ
    w = output_word words j

    taken : (b : Bool) → b ≡ true → 2 + cond b 2 (2 + after_output words j) ≡ 4
    taken true e = refl
    taken false e = grind arith

    go : (b c : Bool) → (c || is_channel_free words ch) ≡ true → (d : Bool)
        → distance words j ch (cond b (Ended (PlugFull w)) (cond c (cond d (Ended Late) (OverlayOutput w)) (ReadChannels (first_half j.asked) w))) ≡ cond b 1 (cond c (cond d 1 2) 4)
    go true c e d = refl
    go false true e true = refl
    go false true e false = now_two w (after_output words j)
    go false false e d = taken (is_channel_free words ch) e

channel_falls : (words : Target → ℕ) (j : Job) (ch w : ℕ) → restores j ≡ true → (o : Option ℕ) → o ≡ Some ch
    → distance words j ch (decide_channel j o (half_of ch) w (words (Channels (half_of ch)))) ≡ after_channel words j ch
channel_falls words j ch w r o e = subst (λ (o : Option ℕ). distance words j ch (decide_channel j o (half_of ch) w (words (Channels (half_of ch)))) ≡ after_channel words j ch) (sym e)
    (go (is_channel_free words ch) (restores j) r)
  where
    go : (b c : Bool) → c ≡ true → distance words j ch (cond b (SwapChannels ch (words (Channels (half_of ch))) w) (cond c ReadOutput (Ended (NoChannel (words (Channels (half_of ch)))))))
        ≡ cond b 2 (2 + after_output words j)
    go true c e = now_two (words (Channels (half_of ch))) (after_channel words j ch)
    go false true e = refl
    go false false e = grind arith

units_falls : (words : Target → ℕ) (j : Job) (ch k w : ℕ) → distance words j ch (decide_units j k w (words BandwidthAvailable)) ≡ after_units words j w
units_falls words j ch k w = go (leb (needs j w) (remainder_of (words BandwidthAvailable)))
  where
    go : (b : Bool) → distance words j ch (cond b (SwapBandwidth k (needs j w) (words BandwidthAvailable) w) (ReadChannelsToRelease (EndsAs (NoUnits (remainder_of (words BandwidthAvailable)))) k))
        ≡ cond b 2 4
    go true = now_two (words BandwidthAvailable) (after_units words j w)
    go false = refl

-- who holds a channel and its units finds the plug without a connection
first_falls : (words : Target → ℕ) (j : Job) (ch k u : ℕ) → is_connected (output_word words j) ≡ false
    → distance words j ch (decide_out j (Some (record { channel = k; units = u })) (output_word words j)) ≡ 2
first_falls words j ch k u is = go (is_full (kind_of j.connection) w) (is_connected w) (full_is (kind_of j.connection) w is) is
  where
    w : ℕ
    w = output_word words j

    go : (b c : Bool) → b ≡ false → c ≡ false → distance words j ch
        (cond b (give_back (Some (record { channel = k; units = u })) (EndsAs (PlugFull w))) (cond c (decide_connected j (Some (record { channel = k; units = u })) w) (ConnectOutput k u w))) ≡ 2
    go true c e f = grind arith
    go false true e f = grind arith
    go false false e f = now_two w 2

leaving_falls : (words : Target → ℕ) (j : Job) (ch : ℕ) (e : Ending) (k u : ℕ) → distance words j ch (decide_leave_out j e k u (output_word words j)) ≡ after_leaving words j
leaving_falls words j ch e k u = go (shows_connection (kind_of j.connection) (output_word words j))
  where
    go : (b : Bool) → distance words j ch (cond b (LeaveOutput e k u (output_word words j)) (Ended e)) ≡ cond b 2 1
    go true = now_two (output_word words j) (after_leaving words j)
    go false = refl

missing_falls : (words : Target → ℕ) (j : Job) (ch : ℕ) (e : Ending) (f : Flow) → distance words j ch (leave_output j.connection e f) ≡ after_missing words j
missing_falls words j ch e f = go (is_listen j.connection)
  where
    go : (b : Bool) → distance words j ch (cond b (Ended e) (ReadOutputToLeave e f.channel f.units)) ≡ cond b 1 (2 + after_leaving words j)
    go true = refl
    go false = refl

input_falls : (words : Target → ℕ) (j : Job) (ch : ℕ) (f : Flow) → distance words j ch (decide_in j f (input_word words j)) ≡ after_input words j f
input_falls words j ch f = go (is_listen j.connection) (has_broadcast w) (is_connected w && not (eqb (channel_of w) f.channel)) (eqb (counter_of w) 63)
  where
    w : ℕ
    w = input_word words j

    go : (b c d e : Bool) → distance words j ch (cond b (cond c (Ended (InputBusy w)) (ConnectInput (listen_flow j f w) w))
        (cond d (leave_output j.connection (InputBusy w) f) (cond e (leave_output j.connection (PlugFull w) f) (ConnectInput f w))))
        ≡ cond b (cond c 1 2) (cond d (after_missing words j) (cond e (after_missing words j) 2))
    go true true d e = refl
    go true false d e = now_two w (after_input words j (listen_flow j f w))
    go false c true e = missing_falls words j ch (InputBusy w) f
    go false c false true = missing_falls words j ch (PlugFull w) f
    go false c false false = now_two w (after_input words j f)

leaving_input_falls : (words : Target → ℕ) (j : Job) (ch k u : ℕ) → distance words j ch (decide_leave_in j k u (input_word words j)) ≡ after_leaving_input words j
leaving_input_falls words j ch k u = go (shows_connection (kind_of j.connection) (input_word words j)) (is_listen j.connection)
  where
    go : (b c : Bool) → distance words j ch (cond b (LeaveInput k u (input_word words j)) (cond c (Ended Broken) (ReadOutputToLeave Broken k u))) ≡ cond b 2 (cond c 1 (2 + after_leaving words j))
    go true c = now_two (input_word words j) (after_leaving_input words j)
    go false true = refl
    go false false = refl

raising_falls : (words : Target → ℕ) (j : Job) (ch : ℕ) (next : Then) (k u : ℕ) → distance words j ch (decide_raise next k u (words BandwidthAvailable)) ≡ after_raising words u
raising_falls words j ch next k u = go (leb (u + remainder_of (words BandwidthAvailable)) 4915)
  where
    go : (b : Bool) → distance words j ch (cond b (RaiseBandwidth next k u (words BandwidthAvailable)) (ReadChannelsToRelease next k)) ≡ cond b 2 4
    go true = now_two (words BandwidthAvailable) (after_raising words u)
    go false = refl

-- ---- by stage

pub falls : (words : Target → ℕ) (j : Job) (ch : ℕ) (s : Stage) → IsRestoring words j ch s → is_over j s ≡ false → has_begun s ≡ true → is_waiting words j ch s ≡ false → succeeds words j s ≡ false
    → distance words j ch s ≡ 2 + distance words j ch (hear j s (answer_of words j s))
falls words j ch Begin r o b w x = grind arith
falls words j ch ReadOutput r o b w x = ap (λ n. 2 + n) (sym (output_falls words j ch (grind arith)))
falls words j ch (ReadChannels base arg) r o b w x = rw r.keeps (ap (λ n. 2 + n) (sym (channel_falls words j ch arg r.restores j.asked r.asked)))
falls words j ch (SwapChannels k arg a) r o b w x = swap_falls words j ch (words (Channels (half_of k))) arg (after_channel words j ch) (ReadBandwidth k a) _ x
    (rw r.keeps (channel_falls words j ch a r.restores j.asked r.asked))
falls words j ch (ReadBandwidth k a) r o b w x = ap (λ n. 2 + n) (sym (units_falls words j ch k a))
falls words j ch (SwapBandwidth k u arg a) r o b w x = swap_falls words j ch (words BandwidthAvailable) arg (after_units words j a) (ConnectOutput k u a) _ x (units_falls words j ch k a)
falls words j ch (ConnectOutput k u arg) r o b w x = swap_falls words j ch (output_word words j) arg 2 _ _ x (first_falls words j ch k u r.plug)
falls words j ch (OverlayOutput arg) r o b w x = swap_falls words j ch (output_word words j) arg (after_output words j) _ _ x (output_falls words j ch (grind arith))
falls words j ch (ReadInput f) r o b w x = ap (λ n. 2 + n) (sym (input_falls words j ch f))
falls words j ch (ConnectInput f arg) r o b w x = swap_falls words j ch (input_word words j) arg (after_input words j f) (Made f) _ x (input_falls words j ch f)
falls words j ch (ReadInputToLeave k u) r o b w x = ap (λ n. 2 + n) (sym (leaving_input_falls words j ch k u))
falls words j ch (LeaveInput k u arg) r o b w x = swap_falls words j ch (input_word words j) arg (after_leaving_input words j) _ _ x (leaving_input_falls words j ch k u)
falls words j ch (ReadOutputToLeave e k u) r o b w x = ap (λ n. 2 + n) (sym (leaving_falls words j ch e k u))
falls words j ch (LeaveOutput e k u arg) r o b w x = swap_falls words j ch (output_word words j) arg (after_leaving words j) _ _ x (leaving_falls words j ch e k u)
falls words j ch (ReadBandwidthToRelease next k u) r o b w x = ap (λ n. 2 + n) (sym (raising_falls words j ch next k u))
falls words j ch (RaiseBandwidth next k u arg) r o b w x = swap_falls words j ch (words BandwidthAvailable) arg (after_raising words u) (ReadChannelsToRelease next k) _ x
    (raising_falls words j ch next k u)
falls words j ch (ReadChannelsToRelease next k) r o b w x = ap (λ n. 2 + n) (sym (now_two (words (Channels (half_of k))) 2))
falls words j ch (RestoreChannel next k arg) r o b w x = swap_falls words j ch (words (Channels (half_of k))) arg 2 _ _ x (now_two (words (Channels (half_of k))) 2)
falls words j ch (Made f) r o b w x = grind arith
falls words j ch (Ended e) r o b w x = grind arith

-- ---- a swap that succeeds, and the end

two : (shows arg rest : ℕ) → eqb shows arg ≡ true → of_swap shows arg rest ≡ 2
two shows arg rest e = go (eqb shows arg) e
  where
    go : (b : Bool) → b ≡ true → cond b 2 (2 + rest) ≡ 2
    go true e = refl
    go false e = grind arith

pub success_is_two : (words : Target → ℕ) (j : Job) (ch : ℕ) (s : Stage) → succeeds words j s ≡ true → distance words j ch s ≡ 2
success_is_two words j ch (SwapChannels k arg a) x = two (words (Channels (half_of k))) arg (after_channel words j ch) x
success_is_two words j ch (SwapBandwidth k u arg a) x = two (words BandwidthAvailable) arg (after_units words j a) x
success_is_two words j ch (ConnectOutput k u arg) x = two (output_word words j) arg 2 x
success_is_two words j ch (OverlayOutput arg) x = two (output_word words j) arg (after_output words j) x
success_is_two words j ch (ConnectInput f arg) x = two (input_word words j) arg (after_input words j f) x
success_is_two words j ch (LeaveInput k u arg) x = two (input_word words j) arg (after_leaving_input words j) x
success_is_two words j ch (LeaveOutput e k u arg) x = two (output_word words j) arg (after_leaving words j) x
success_is_two words j ch (RaiseBandwidth next k u arg) x = two (words BandwidthAvailable) arg (after_raising words u) x
success_is_two words j ch (RestoreChannel next k arg) x = two (words (Channels (half_of k))) arg 2 x
success_is_two words j ch s x = grind arith
