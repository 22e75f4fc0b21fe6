-- A restoring that does not wait has a successful swap, or its end, within three answers.
use Rattle.fw_model_rounds.proofs.Common.{◌≡◌, ℕ, zero, suc, ◌+◌, Bool, true, false, Option, Some, None, is_none, eqb, leb, refl, subst, sym, cond, arith, ◌⊎◌, inl, inr, ◌&&◌, ◌||◌, not, nat_tests}
use Rattle.fw_model_rounds.proofs.Common.{is_connected, Job, Late, Flow, Target, Channels, BandwidthAvailable, Stage, Begin, ReadOutput, ReadChannels, SwapChannels, ReadBandwidth, SwapBandwidth}
use Rattle.fw_model_rounds.proofs.Common.{ConnectOutput, OverlayOutput, ReadInput, ConnectInput, ReadInputToLeave, LeaveInput, ReadOutputToLeave, LeaveOutput, ReadBandwidthToRelease, RaiseBandwidth}
use Rattle.fw_model_rounds.proofs.Common.{ReadChannelsToRelease, RestoreChannel, Made, Ended, half_of, is_full, has_broadcast}
use Rattle.fw_model_rounds.proofs.Common.{counter_of, channel_of, shows_connection, remainder_of, kind_of, is_listen}
use Rattle.fw_model_rounds.proofs.Common.{target_of, restores, needs, is_lost, hear, IsNear, has_begun, is_over, succeeds, shown, answer_of, output_word, is_channel_free, is_waiting}
use Rattle.fw_terms.specs.declared.plug.ConnectionKind.{ConnectionKind}
use Rattle.fw_terms.specs.declared.plug.ConnectionKind.TheVariants.{PointToPoint, Broadcast}
use Rattle.fw_cmp_jobs.specs.declared.job.Then.{Then}
use Rattle.fw_cmp_jobs.specs.declared.job.Then.TheVariants.{EndsAs}
use Rattle.fw_cmp_jobs.specs.declared.job.Ending.{Ending}
use Rattle.fw_cmp_jobs.specs.declared.job.Ending.TheVariants.{PlugFull, NoUnits, InputBusy, Broken, NoChannel}
use Rattle.fw_cmp_jobs.specs.Requests.{input_target}
use Rattle.fw_cmp_jobs.specs.Decisions.{decide_out, decide_channel, decide_units, decide_in, decide_leave_in, decide_leave_out, decide_raise}
use Rattle.fw_cmp_jobs.specs.Decisions.{leave_output, give_back, decide_connected, listen_flow, first_half}
use Rattle.fw_model_rounds.specs.Distance.{IsRestoring}

-- a full plug is connected
pub full_is : (k : ConnectionKind) (w : ℕ) → is_connected w ≡ false → is_full k w ≡ false
full_is PointToPoint w e = grind (arith, nat_tests)
full_is Broadcast w e = grind (arith, nat_tests)

same_number : (n : ℕ) → eqb n n ≡ true
same_number n = grind (arith, nat_tests)

-- ---- more answers

begun_is : (b c : Bool) → (b && c) ≡ true → b ≡ true
begun_is b c e = grind arith

pub near_over : (n : ℕ) (words : Target → ℕ) (j : Job) (s : Stage) → is_over j s ≡ true → IsNear n words j s
unfolding IsNear
near_over zero words j s e = e
near_over (suc n) words j s e = (begun_is (has_begun s) (is_none (target_of j s)) e, inl (rw e refl))

pub near_more : (n : ℕ) (words : Target → ℕ) (j : Job) (s : Stage) → IsNear n words j s → IsNear (suc n) words j s
unfolding IsNear
near_more zero words j s e = near_over 1 words j s e
near_more (suc n) words j s h = (h.0, go h.1 (near_more n words j (hear j s (answer_of words j s))))
  where
    go : ((is_over j s || succeeds words j s) ≡ true) ⊎ IsNear n words j (hear j s (answer_of words j s))
        → (IsNear n words j (hear j s (answer_of words j s)) → IsNear (suc n) words j (hear j s (answer_of words j s)))
        → ((is_over j s || succeeds words j s) ≡ true) ⊎ IsNear (suc n) words j (hear j s (answer_of words j s))
    go (inl e) more = inl e
    go (inr h) more = inr (more h)

-- a swap whose argument the register shows
near_now : (n : ℕ) (words : Target → ℕ) (j : Job) (s : Stage) → has_begun s ≡ true → succeeds words j s ≡ true → IsNear (suc n) words j s
unfolding IsNear
near_now n words j s b e = (b, go (is_over j s))
  where
    go : (o : Bool) → ((o || succeeds words j s) ≡ true) ⊎ IsNear n words j (hear j s (answer_of words j s))
    go true = inl refl
    go false = inl e

-- after the answer
near_then : (n : ℕ) (words : Target → ℕ) (j : Job) (s : Stage) → has_begun s ≡ true → IsNear n words j (hear j s (answer_of words j s)) → IsNear (suc n) words j s
unfolding IsNear
near_then n words j s b h = (b, inr h)

-- a swap: it succeeds, or what follows the word that the register shows is near
near_swap : (n : ℕ) (words : Target → ℕ) (j : Job) (s t u : Stage) (arg : ℕ) → has_begun s ≡ true → (eqb (answer_of words j s) arg ≡ true → succeeds words j s ≡ true)
    → hear j s (answer_of words j s) ≡ cond (eqb (answer_of words j s) arg) t u → IsNear n words j u → IsNear (suc n) words j s
near_swap n words j s t u arg b ok is h = go (eqb (answer_of words j s) arg) refl is
  where
    go : (c : Bool) → eqb (answer_of words j s) arg ≡ c → hear j s (answer_of words j s) ≡ cond c t u → IsNear (suc n) words j s
    go true e f = near_now n words j s b (ok e)
    go false e f = near_then n words j s b (rw f h)

-- ---- the output plug is connected: it is overlaid, or the restoring ends

overlays : (words : Target → ℕ) (j : Job) → IsNear 1 words j (OverlayOutput (output_word words j))
overlays words j = near_now 0 words j _ refl (same_number (output_word words j))

connected : (words : Target → ℕ) (j : Job) → is_connected (output_word words j) ≡ true → IsNear 1 words j (decide_out j None (output_word words j))
connected words j is = go (is_full (kind_of j.connection) (output_word words j)) (is_connected (output_word words j)) is (is_lost j (output_word words j))
  where
    go : (b d : Bool) → d ≡ true → (c : Bool) → IsNear 1 words j
        (cond b (Ended (PlugFull (output_word words j))) (cond d (cond c (Ended Late) (OverlayOutput (output_word words j))) (ReadChannels (first_half j.asked) (output_word words j))))
    go true d e c = near_over 1 words j _ refl
    go false true e true = near_over 1 words j _ refl
    go false true e false = overlays words j
    go false false e c = grind arith

-- ---- giving back

restores_channel : (words : Target → ℕ) (j : Job) (next : Then) (ch : ℕ) → IsNear 2 words j (ReadChannelsToRelease next ch)
restores_channel words j next ch = near_then 1 words j _ refl (near_now 0 words j _ refl (same_number (words (Channels (half_of ch)))))

raises : (words : Target → ℕ) (j : Job) (next : Then) (ch u : ℕ) → IsNear 2 words j (decide_raise next ch u (words BandwidthAvailable))
raises words j next ch u = go (leb (u + remainder_of (words BandwidthAvailable)) 4915)
  where
    go : (b : Bool) → IsNear 2 words j (cond b (RaiseBandwidth next ch u (words BandwidthAvailable)) (ReadChannelsToRelease next ch))
    go true = near_now 1 words j _ refl (same_number (words BandwidthAvailable))
    go false = restores_channel words j next ch

leaves : (words : Target → ℕ) (j : Job) (e : Ending) (ch u : ℕ) → IsNear 1 words j (decide_leave_out j e ch u (output_word words j))
leaves words j e ch u = go (shows_connection (kind_of j.connection) (output_word words j))
  where
    go : (b : Bool) → IsNear 1 words j (cond b (LeaveOutput e ch u (output_word words j)) (Ended e))
    go true = near_now 0 words j _ refl (same_number (output_word words j))
    go false = near_over 1 words j _ refl

reads_to_leave : (words : Target → ℕ) (j : Job) (e : Ending) (ch u : ℕ) → IsNear 2 words j (ReadOutputToLeave e ch u)
reads_to_leave words j e ch u = near_then 1 words j _ refl (leaves words j e ch u)

-- ---- units

units : (words : Target → ℕ) (j : Job) (ch w : ℕ) → IsNear 2 words j (decide_units j ch w (words BandwidthAvailable))
units words j ch w = go (leb (needs j w) (remainder_of (words BandwidthAvailable)))
  where
    go : (b : Bool) → IsNear 2 words j (cond b (SwapBandwidth ch (needs j w) (words BandwidthAvailable) w) (ReadChannelsToRelease (EndsAs (NoUnits (remainder_of (words BandwidthAvailable)))) ch))
    go true = near_now 1 words j _ refl (same_number (words BandwidthAvailable))
    go false = restores_channel words j _ ch

-- ---- the input plug

leaves_output : (words : Target → ℕ) (j : Job) (e : Ending) (f : Flow) → IsNear 2 words j (leave_output j.connection e f)
leaves_output words j e f = go (is_listen j.connection)
  where
    go : (b : Bool) → IsNear 2 words j (cond b (Ended e) (ReadOutputToLeave e f.channel f.units))
    go true = near_over 2 words j _ refl
    go false = reads_to_leave words j e f.channel f.units

joins : (words : Target → ℕ) (j : Job) (f : Flow) → IsNear 2 words j (ConnectInput f (shown words (input_target j)))
joins words j f = near_now 1 words j _ refl (same_number (shown words (input_target j)))

inputs : (words : Target → ℕ) (j : Job) (f : Flow) → IsNear 2 words j (decide_in j f (shown words (input_target j)))
inputs words j f = go (is_listen j.connection) (has_broadcast w) (is_connected w && not (eqb (channel_of w) f.channel)) (eqb (counter_of w) 63)
  where
    w : ℕ
    w = shown words (input_target j)

    go : (b c d e : Bool) → IsNear 2 words j (cond b (cond c (Ended (InputBusy w)) (ConnectInput (listen_flow j f w) w))
        (cond d (leave_output j.connection (InputBusy w) f) (cond e (leave_output j.connection (PlugFull w) f) (ConnectInput f w))))
    go true true d e = near_over 2 words j _ refl
    go true false d e = joins words j _
    go false c true e = leaves_output words j _ f
    go false c false true = leaves_output words j _ f
    go false c false false = joins words j f

leaves_input : (words : Target → ℕ) (j : Job) (ch u : ℕ) → IsNear 2 words j (decide_leave_in j ch u (shown words (input_target j)))
leaves_input words j ch u = go (shows_connection (kind_of j.connection) (shown words (input_target j))) (is_listen j.connection)
  where
    go : (b c : Bool) → IsNear 2 words j (cond b (LeaveInput ch u (shown words (input_target j))) (cond c (Ended Broken) (ReadOutputToLeave Broken ch u)))
    go true c = near_now 1 words j _ refl (same_number (shown words (input_target j)))
    go false true = near_over 2 words j _ refl
    go false false = reads_to_leave words j Broken ch u

-- ---- the stages that look for the channel

swaps_channel : (n : ℕ) (words : Target → ℕ) (j : Job) (ch w : ℕ) → IsNear (suc n) words j (SwapChannels ch (words (Channels (half_of ch))) w)
swaps_channel n words j ch w = near_now n words j _ refl (same_number (words (Channels (half_of ch))))

-- the channel's word: the channel is taken, or the output plug is connected, and read again
channel : (words : Target → ℕ) (j : Job) (ch w : ℕ) → restores j ≡ true → (is_connected (output_word words j) || is_channel_free words ch) ≡ true → (o : Option ℕ) → o ≡ Some ch
    → IsNear 2 words j (decide_channel j o (half_of ch) w (words (Channels (half_of ch))))
channel words j ch w r free o e = subst (λ (o : Option ℕ). IsNear 2 words j (decide_channel j o (half_of ch) w (words (Channels (half_of ch))))) (sym e)
    (go (is_channel_free words ch) (is_connected (output_word words j)) refl free (restores j) r)
  where
    go : (b d : Bool) → is_connected (output_word words j) ≡ d → (d || b) ≡ true → (c : Bool) → c ≡ true
        → IsNear 2 words j (cond b (SwapChannels ch (words (Channels (half_of ch))) w) (cond c ReadOutput (Ended (NoChannel (words (Channels (half_of ch)))))))
    go true d is f c r = swaps_channel 1 words j ch w
    go false true is f true r = near_then 1 words j _ refl (connected words j is)
    go false true is f false r = grind arith
    go false false is f c r = grind arith

-- the output plug's word
output : (words : Target → ℕ) (j : Job) (ch : ℕ) → restores j ≡ true → j.asked ≡ Some ch → (is_connected (output_word words j) || is_channel_free words ch) ≡ true
    → IsNear 2 words j (decide_out j None (output_word words j))
output words j ch r asked free = go (is_connected (output_word words j)) refl
  where
    reads : is_connected (output_word words j) ≡ false → IsNear 2 words j (ReadChannels (half_of ch) (output_word words j))
    reads is = near_then 1 words j _ refl (subst (λ (o : Option ℕ). IsNear 1 words j (decide_channel j o (half_of ch) (output_word words j) (words (Channels (half_of ch))))) (sym asked)
        (rw (free_is is) (swaps_channel 0 words j ch (output_word words j))))
      where
        free_is : is_connected (output_word words j) ≡ false → is_channel_free words ch ≡ true
        free_is e = grind arith

    open_plug : is_connected (output_word words j) ≡ false → (b d : Bool) → b ≡ false → d ≡ false
        → IsNear 2 words j (cond b (Ended (PlugFull (output_word words j)))
        (cond d (cond (is_lost j (output_word words j)) (Ended Late) (OverlayOutput (output_word words j))) (ReadChannels (first_half j.asked) (output_word words j))))
    open_plug is true d e f = grind arith
    open_plug is false true e f = grind arith
    open_plug is false false e f = subst (λ (o : Option ℕ). IsNear 2 words j (ReadChannels (first_half o) (output_word words j))) (sym asked) (reads is)

    go : (d : Bool) → is_connected (output_word words j) ≡ d → IsNear 2 words j (decide_out j None (output_word words j))
    go true is = near_more 1 words j _ (connected words j is)
    go false is = open_plug is (is_full (kind_of j.connection) (output_word words j)) (is_connected (output_word words j)) (full_is (kind_of j.connection) (output_word words j) is) is

-- who holds a channel and its units makes the first connection
first : (words : Target → ℕ) (j : Job) (ch u : ℕ) → is_connected (output_word words j) ≡ false → IsNear 2 words j (decide_out j (Some (record { channel = ch; units = u })) (output_word words j))
first words j ch u is = go (is_full (kind_of j.connection) (output_word words j)) (is_connected (output_word words j)) (full_is (kind_of j.connection) (output_word words j) is) is
  where
    go : (b d : Bool) → b ≡ false → d ≡ false → IsNear 2 words j
        (cond b (give_back (Some (record { channel = ch; units = u })) (EndsAs (PlugFull (output_word words j))))
        (cond d (decide_connected j (Some (record { channel = ch; units = u })) (output_word words j)) (ConnectOutput ch u (output_word words j))))
    go true d e f = grind arith
    go false true e f = grind arith
    go false false e f = near_now 1 words j _ refl (same_number (output_word words j))

-- ---- every stage

pub near : (words : Target → ℕ) (j : Job) (ch : ℕ) (s : Stage) → IsRestoring words j ch s → has_begun s ≡ true → is_waiting words j ch s ≡ false → IsNear 3 words j s
near words j ch Begin r b w = grind arith
near words j ch ReadOutput r b w = near_then 2 words j _ refl (output words j ch r.restores r.asked (grind arith))
near words j ch (ReadChannels base arg) r b w = near_then 2 words j _ refl (rw r.keeps (channel words j ch arg r.restores (grind arith) j.asked r.asked))
near words j ch (SwapChannels k arg a) r b w = near_swap 2 words j (SwapChannels k arg a) _ _ arg refl (λ e. e) refl (rw r.keeps (channel words j ch a r.restores (grind arith) j.asked r.asked))
near words j ch (ReadBandwidth k a) r b w = near_then 2 words j _ refl (units words j k a)
near words j ch (SwapBandwidth k u arg a) r b w = near_swap 2 words j (SwapBandwidth k u arg a) _ _ arg refl (λ e. e) refl (units words j k a)
near words j ch (ConnectOutput k u arg) r b w = near_swap 2 words j (ConnectOutput k u arg) _ _ arg refl (λ e. e) refl (first words j k u r.plug)
near words j ch (OverlayOutput arg) r b w = near_swap 2 words j (OverlayOutput arg) _ _ arg refl (λ e. e) refl (output words j ch r.restores r.asked (grind arith))
near words j ch (ReadInput f) r b w = near_then 2 words j _ refl (inputs words j f)
near words j ch (ConnectInput f arg) r b w = near_swap 2 words j (ConnectInput f arg) _ _ arg refl (λ e. e) refl (inputs words j f)
near words j ch (ReadInputToLeave k u) r b w = near_then 2 words j _ refl (leaves_input words j k u)
near words j ch (LeaveInput k u arg) r b w = near_swap 2 words j (LeaveInput k u arg) _ _ arg refl (λ e. e) refl (leaves_input words j k u)
near words j ch (ReadOutputToLeave e k u) r b w = near_more 2 words j _ (reads_to_leave words j e k u)
near words j ch (LeaveOutput e k u arg) r b w = near_swap 2 words j (LeaveOutput e k u arg) _ _ arg refl (λ e. e) refl (near_more 1 words j _ (leaves words j e k u))
near words j ch (ReadBandwidthToRelease next k u) r b w = near_then 2 words j _ refl (raises words j next k u)
near words j ch (RaiseBandwidth next k u arg) r b w = near_swap 2 words j (RaiseBandwidth next k u arg) _ _ arg refl (λ e. e) refl (raises words j next k u)
near words j ch (ReadChannelsToRelease next k) r b w = near_more 2 words j _ (restores_channel words j next k)
near words j ch (RestoreChannel next k arg) r b w = near_swap 2 words j (RestoreChannel next k arg) _ _ arg refl (λ e. e) refl (near_now 1 words j _ refl (same_number (words (Channels (half_of k)))))
near words j ch (Made f) r b w = near_over 3 words j _ refl
near words j ch (Ended e) r b w = near_over 3 words j _ refl
