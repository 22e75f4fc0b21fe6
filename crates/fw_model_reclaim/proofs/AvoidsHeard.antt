-- An answer that does not show a channel leads no job to it.
use Rattle.fw_model_reclaim.proofs.Common.{◌≡◌, ◌≢◌, ℕ, ◌+◌, ◌-◌, ◌<◌, ◌≤◌, Bool, true, false, not, ◌&&◌, Option, Some}
use Rattle.fw_model_reclaim.proofs.Common.{None, eqb, cond, refl, subst, sym, ap, ◌∙◌, arith, inl, inr, nat_tests, is_connected}
use Rattle.fw_model_reclaim.proofs.Common.{Connection, Flow, Job, Then, EndsAs, Again, Ending, Stage, Begin, ReadOutput, ReadChannels, SwapChannels, ReadBandwidth, SwapBandwidth, ConnectOutput}
use Rattle.fw_model_reclaim.proofs.Common.{OverlayOutput, ReadInput, ConnectInput, ReadInputToLeave, LeaveInput, ReadOutputToLeave, LeaveOutput, ReadBandwidthToRelease, RaiseBandwidth}
use Rattle.fw_model_reclaim.proofs.Common.{ReadChannelsToRelease, RestoreChannel, Made, Ended, kind_of, is_listen, channel_of}
use Rattle.fw_model_reclaim.proofs.Common.{is_bit, half_of, restores, goes_on, decide_units, overlaid_flow, decide_in}
use Rattle.fw_model_reclaim.proofs.Common.{decide_leave_out, output_left, decide_raise, StageFits, hear, refuse}
use Rattle.std.proofs.Common.{leb, true≢false}
use Rattle.fw_terms.specs.Tables.{find_to}
use Rattle.fw_terms.proofs.Tables.{find_to_is, IsFirst}
use Rattle.fw_cmp_jobs.specs.declared.job.HeldResources.{HeldResources}
use Rattle.fw_cmp_jobs.specs.declared.job.Ending.TheVariants.{Broken, NoChannel, NoUnits, PlugFull, InputBusy, NoPlug, Late}
use Rattle.fw_cmp_jobs.specs.Connections.{is_point_to_point}
use Rattle.fw_cmp_jobs.specs.Plugs.{counter_of, has_broadcast, is_full, shows_connection, remainder_of, one_less}
use Rattle.fw_cmp_jobs.specs.Decisions.{give_back, leave_output, is_lost, decide_connected, decide_free, decide_out, decide_any}
use Rattle.fw_cmp_jobs.specs.Decisions.{decide_channel, needs, first_flow, output_joined, channel_or, listen_flow, decide_listen}
use Rattle.fw_cmp_jobs.specs.Decisions.{decide_point_to_point, input_left, decide_leave_in}
use Rattle.fw_cmp_jobs.specs.Fits.{IsHalf, AskedWithin}
use Rattle.fw_model_reclaim.specs.Avoids.{JobAvoids, StageAvoids}

-- one of two stages
either : (ch : ℕ) (b : Bool) (s t : Stage) → StageAvoids ch s → StageAvoids ch t → StageAvoids ch (cond b s t)
either ch true s t f g = f
either ch false s t f g = g

-- ---- giving back

on_avoids : (ch : ℕ) (next : Then) → StageAvoids ch (goes_on next)
on_avoids ch (EndsAs e) = tt
on_avoids ch Again = tt

back_avoids : (ch : ℕ) (h : Option HeldResources) (next : Then) → StageAvoids ch (give_back h next)
back_avoids ch None next = on_avoids ch next
back_avoids ch (Some h) next = either ch (eqb h.units 0) (ReadChannelsToRelease next h.channel) (ReadBandwidthToRelease next h.channel h.units) tt tt

leave_avoids : (ch : ℕ) (conn : Connection) (e : Ending) (f : Flow) → StageAvoids ch (leave_output conn e f)
leave_avoids ch conn e f = either ch (is_listen conn) (Ended e) (ReadOutputToLeave e f.channel f.units) tt tt

-- ---- the output plug

-- what is held is of another channel
abbrev HeldAvoids : ℕ → Option HeldResources → Type 0
HeldAvoids ch None = Unit {0}
HeldAvoids ch (Some h) = h.channel ≢ ch

out_avoids : (ch : ℕ) (j : Job) (h : Option HeldResources) (w : ℕ) → HeldAvoids ch h → (is_connected w ≡ true → channel_of w ≢ ch) → StageAvoids ch (decide_out j h w)
out_avoids ch j h w other shown = go (is_full (kind_of j.connection) w) (is_connected w) refl
  where
    connected : (h : Option HeldResources) → is_connected w ≡ true → StageAvoids ch (decide_connected j h w)
    connected None e = either ch (is_lost j w) (Ended Late) (OverlayOutput w) tt (shown e)
    connected (Some k) e = back_avoids ch (Some k) (cond (is_lost j w) (EndsAs Late) Again)

    free : (h : Option HeldResources) → HeldAvoids ch h → StageAvoids ch (decide_free j h w)
    free None f = tt
    free (Some k) f = f

    go : (full connected_ : Bool) → is_connected w ≡ connected_ → StageAvoids ch (cond full (give_back h (EndsAs (PlugFull w))) (cond connected_ (decide_connected j h w) (decide_free j h w)))
    go true b e = back_avoids ch h (EndsAs (PlugFull w))
    go false true e = connected h e
    go false false e = free h other

-- ---- the manager's registers

half_at : (ch base : ℕ) → IsHalf base → base ≤ ch → ch < base + 32 → base ≡ half_of ch
half_at ch base (inl e) le lt = grind (arith, nat_tests)
half_at ch base (inr e) le lt = grind (arith, nat_tests)

channel_avoids : (ch : ℕ) (j : Job) (base w v : ℕ) → IsHalf base → AskedWithin j.asked base → (base ≡ half_of ch → is_bit v (ch - base) ≡ false) → StageAvoids ch (decide_channel j j.asked base w v)
channel_avoids ch j base w v half within shown = go j.asked within
  where
    -- a channel whose bit is 1 is another
    other : (k : ℕ) → base ≤ k → k < base + 32 → is_bit v (k - base) ≡ true → k ≢ ch
    other k le lt one same =
        let at : base ≡ half_of ch = subst (λ n. base ≡ half_of n) same (half_at k base half le lt) in
        true≢false (sym one ∙ (ap (λ n. is_bit v (n - base)) same ∙ shown at))

    asked : (k : ℕ) → (base ≤ k) × (k < base + 32) → (b : Bool) → is_bit v (k - base) ≡ b → (r : Bool) → StageAvoids ch (cond b (SwapChannels k v w) (cond r ReadOutput (Ended (NoChannel v))))
    asked k m true one r = other k m.0 m.1 one
    asked k m false one true = tt
    asked k m false one false = tt

    any : (o : Option ℕ) → IsFirst 32 (is_bit v) o → StageAvoids ch (decide_any o base w v)
    any (Some i) first =
        let own : (base + i) - base ≡ i = omega arith in
        other (base + i) (omega arith) (omega (arith, first.0)) (subst (λ n. is_bit v n ≡ true) (sym own) first.1)
    any None first = either ch (eqb base 0) (ReadChannels 32 w) (Ended (NoChannel v)) tt tt

    go : (o : Option ℕ) → AskedWithin o base → StageAvoids ch (decide_channel j o base w v)
    go (Some k) m = asked k m (is_bit v (k - base)) refl (restores j)
    go None m = any (find_to 32 (is_bit v)) (find_to_is 32 (is_bit v))

units_avoids : (ch : ℕ) (j : Job) (k w v : ℕ) → k ≢ ch → StageAvoids ch (decide_units j k w v)
units_avoids ch j k w v ne = either ch (leb (needs j w) (remainder_of v)) (SwapBandwidth k (needs j w) v w) (ReadChannelsToRelease (EndsAs (NoUnits (remainder_of v))) k) ne tt

-- ---- the input plug

in_avoids : (ch : ℕ) (j : Job) (f : Flow) (w : ℕ) → JobAvoids ch j → f.channel ≢ ch → (is_connected w ≡ true → channel_of w ≢ ch) → StageAvoids ch (decide_in j f w)
in_avoids ch j f w job ne shown = go (is_listen j.connection) refl
  where
    channel : is_listen j.connection ≡ true → (b : Bool) → is_connected w ≡ b → cond b (channel_of w) (channel_or j.asked 63) ≢ ch
    channel listens true e = shown e
    channel listens false e = job listens

    go : (b : Bool) → is_listen j.connection ≡ b → StageAvoids ch (cond b (decide_listen j f w) (decide_point_to_point j f w))
    go true e = either ch (has_broadcast w) (Ended (InputBusy w)) (ConnectInput (listen_flow j f w) w) tt (channel e (is_connected w) refl)
    go false e = either ch (is_connected w && not (eqb (channel_of w) f.channel)) (leave_output j.connection (InputBusy w) f)
        (cond (eqb (counter_of w) 63) (leave_output j.connection (PlugFull w) f) (ConnectInput f w)) (leave_avoids ch j.connection (InputBusy w) f)
        (either ch (eqb (counter_of w) 63) (leave_output j.connection (PlugFull w) f) (ConnectInput f w) (leave_avoids ch j.connection (PlugFull w) f) ne)

joined_avoids : (ch : ℕ) (j : Job) (f : Flow) → f.channel ≢ ch → StageAvoids ch (output_joined j f)
joined_avoids ch j f ne = either ch (is_point_to_point j.connection) (ReadInput f) (Made f) ne ne

-- ---- leaving

left_avoids : (ch : ℕ) (j : Job) (k u : ℕ) → StageAvoids ch (input_left j k u)
left_avoids ch j k u = either ch (is_listen j.connection) (Ended Broken) (ReadOutputToLeave Broken k u) tt tt

leave_in_avoids : (ch : ℕ) (j : Job) (k u v : ℕ) → StageAvoids ch (decide_leave_in j k u v)
leave_in_avoids ch j k u v = either ch (shows_connection (kind_of j.connection) v) (LeaveInput k u v) (input_left j k u) tt (left_avoids ch j k u)

leave_out_avoids : (ch : ℕ) (j : Job) (e : Ending) (k u v : ℕ) → StageAvoids ch (decide_leave_out j e k u v)
leave_out_avoids ch j e k u v = either ch (shows_connection (kind_of j.connection) v) (LeaveOutput e k u v) (Ended e) tt tt

raise_avoids : (ch : ℕ) (next : Then) (k u v : ℕ) → StageAvoids ch (decide_raise next k u v)
raise_avoids ch next k u v = either ch (leb (u + remainder_of v) 4915) (RaiseBandwidth next k u v) (ReadChannelsToRelease next k) tt tt

-- ---- each answer

-- the word of a plug shows no connection on the channel, and the word of its half of CHANNELS_AVAILABLE does not show it free
abbrev pub ShowsOther : ℕ → Stage → ℕ → Type 0
ShowsOther ch ReadOutput v = is_connected v ≡ true → channel_of v ≢ ch
ShowsOther ch (ConnectOutput k u arg) v = is_connected v ≡ true → channel_of v ≢ ch
ShowsOther ch (OverlayOutput arg) v = is_connected v ≡ true → channel_of v ≢ ch
ShowsOther ch (ReadInput f) v = is_connected v ≡ true → channel_of v ≢ ch
ShowsOther ch (ConnectInput f arg) v = is_connected v ≡ true → channel_of v ≢ ch
ShowsOther ch (ReadChannels base w) v = base ≡ half_of ch → is_bit v (ch - base) ≡ false
ShowsOther ch (SwapChannels k arg w) v = half_of k ≡ half_of ch → is_bit v (ch - half_of k) ≡ false
ShowsOther ch _ v = Unit {0}

half_is : (k : ℕ) → IsHalf (half_of k)
half_is k = grind (arith, nat_tests)

pub hear_avoids : (ch : ℕ) (j : Job) (s : Stage) (v : ℕ) → JobAvoids ch j → StageFits j s → StageAvoids ch s → ShowsOther ch s v → StageAvoids ch (hear j s v)
hear_avoids ch j Begin v job f ne shown = tt
hear_avoids ch j ReadOutput v job f ne shown = out_avoids ch j None v tt shown
hear_avoids ch j (ReadChannels base w) v job f ne shown = channel_avoids ch j base w v f.1 f.2 shown
hear_avoids ch j (SwapChannels k arg w) v job f ne shown = either ch (eqb v arg) (ReadBandwidth k w) _ ne (channel_avoids ch j (half_of k) w v (half_is k) f.2 shown)
hear_avoids ch j (ReadBandwidth k w) v job f ne shown = units_avoids ch j k w v ne
hear_avoids ch j (SwapBandwidth k u arg w) v job f ne shown = either ch (eqb v arg) (ConnectOutput k u w) _ ne (units_avoids ch j k w v ne)
hear_avoids ch j (ConnectOutput k u arg) v job f ne shown = either ch (eqb v arg) (output_joined j (first_flow j k u)) _ (joined_avoids ch j (first_flow j k u) ne)
    (out_avoids ch j (Some (record { channel = k; units = u })) v ne shown)
hear_avoids ch j (OverlayOutput arg) v job f ne shown = either ch (eqb v arg) (output_joined j (overlaid_flow arg)) _ (joined_avoids ch j (overlaid_flow arg) ne) (out_avoids ch j None v tt shown)
hear_avoids ch j (ReadInput g) v job f ne shown = in_avoids ch j g v job ne shown
hear_avoids ch j (ConnectInput g arg) v job f ne shown = either ch (eqb v arg) (Made g) _ ne (in_avoids ch j g v job ne shown)
hear_avoids ch j (ReadInputToLeave k u) v job f ne shown = leave_in_avoids ch j k u v
hear_avoids ch j (LeaveInput k u arg) v job f ne shown = either ch (eqb v arg) (input_left j k u) _ (left_avoids ch j k u) (leave_in_avoids ch j k u v)
hear_avoids ch j (ReadOutputToLeave e k u) v job f ne shown = leave_out_avoids ch j e k u v
hear_avoids ch j (LeaveOutput e k u arg) v job f ne shown = either ch (eqb v arg) (output_left j e k u arg) _
    (either ch (is_connected (one_less (kind_of j.connection) arg)) (Ended e) (ReadBandwidthToRelease (EndsAs e) k u) tt tt) (leave_out_avoids ch j e k u v)
hear_avoids ch j (ReadBandwidthToRelease next k u) v job f ne shown = raise_avoids ch next k u v
hear_avoids ch j (RaiseBandwidth next k u arg) v job f ne shown = either ch (eqb v arg) (ReadChannelsToRelease next k) _ tt (raise_avoids ch next k u v)
hear_avoids ch j (ReadChannelsToRelease next k) v job f ne shown = tt
hear_avoids ch j (RestoreChannel next k arg) v job f ne shown = either ch (eqb v arg) (goes_on next) _ (on_avoids ch next) tt
hear_avoids ch j (Made g) v job f ne shown = ne
hear_avoids ch j (Ended e) v job f ne shown = tt

pub refuse_avoids : (ch : ℕ) (j : Job) (s : Stage) (rcode : ℕ) → StageAvoids ch (refuse j s rcode)
refuse_avoids ch j (ReadInput g) rcode = leave_avoids ch j.connection (NoPlug rcode) g
refuse_avoids ch j _ rcode = tt
