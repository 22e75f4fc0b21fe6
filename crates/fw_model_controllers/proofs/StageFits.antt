-- What a stage keeps has room in the registers, after each answer.
use Rattle.fw_model_controllers.proofs.Common.{◌≡◌, ℕ, ◌+◌, ◌-◌, ◌^◌, ◌<◌, ◌≤◌, Bool, true, false, not, ◌&&◌, Option, Some, None, eqb, leb, cond, refl, arith, nat_tests, Reply, is_connected}
use Rattle.fw_model_controllers.proofs.Common.{Connection, PlugToPlug, BroadcastOut, BroadcastIn, Flow, Job, Then, EndsAs, Ending, Broken, NoPlug, Stage, Begin, ReadOutput, ReadChannels, SwapChannels}
use Rattle.fw_model_controllers.proofs.Common.{ReadBandwidth, SwapBandwidth, ConnectOutput, OverlayOutput, ReadInput, ConnectInput, ReadInputToLeave, LeaveInput, ReadOutputToLeave, LeaveOutput}
use Rattle.fw_model_controllers.proofs.Common.{ReadBandwidthToRelease, RaiseBandwidth, ReadChannelsToRelease, RestoreChannel, Made, Ended, kind_of, is_listen, channel_of, counter_of, has_broadcast}
use Rattle.fw_model_controllers.proofs.Common.{is_full, shows_connection, half_of, remainder_of, one_less, goes_on, output_joined, decide_in, input_left, JobFits, StageFits, hear, refuse, hear_reply}
use Rattle.std.proofs.Common.{◌*◌}
use Rattle.fw_words.specs.Quadlet.{field}
use Rattle.fw_plug.specs.Units.{payload_quadlets}
use Rattle.std.proofs.Math.Pow.{pow_mono}
use Rattle.std.proofs.Math.Nat.{mul-le-mul}
use Rattle.fw_cmp_jobs.specs.declared.job.Ending.TheVariants.{PlugFull, InputBusy}
use Rattle.fw_cmp_jobs.specs.Connections.{is_point_to_point}
use Rattle.fw_cmp_jobs.specs.Plugs.{overhead_of, units_with}
use Rattle.fw_cmp_jobs.specs.Decisions.{leave_output, first_flow, overlaid_flow, channel_or, listen_flow, decide_listen, decide_point_to_point, decide_leave_in, decide_leave_out, output_left}
use Rattle.fw_cmp_jobs.specs.Decisions.{decide_raise}
use Rattle.fw_cmp_jobs.specs.Fits.{FlowFits, AskedFits, HasOutput, HasInput, ResourcesFit}
use Rattle.fw_model_controllers.proofs.OutputFits.{either, on_fits, leave_fits, half_is, out_fits, channel_fits, units_fits}

-- ---- the input plug

in_fits : (j : Job) (f : Flow) (w : ℕ) → JobFits j → HasInput j.connection → FlowFits f → w < 2 ^ 32 → StageFits j (decide_in j f w)
in_fits j f w job into fits lt = go (is_listen j.connection) refl
  where
    listens : (conn : Connection) → is_listen conn ≡ true → (b : Bool) → has_broadcast w ≡ b → is_full (kind_of conn) w ≡ b
    listens (PlugToPlug o i) e b g = absurd (grind arith)
    listens (BroadcastOut o) e b g = absurd (grind arith)
    listens (BroadcastIn i) e b g = g

    points : (conn : Connection) → HasInput conn → is_listen conn ≡ false → (b : Bool) → eqb (counter_of w) 63 ≡ b → is_full (kind_of conn) w ≡ b
    points (PlugToPlug o i) h e b g = g
    points (BroadcastOut o) h e b g = absurd h
    points (BroadcastIn i) h e b g = absurd (grind arith)

    channel : (o : Option ℕ) → AskedFits o → (b : Bool) → (cond b (channel_of w) (channel_or o 63)) < 64
    channel o h true = omega arith
    channel None h false = omega arith
    channel (Some ch) h false = h

    listen : is_listen j.connection ≡ true → (b : Bool) → has_broadcast w ≡ b → StageFits j (cond b (Ended (InputBusy w)) (ConnectInput (listen_flow j f w) w))
    listen e true g = tt
    listen e false g = (into, record { channel = channel j.asked job.asked (is_connected w); overhead = fits.overhead; units = fits.units }, lt, listens j.connection e false g)

    point : is_listen j.connection ≡ false → (b full : Bool) → eqb (counter_of w) 63 ≡ full
        → StageFits j (cond b (leave_output j.connection (InputBusy w) f) (cond full (leave_output j.connection (PlugFull w) f) (ConnectInput f w)))
    point e true full g = leave_fits j (InputBusy w) f fits
    point e false true g = leave_fits j (PlugFull w) f fits
    point e false false g = (into, fits, lt, points j.connection into e false g)

    go : (b : Bool) → is_listen j.connection ≡ b → StageFits j (cond b (decide_listen j f w) (decide_point_to_point j f w))
    go true e = listen e (has_broadcast w) refl
    go false e = point e (is_connected w && not (eqb (channel_of w) f.channel)) (eqb (counter_of w) 63) refl

joined_fits : (j : Job) (f : Flow) → FlowFits f → StageFits j (output_joined j f)
joined_fits j f fits = go (is_point_to_point j.connection) refl
  where
    both : (conn : Connection) → is_point_to_point conn ≡ true → HasInput conn
    both (PlugToPlug o i) e = tt
    both (BroadcastOut o) e = grind arith
    both (BroadcastIn i) e = tt

    go : (b : Bool) → is_point_to_point j.connection ≡ b → StageFits j (cond b (ReadInput f) (Made f))
    go true e = (both j.connection e, fits)
    go false e = fits

-- ---- leaving

left_fits : (j : Job) (ch u : ℕ) → ResourcesFit ch u → StageFits j (input_left j ch u)
left_fits j ch u f = go (is_listen j.connection) refl
  where
    go : (b : Bool) → is_listen j.connection ≡ b → StageFits j (cond b (Ended Broken) (ReadOutputToLeave Broken ch u))
    go true e = tt
    go false e = (e, f)

leave_in_fits : (j : Job) (ch u v : ℕ) → HasInput j.connection → ResourcesFit ch u → v < 2 ^ 32 → StageFits j (decide_leave_in j ch u v)
leave_in_fits j ch u v into f lt = go (shows_connection (kind_of j.connection) v) refl
  where
    go : (b : Bool) → shows_connection (kind_of j.connection) v ≡ b → StageFits j (cond b (LeaveInput ch u v) (input_left j ch u))
    go true e = (into, f, lt, e)
    go false e = left_fits j ch u f

leave_out_fits : (j : Job) (e : Ending) (ch u v : ℕ) → HasOutput j.connection → ResourcesFit ch u → v < 2 ^ 32 → StageFits j (decide_leave_out j e ch u v)
leave_out_fits j e ch u v out f lt = go (shows_connection (kind_of j.connection) v) refl
  where
    go : (b : Bool) → shows_connection (kind_of j.connection) v ≡ b → StageFits j (cond b (LeaveOutput e ch u v) (Ended e))
    go true x = (out, f, lt, x)
    go false x = tt

raise_fits : (j : Job) (next : Then) (ch u v : ℕ) → HasOutput j.connection → ResourcesFit ch u → v < 2 ^ 32 → StageFits j (decide_raise next ch u v)
raise_fits j next ch u v out f lt = go (leb (u + remainder_of v) 4915) refl
  where
    go : (b : Bool) → leb (u + remainder_of v) 4915 ≡ b → StageFits j (cond b (RaiseBandwidth next ch u v) (ReadChannelsToRelease next ch))
    go true e = (out, f, lt, grind (arith, nat_tests))
    go false e = (out, f.0)

-- ---- each answer

first_units : (k w : ℕ) → k < 16 → units_with k w < 2 ^ 32
first_units k w lt =
    let small : 4 - field w 16 17 ≤ 4 = omega arith in
    let power : 2 ^ (4 - field w 16 17) ≤ 2 ^ 4 = pow_mono small in
    let count : payload_quadlets (field w 22 31) + 3 ≤ 1027 = omega (arith, payload (eqb (field w 22 31) 0)) in
    let product : (payload_quadlets (field w 22 31) + 3) * 2 ^ (4 - field w 16 17) ≤ 1027 * 2 ^ 4 = mul-le-mul count power in
    omega (arith, overhead (eqb k 0), product)
  where
    payload : (b : Bool) → cond b 1024 (field w 22 31) ≤ 1024
    payload true = omega arith
    payload false = omega arith

    overhead : (b : Bool) → cond b 512 (32 * k) ≤ 512
    overhead true = omega arith
    overhead false = omega arith

pub hear_fits : (j : Job) (s : Stage) (v : ℕ) → JobFits j → v < 2 ^ 32 → StageFits j s → StageFits j (hear j s v)
hear_fits j Begin v job lt f = tt
hear_fits j ReadOutput v job lt f = out_fits j None v job f tt lt
hear_fits j (ReadChannels base w) v job lt f = channel_fits j base w v f.0 f.1 f.2 f.3 lt
hear_fits j (SwapChannels ch arg w) v job lt f = either j (eqb v arg) (ReadBandwidth ch w) _ (f.0, f.1, f.5) (channel_fits j (half_of ch) w v f.0 (half_is ch) f.2 f.5 lt)
hear_fits j (ReadBandwidth ch w) v job lt f = units_fits j ch w v f.0 f.1 f.2 lt
hear_fits j (SwapBandwidth ch u arg w) v job lt f = either j (eqb v arg) (ConnectOutput ch u w) _ (f.0, (f.1, omega (arith, f.2)), f.4) (units_fits j ch w v f.0 f.1 f.4 lt)
hear_fits j (ConnectOutput ch u arg) v job lt f = either j (eqb v arg) (output_joined j (first_flow j ch u)) _
    (joined_fits j (first_flow j ch u) (record { channel = f.1.0; overhead = job.overhead; units = f.1.1 })) (out_fits j (Some (record { channel = ch; units = u })) v job f.0 f.1 lt)
hear_fits j (OverlayOutput arg) v job lt f = either j (eqb v arg) (output_joined j (overlaid_flow arg)) _
    (joined_fits j (overlaid_flow arg) (record { channel = omega arith; overhead = omega arith; units = first_units (overhead_of arg) arg (omega arith) })) (out_fits j None v job f.0 tt lt)
hear_fits j (ReadInput g) v job lt f = in_fits j g v job f.0 f.1 lt
hear_fits j (ConnectInput g arg) v job lt f = either j (eqb v arg) (Made g) _ f.1 (in_fits j g v job f.0 f.1 lt)
hear_fits j (ReadInputToLeave ch u) v job lt f = leave_in_fits j ch u v f.0 f.1 lt
hear_fits j (LeaveInput ch u arg) v job lt f = either j (eqb v arg) (input_left j ch u) _ (left_fits j ch u f.1) (leave_in_fits j ch u v f.0 f.1 lt)
hear_fits j (ReadOutputToLeave e ch u) v job lt f = leave_out_fits j e ch u v f.0 f.1 lt
hear_fits j (LeaveOutput e ch u arg) v job lt f = either j (eqb v arg) (output_left j e ch u arg) _
    (either j (is_connected (one_less (kind_of j.connection) arg)) (Ended e) (ReadBandwidthToRelease (EndsAs e) ch u) tt (f.0, f.1)) (leave_out_fits j e ch u v f.0 f.1 lt)
hear_fits j (ReadBandwidthToRelease next ch u) v job lt f = raise_fits j next ch u v f.0 f.1 lt
hear_fits j (RaiseBandwidth next ch u arg) v job lt f = either j (eqb v arg) (ReadChannelsToRelease next ch) _ (f.0, f.1.0) (raise_fits j next ch u v f.0 f.1 lt)
hear_fits j (ReadChannelsToRelease next ch) v job lt f = (f.0, f.1, lt)
hear_fits j (RestoreChannel next ch arg) v job lt f = either j (eqb v arg) (goes_on next) _ (on_fits j next f.0) (f.0, f.1, lt)
hear_fits j (Made g) v job lt f = f
hear_fits j (Ended e) v job lt f = tt

refuse_fits : (j : Job) (s : Stage) (rcode : ℕ) → StageFits j s → StageFits j (refuse j s rcode)
refuse_fits j (ReadInput g) rcode f = leave_fits j (NoPlug rcode) g f.1
refuse_fits j _ rcode f = tt

pub reply_fits : (j : Job) (s : Stage) (r : Reply) → JobFits j → (r.rcode ≡ 0 → r.value < 2 ^ 32) → StageFits j s → StageFits j (hear_reply j s r)
reply_fits j s r job lt f = go (eqb r.rcode 0) refl
  where
    go : (b : Bool) → eqb r.rcode 0 ≡ b → StageFits j (cond b (hear j s r.value) (refuse j s r.rcode))
    go true e = hear_fits j s r.value job (lt (grind (arith, nat_tests))) f
    go false e = refuse_fits j s r.rcode f
