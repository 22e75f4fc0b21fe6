-- A restoring in its slot's own second stays on its course: no answer ends it without its connection.
use Rattle.fw_model_reclaim.proofs.Common.{PlugAt, ConnectionKind, PointToPoint, Broadcast, ◌≡◌, ℕ, ◌-◌, ◌<◌, Bool, true, false, Option}
use Rattle.fw_model_reclaim.proofs.Common.{Some, None, refl, sym, ap, subst, ◌∙◌, arith, cond, eqb, not, ◌&&◌}
use Rattle.fw_model_reclaim.proofs.Common.{nat_tests, is_connected, Account, has_connection, is_output, is_input, IsSound}
use Rattle.fw_model_reclaim.proofs.Common.{restoring_job, Connection, PlugToPlug, BroadcastOut, BroadcastIn, Flow, EndsAs}
use Rattle.fw_model_reclaim.proofs.Common.{Stage, SwapBandwidth, ReadChannelsToRelease, kind_of, input_of, channel_of, is_bit}
use Rattle.fw_model_reclaim.proofs.Common.{decide_units, decide_in, overlaid_flow, IsFlow, most, number_of, IsOnCourse}
use Rattle.std.proofs.Common.{leb}
use Rattle.std.specs.Prelude.{⊤}
use Rattle.fw_plug.specs.Words.{Settings, flag}
use Rattle.fw_model_account.specs.Account.{Pending, Connections, is_there, remainder}
use Rattle.fw_model_account.proofs.Reclaims.{units_fit}
use Rattle.fw_cmp_jobs.specs.declared.job.HeldResources.{HeldResources}
use Rattle.fw_cmp_jobs.specs.declared.job.Ending.TheVariants.{NoUnits}
use Rattle.fw_cmp_jobs.specs.Connections.{is_point_to_point}
use Rattle.fw_cmp_jobs.specs.Plugs.{is_full, has_broadcast, counter_of, remainder_of, overhead_of, units_with}
use Rattle.fw_cmp_jobs.specs.Decisions.{decide_out, decide_connected, decide_free, decide_channel, is_lost, output_joined}
use Rattle.fw_model_controllers.specs.InStep.{units_at}
use Rattle.fw_model_controllers.proofs.Words.{Shows, output_word, input_word, output_shows, settings_shown, input_shows, channel_shown, shows_connected, remainder_shown, units_shown}

-- a plug that has room is not shown full
pub not_full : (kind : ConnectionKind) (w : ℕ) (s : Connections) → Shows w s → number_of kind s < most kind → is_full kind w ≡ false
not_full PointToPoint w s sh room = grind (arith, nat_tests, sh.counter)
not_full Broadcast w s sh room = sh.broadcast ∙ go (is_there s.broadcast) room
  where
    go : (b : Bool) → flag b < 1 → b ≡ false
    go true lt = grind arith
    go false lt = refl

-- what a restoring needs of its output plug
pub record AtOutput (l : Account) (p : PlugAt) (f : Flow) : Type 0 where
  pub sound : IsSound l
  pub second : l.reclaiming ≡ true
  pub flow : IsFlow (l.settings p) f
  pub listed : l.reclaimable f.channel ≡ Some (record { plug = p; units = f.units })
  pub there : is_output l.latest p ≡ true

-- a channel that waits for its connection is of a plug that has none
pub unconnected : (l : Account) (c : ℕ) (p : PlugAt) (ch u : ℕ) → IsSound l → (l.settings p).channel ≡ ch → l.allocations ch ≡ Some (record { holder = Pending c p; units = u })
    → has_connection (l.outputs p) ≡ false
unconnected l c p ch u s is held = go (has_connection (l.outputs p)) refl
  where
    go : (b : Bool) → has_connection (l.outputs p) ≡ b → b ≡ false
    go false e = refl
    go true e = let own = s.allocated p e in grind (arith, own, held, is)

-- the restoring holds nothing, or the channel and the units of its flow
abbrev pub HoldsFlow : Account → ℕ → PlugAt → Flow → Option HeldResources → Type 0
HoldsFlow l c p f None = ⊤
HoldsFlow l c p f (Some h) = (h.channel ≡ f.channel) × (h.units ≡ f.units) × (l.allocations f.channel ≡ Some (record { holder = Pending c p; units = f.units }))

-- a test that is false takes the second way
pub otherwise : (f : Flow) (b : Bool) (x y : Stage) → b ≡ false → IsOnCourse f y → IsOnCourse f (cond b x y)
otherwise f b x y e on = subst (λ t. IsOnCourse f (cond t x y)) (sym e) on

-- on either way
pub whichever : (f : Flow) (b : Bool) (x y : Stage) → (b ≡ true → IsOnCourse f x) → (b ≡ false → IsOnCourse f y) → IsOnCourse f (cond b x y)
whichever f true x y first second = first refl
whichever f false x y first second = second refl

-- a word of the output plug with the channel of the flow
decided_output : (i : ℕ) (conn : Connection) (f : Flow) (held : Option HeldResources) (w : ℕ) → is_full (kind_of conn) w ≡ false → channel_of w ≡ f.channel
    → ((h : HeldResources) → held ≡ Some h → (h.channel ≡ f.channel) × (h.units ≡ f.units) × (is_connected w ≡ false)) → IsOnCourse f (decide_out (restoring_job i conn f) held w)
decided_output i conn f held w room channel holds = otherwise f _ _ _ room (whichever f (is_connected w) _ _ (connected held holds) (free held holds))
  where
    connected : (held : Option HeldResources) → ((h : HeldResources) → held ≡ Some h → (h.channel ≡ f.channel) × (h.units ≡ f.units) × (is_connected w ≡ false)) → is_connected w ≡ true
        → IsOnCourse f (decide_connected (restoring_job i conn f) held w)
    connected None hf e = otherwise f (is_lost (restoring_job i conn f) w) _ _ (grind (arith, nat_tests, channel)) tt
    connected (Some h) hf e = absurd (grind (arith, e, (hf h refl).2))

    free : (held : Option HeldResources) → ((h : HeldResources) → held ≡ Some h → (h.channel ≡ f.channel) × (h.units ≡ f.units) × (is_connected w ≡ false)) → is_connected w ≡ false
        → IsOnCourse f (decide_free (restoring_job i conn f) held w)
    free None hf e = tt
    free (Some h) hf e = ((hf h refl).0, (hf h refl).1)

pub course_output : (l : Account) (c : ℕ) (p : PlugAt) (i : ℕ) (conn : Connection) (f : Flow) (held : Option HeldResources) → AtOutput l p f → HoldsFlow l c p f held
    → number_of (kind_of conn) (l.outputs p) < most (kind_of conn) → IsOnCourse f (decide_out (restoring_job i conn f) held (output_word (l.outputs p) (l.settings p)))
course_output l c p i conn f held at holds room = decided_output i conn f held (output_word (l.outputs p) (l.settings p)) (not_full (kind_of conn) _ (l.outputs p) shows room) channel
    (keeps held holds)
  where
    shows : Shows (output_word (l.outputs p) (l.settings p)) (l.outputs p)
    shows = output_shows (l.outputs p) (l.settings p) (at.sound.counts p).0 (at.sound.settings_fit p at.there)

    channel : channel_of (output_word (l.outputs p) (l.settings p)) ≡ f.channel
    channel = ap (λ (k : Settings). k.channel) (settings_shown (l.outputs p) (l.settings p) (at.sound.counts p).0 (at.sound.settings_fit p at.there)) ∙ at.flow.channel

    keeps : (o : Option HeldResources) → HoldsFlow l c p f o → (h : HeldResources) → o ≡ Some h → (h.channel ≡ f.channel) × (h.units ≡ f.units)
        × (is_connected (output_word (l.outputs p) (l.settings p)) ≡ false)
    keeps None hf h e = absurd (grind arith)
    keeps (Some g) hf h e = (grind (arith, hf.0), grind (arith, hf.1), shows_connected _ (l.outputs p) shows ∙ unconnected l c p f.channel f.units at.sound at.flow.channel hf.2)

-- ---- the manager's registers

-- the channel is free, or another restoring of the plug has it: the job waits
pub course_channel : (i : ℕ) (conn : Connection) (f : Flow) (base w v : ℕ) → IsOnCourse f (decide_channel (restoring_job i conn f) (Some f.channel) base w v)
course_channel i conn f base w v = whichever f (is_bit v (f.channel - base)) _ _ (λ e. refl) (λ e. tt)

-- the units are left
pub course_units : (l : Account) (c : ℕ) (p : PlugAt) (i : ℕ) (conn : Connection) (f : Flow) (w : ℕ) → AtOutput l p f → l.allocations f.channel ≡ Some (record { holder = Pending c p; units = 0 })
    → IsOnCourse f (decide_units (restoring_job i conn f) f.channel w (remainder l))
course_units l c p i conn f w at held = subst (λ t. IsOnCourse f
    (cond t (SwapBandwidth f.channel f.units (remainder l) w) (ReadChannelsToRelease (EndsAs (NoUnits (remainder_of (remainder l)))) f.channel))) (sym enough) (refl, refl)
  where
    enough : leb f.units (remainder_of (remainder l)) ≡ true
    enough =
        let fit = units_fit l c p f.channel f.units at.sound at.second held at.listed in
        let shown : remainder_of (remainder l) ≡ remainder l = remainder_shown (remainder l) (omega arith) in
        grind (arith, nat_tests)

-- ---- the input plug

-- what a restoring needs of its input plug
pub record AtInput (l : Account) (q : PlugAt) (f : Flow) : Type 0 where
  pub sound : IsSound l
  pub channel : l.input_channel q ≡ f.channel
  pub there : is_input l.latest q ≡ true

same_flow : (f : Flow) (ch : ℕ) → ch ≡ f.channel → record f { channel = ch } ≡ f
same_flow f ch e = λ i. record f { channel = e i }

-- a word of the input plug with the channel of the flow
decided_input : (i : ℕ) (conn : Connection) (f : Flow) (q : PlugAt) (w : ℕ) → input_of conn ≡ Some q → is_full (kind_of conn) w ≡ false → channel_of w ≡ f.channel
    → IsOnCourse f (decide_in (restoring_job i conn f) f w)
decided_input i (PlugToPlug out into) f q w has room channel =
    otherwise f (is_connected w && not (eqb (channel_of w) f.channel)) _ _ (grind (arith, nat_tests, channel)) (otherwise f (eqb (counter_of w) 63) _ _ room refl)
decided_input i (BroadcastOut out) f q w has room channel = absurd (grind arith)
decided_input i (BroadcastIn into) f q w has room channel = otherwise f (has_broadcast w) _ _ room (same_flow f _ (either (is_connected w)))
  where
    either : (b : Bool) → cond b (channel_of w) f.channel ≡ f.channel
    either true = channel
    either false = refl

pub course_input : (l : Account) (q : PlugAt) (i : ℕ) (conn : Connection) (f : Flow) → AtInput l q f → input_of conn ≡ Some q → number_of (kind_of conn) (l.inputs q) < most (kind_of conn)
    → IsOnCourse f (decide_in (restoring_job i conn f) f (input_word (l.inputs q) (l.input_channel q)))
course_input l q i conn f at has room = decided_input i conn f q (input_word (l.inputs q) (l.input_channel q)) has (not_full (kind_of conn) _ (l.inputs q) shows room)
    (channel_shown (l.inputs q) (l.input_channel q) (at.sound.counts q).1 (at.sound.channels_fit q at.there) ∙ at.channel)
  where
    shows : Shows (input_word (l.inputs q) (l.input_channel q)) (l.inputs q)
    shows = input_shows (l.inputs q) (l.input_channel q) (at.sound.counts q).1 (at.sound.channels_fit q at.there)

-- ---- the connection at the output plug

-- the flow that an overlaid connection finds
pub overlaid_is : (l : Account) (p : PlugAt) (f : Flow) → AtOutput l p f → overlaid_flow (output_word (l.outputs p) (l.settings p)) ≡ f
overlaid_is l p f at =
    let fits = at.sound.settings_fit p at.there in
    let most = (at.sound.counts p).0 in
    let shown = settings_shown (l.outputs p) (l.settings p) most fits in
    let channel : channel_of (output_word (l.outputs p) (l.settings p)) ≡ f.channel = ap (λ (k : Settings). k.channel) shown ∙ at.flow.channel in
    let overhead : overhead_of (output_word (l.outputs p) (l.settings p)) ≡ (l.settings p).overhead = ap (λ (k : Settings). k.overhead) shown in
    let units : units_with (overhead_of (output_word (l.outputs p) (l.settings p))) (output_word (l.outputs p) (l.settings p)) ≡ f.units =
    units_shown (l.outputs p) (l.settings p) (overhead_of (output_word (l.outputs p) (l.settings p))) most fits ∙ (ap (λ o. units_at (l.settings p).rate o) overhead ∙ at.flow.units) in
    λ i. record { channel = channel i; overhead = (overhead ∙ at.flow.overhead) i; units = units i }

pub course_joined : (i : ℕ) (conn : Connection) (f g : Flow) → g ≡ f → IsOnCourse f (output_joined (restoring_job i conn f) g)
course_joined i conn f g e = whichever f (is_point_to_point conn) _ _ (λ t. e) (λ t. e)
