-- No register shows a withheld channel to connect on, and no move connects an input plug on one.
use Rattle.fw_model_reclaim.proofs.Common.{◌≡◌, ◌≢◌, ℕ, ◌-◌, ◌<◌, ◌&&◌, not, Bool, true, false, Option, Some, None, cond, refl, sym, ap, subst, ◌∙◌, arith, nat_tests, PlugAt, Reply, is_connected}
use Rattle.fw_model_reclaim.proofs.Common.{Account, has_connection, after, is_output, is_input, IsSound, Job, Target, Stage, Begin, ReadOutput, ReadChannels, SwapChannels, ReadBandwidth}
use Rattle.fw_model_reclaim.proofs.Common.{SwapBandwidth, ConnectOutput, OverlayOutput, ReadInput, ConnectInput, ReadInputToLeave, LeaveInput, ReadOutputToLeave, LeaveOutput, ReadBandwidthToRelease}
use Rattle.fw_model_reclaim.proofs.Common.{RaiseBandwidth, ReadChannelsToRelease, RestoreChannel, Made, Ended, kind_of, output_of, input_of, channel_of, is_bit, half_of, target_of, IsAnswer}
use Rattle.fw_model_reclaim.proofs.Common.{has_manager}
use Rattle.std.proofs.Common.{◌||◌, true≢false}
use Rattle.std.specs.Prelude.{option_map}
use Rattle.std.proofs.lemmas.Option.{same_Some}
use Rattle.fw_terms.specs.Tables.{same_plug}
use Rattle.fw_terms.proofs.Tables.{same_plug-true}
use Rattle.fw_plug.specs.Words.{Settings}
use Rattle.fw_model_account.specs.Account.{is_withheld, is_free}
use Rattle.fw_model_account.specs.Moves.{Move, AllocateChannel, AllocateUnits, ConnectFirst, ConnectOverlaid, ConnectInput as JoinInput, DisconnectInput, DisconnectOutput, ReleaseUnits}
use Rattle.fw_model_account.specs.Moves.{ReleaseChannel, Can, drop_connection, add_connection}
use Rattle.fw_model_account.specs.Packets.{asked}
use Rattle.fw_model_account.specs.Words.{word_of, OutputPlug, InputPlug, ChannelsAvailable}
use Rattle.fw_model_account.proofs.Connections.{had_connection}
use Rattle.fw_model_account.proofs.Open.{talks_apart}
use Rattle.fw_cmp_jobs.specs.declared.request.Target.TheVariants as target
use Rattle.fw_model_controllers.specs.Moves.{at_plug, move_of}
use Rattle.fw_model_controllers.proofs.Registers.{open_shown}
use Rattle.fw_model_controllers.proofs.Words.{output_shows, settings_shown, input_shows, channel_shown, shows_connected}
use Rattle.fw_model_reclaim.specs.Avoids.{StageAvoids}
use Rattle.fw_model_reclaim.proofs.AvoidsHeard.{ShowsOther}

-- ---- what the registers show

withheld_is : (withheld : Bool) (ch : ℕ) → is_withheld withheld ch ≡ true → ch ≡ 31
withheld_is true ch e = grind (arith, nat_tests)
withheld_is false ch e = grind arith

pub not_last : (withheld : Bool) (ch : ℕ) → is_withheld withheld ch ≡ true → 63 ≢ ch
not_last withheld ch e same = let is = withheld_is withheld ch e in omega (arith, is, same)

-- the channel of a plug that keeps no withheld one
apart : (withheld : Bool) (ch k : ℕ) → is_withheld withheld ch ≡ true → is_withheld withheld k ≡ false → k ≢ ch
apart withheld ch k w none same = true≢false (sym w ∙ (sym (ap (is_withheld withheld) same) ∙ none))

output_away : (l : Account) (ch : ℕ) (p : PlugAt) (r : Reply) → IsSound l → is_withheld l.withheld ch ≡ true → IsAnswer l (target.OutputPlug p) r → r.rcode ≡ 0 → is_connected r.value ≡ true
    → channel_of r.value ≢ ch
output_away l ch p r s w a ok connected = go (is_output l.latest p) refl
  where
    go : (b : Bool) → is_output l.latest p ≡ b → channel_of r.value ≢ ch
    go false off = absurd (a.refused off ok)
    go true there =
        let v : r.value ≡ word_of l (OutputPlug p) = (a.complete there).1 in
        let has : has_connection (l.outputs p) ≡ true = sym (shows_connected (word_of l (OutputPlug p)) (l.outputs p)
        (output_shows (l.outputs p) (l.settings p) (s.counts p).0 (s.settings_fit p there))) ∙ (ap is_connected (sym v) ∙ connected) in
        let channel : channel_of r.value ≡ (l.settings p).channel = ap channel_of v
        ∙ ap (λ (k : Settings). k.channel) (settings_shown (l.outputs p) (l.settings p) (s.counts p).0 (s.settings_fit p there)) in
        λ same. apart l.withheld ch (l.settings p).channel w (talks_apart l p s (ap (λ b. b || l.continues p) has)) (sym channel ∙ same)

-- no input plug is connected on a channel that is withheld
abbrev pub InputsAvoid : Account → Type 0
InputsAvoid l = (q : PlugAt) → has_connection (l.inputs q) ≡ true → is_withheld l.withheld (l.input_channel q) ≡ false

input_away : (l : Account) (ch : ℕ) (q : PlugAt) (r : Reply) → IsSound l → InputsAvoid l → is_withheld l.withheld ch ≡ true → IsAnswer l (target.InputPlug q) r → r.rcode ≡ 0
    → is_connected r.value ≡ true → channel_of r.value ≢ ch
input_away l ch q r s inputs w a ok connected = go (is_input l.latest q) refl
  where
    go : (b : Bool) → is_input l.latest q ≡ b → channel_of r.value ≢ ch
    go false off = absurd (a.refused off ok)
    go true there =
        let v : r.value ≡ word_of l (InputPlug q) = (a.complete there).1 in
        let has : has_connection (l.inputs q) ≡ true = sym (shows_connected (word_of l (InputPlug q)) (l.inputs q)
        (input_shows (l.inputs q) (l.input_channel q) (s.counts q).1 (s.channels_fit q there))) ∙ (ap is_connected (sym v) ∙ connected) in
        let channel : channel_of r.value ≡ l.input_channel q = ap channel_of v ∙ channel_shown (l.inputs q) (l.input_channel q) (s.counts q).1 (s.channels_fit q there) in
        λ same. apart l.withheld ch (l.input_channel q) w (inputs q has) (sym channel ∙ same)

channels_away : (l : Account) (ch base : ℕ) (r : Reply) → is_withheld l.withheld ch ≡ true → IsAnswer l (target.Channels base) r → r.rcode ≡ 0 → base ≡ half_of ch → is_bit r.value (ch - base) ≡ false
channels_away l ch base r w a ok at = go (has_manager l.latest) refl
  where
    closed : (free withheld : Bool) → withheld ≡ true → (free && not withheld) ≡ false
    closed true withheld e = ap not e
    closed false withheld e = refl

    here : is_bit (word_of l (ChannelsAvailable (half_of ch))) (ch - half_of ch) ≡ false
    here = open_shown l ch (let is = withheld_is l.withheld ch w in omega (arith, is)) ∙ closed (is_free (l.allocations ch)) (is_withheld l.withheld ch) w

    go : (b : Bool) → has_manager l.latest ≡ b → is_bit r.value (ch - base) ≡ false
    go false off = absurd (a.refused off ok)
    go true there = ap (λ v. is_bit v (ch - base)) (a.complete there).1 ∙ (ap (λ b. is_bit (word_of l (ChannelsAvailable b)) (ch - b)) at ∙ here)

-- the answer to the request of a stage
pub answer_away : (l : Account) (ch : ℕ) (j : Job) (s : Stage) (t : Target) (r : Reply) → IsSound l → InputsAvoid l → is_withheld l.withheld ch ≡ true → target_of j s ≡ Some t → IsAnswer l t r
    → r.rcode ≡ 0 → ShowsOther ch s r.value
answer_away l ch j s t r sound inputs w asked a ok = go s asked
  where
    output : (o : Option PlugAt) → option_map target.OutputPlug o ≡ Some t → is_connected r.value ≡ true → channel_of r.value ≢ ch
    output None e = absurd (let z : ⊥ = cc in z)
    output (Some p) e = output_away l ch p r sound w (subst (λ x. IsAnswer l x r) (sym (same_Some _ _ e)) a) ok

    input : (o : Option PlugAt) → option_map target.InputPlug o ≡ Some t → is_connected r.value ≡ true → channel_of r.value ≢ ch
    input None e = absurd (let z : ⊥ = cc in z)
    input (Some q) e = input_away l ch q r sound inputs w (subst (λ x. IsAnswer l x r) (sym (same_Some _ _ e)) a) ok

    channels : (base : ℕ) → Some (target.Channels base) ≡ Some t → base ≡ half_of ch → is_bit r.value (ch - base) ≡ false
    channels base e = channels_away l ch base r w (subst (λ x. IsAnswer l x r) (sym (same_Some _ _ e)) a) ok

    go : (s : Stage) → target_of j s ≡ Some t → ShowsOther ch s r.value
    go ReadOutput e = output (output_of j.connection) e
    go (ConnectOutput k u arg) e = output (output_of j.connection) e
    go (OverlayOutput arg) e = output (output_of j.connection) e
    go (ReadInput f) e = input (input_of j.connection) e
    go (ConnectInput f arg) e = input (input_of j.connection) e
    go (ReadChannels base x) e = channels base e
    go (SwapChannels k arg x) e = channels (half_of k) e
    go _ e = tt

-- ---- what a move makes of input plugs

-- the channel on which a move connects an input plug
abbrev pub joined : Option (PlugAt × Move) → Option ℕ
joined None = None
joined (Some m) = elim m.1 as (λ x. Option ℕ) [
  | AllocateChannel ch ↦ None
  | AllocateUnits ch u ↦ None
  | ConnectFirst kind ch overhead ↦ None
  | ConnectOverlaid kind ↦ None
  | JoinInput kind ch ↦ Some ch
  | DisconnectInput kind ↦ None
  | DisconnectOutput kind ↦ None
  | ReleaseUnits ch u ↦ None
  | ReleaseChannel ch ↦ None
]

none_joined : (o : Option PlugAt) (m : Move) (k : ℕ) → ((p : PlugAt) → joined (Some (p, m)) ≡ None) → joined (at_plug o m) ≡ Some k → ⊥
none_joined None m k none e = cc
none_joined (Some p) m k none e = let z = sym (none p) ∙ e in cc

pub join_away : (ch k : ℕ) (j : Job) (s : Stage) → StageAvoids ch s → joined (move_of j s) ≡ Some k → k ≢ ch
join_away ch k j (SwapChannels c arg w) a e = absurd (none_joined (output_of j.connection) (AllocateChannel c) k (λ p. refl) e)
join_away ch k j (SwapBandwidth c u arg w) a e = absurd (none_joined (output_of j.connection) (AllocateUnits c u) k (λ p. refl) e)
join_away ch k j (ConnectOutput c u arg) a e = absurd (none_joined (output_of j.connection) (ConnectFirst (kind_of j.connection) c j.overhead) k (λ p. refl) e)
join_away ch k j (OverlayOutput arg) a e = absurd (none_joined (output_of j.connection) (ConnectOverlaid (kind_of j.connection)) k (λ p. refl) e)
join_away ch k j (ConnectInput f arg) a e = go (input_of j.connection) e
  where
    go : (o : Option PlugAt) → joined (at_plug o (JoinInput (kind_of j.connection) f.channel)) ≡ Some k → k ≢ ch
    go None z = absurd (let y : ⊥ = cc in y)
    go (Some q) z = λ same. a (same_Some f.channel k z ∙ same)
join_away ch k j (LeaveInput c u arg) a e = absurd (none_joined (input_of j.connection) (DisconnectInput (kind_of j.connection)) k (λ p. refl) e)
join_away ch k j (LeaveOutput x c u arg) a e = absurd (none_joined (output_of j.connection) (DisconnectOutput (kind_of j.connection)) k (λ p. refl) e)
join_away ch k j (RaiseBandwidth next c u arg) a e = absurd (none_joined (output_of j.connection) (ReleaseUnits c u) k (λ p. refl) e)
join_away ch k j (RestoreChannel next c arg) a e = absurd (none_joined (output_of j.connection) (ReleaseChannel c) k (λ p. refl) e)
join_away ch k j Begin a e = absurd (let z : ⊥ = cc in z)
join_away ch k j ReadOutput a e = absurd (let z : ⊥ = cc in z)
join_away ch k j (ReadChannels base w) a e = absurd (let z : ⊥ = cc in z)
join_away ch k j (ReadBandwidth c w) a e = absurd (let z : ⊥ = cc in z)
join_away ch k j (ReadInput f) a e = absurd (let z : ⊥ = cc in z)
join_away ch k j (ReadInputToLeave c u) a e = absurd (let z : ⊥ = cc in z)
join_away ch k j (ReadOutputToLeave x c u) a e = absurd (let z : ⊥ = cc in z)
join_away ch k j (ReadBandwidthToRelease next c u) a e = absurd (let z : ⊥ = cc in z)
join_away ch k j (ReadChannelsToRelease next c) a e = absurd (let z : ⊥ = cc in z)
join_away ch k j (Made f) a e = absurd (let z : ⊥ = cc in z)
join_away ch k j (Ended x) a e = absurd (let z : ⊥ = cc in z)

pub moved_inputs : (c : ℕ) (p : PlugAt) (m : Move) (l : Account) → c < 63 → Can c p m l → ((k : ℕ) → joined (Some (p, m)) ≡ Some k → is_withheld l.withheld k ≡ false) → InputsAvoid l
    → InputsAvoid (after c p m l)
moved_inputs c p (AllocateChannel ch) l lt can other h = h
moved_inputs c p (AllocateUnits ch u) l lt can other h = h
moved_inputs c p (ConnectFirst kind ch overhead) l lt can other h = h
moved_inputs c p (ConnectOverlaid kind) l lt can other h = h
moved_inputs c p (JoinInput kind k) l lt can other h = λ q. go q (same_plug q p)
  where
    go : (q : PlugAt) (b : Bool) → has_connection (cond b (add_connection c kind (l.inputs p)) (l.inputs q)) ≡ true → is_withheld l.withheld (cond b k (l.input_channel q)) ≡ false
    go q true has = other k refl
    go q false has = h q has
moved_inputs c p (DisconnectInput kind) l lt can other h = λ q. go q (same_plug q p) refl
  where
    go : (q : PlugAt) (b : Bool) → same_plug q p ≡ b → has_connection (cond b (drop_connection c kind (l.inputs p)) (l.inputs q)) ≡ true → is_withheld l.withheld (l.input_channel q) ≡ false
    go q true same has = h q (ap (λ x. has_connection (l.inputs x)) (same_plug-true q p same) ∙ had_connection c kind (l.inputs p) lt can.has)
    go q false same has = h q has
moved_inputs c p (DisconnectOutput kind) l lt can other h = h
moved_inputs c p (ReleaseUnits ch u) l lt can other h = h
moved_inputs c p (ReleaseChannel ch) l lt can other h = h

pub moved_withheld : (c : ℕ) (p : PlugAt) (m : Move) (l : Account) → (after c p m l).withheld ≡ l.withheld
moved_withheld c p (AllocateChannel ch) l = refl
moved_withheld c p (AllocateUnits ch u) l = refl
moved_withheld c p (ConnectFirst kind ch overhead) l = refl
moved_withheld c p (ConnectOverlaid kind) l = refl
moved_withheld c p (JoinInput kind k) l = refl
moved_withheld c p (DisconnectInput kind) l = refl
moved_withheld c p (DisconnectOutput kind) l = refl
moved_withheld c p (ReleaseUnits ch u) l = refl
moved_withheld c p (ReleaseChannel ch) l = refl
