-- An input plug of a device that is off hears nothing, whatever happens.
use Rattle.fw_model_run.proofs.Common.{◌≡◌, ℕ, ◌<◌, ◌||◌, ◌&&◌, List, Bool, true, false, Option, Some, None}
use Rattle.fw_model_run.proofs.Common.{is_some, refl, ap, sym, subst, ◌∙◌, arith, IsTrue, nat_tests, input_plugs_of, PlugAt, at_plug}
use Rattle.fw_model_run.proofs.Common.{ResetEntry, Timed, node_number, row_of, kind_at, Account, is_input, is_input_of, IsSound, InputPlug, word_of, node_of, any_at, IsGood, IsLatest, State, Declared}
use Rattle.fw_model_run.proofs.Common.{first_state, number_in, is_on, Action, Transition, Resets}
use Rattle.fw_plug.specs.Plugs.{is_active}
use Rattle.fw_model_account.specs.Account.{has_connection}
use Rattle.fw_model_controllers.proofs.Words.{channel_shown, input_shows, shows_connected}
use Rattle.fw_words.specs.Quadlet.{field}
use Rattle.fw_model_run.specs.Dubs.{hears_in}
use Rattle.fw_model_run.specs.Hearing.{AreQuiet, HasHearing}
use Rattle.fw_model_run.proofs.Buses.{row_place}
use Rattle.fw_model_run.proofs.Grows.{stays_node}
use Rattle.fw_model_run.proofs.Resets.{declaring, MayReset, reset_follows, numbered}
use Rattle.fw_model_run.proofs.Settling.{half_turn}
use Rattle.fw_model_run.proofs.Times.{second_ends}
use Rattle.fw_model_run.proofs.Withholds.{withholding_keeps}
use Rattle.fw_model_run.proofs.Words.{number_of_on}
use Rattle.fw_model_run.proofs.Alterations.{Allows, Alteration, Halved, Over, Withheld, altered}
use Rattle.fw_model_run.proofs.Effects.{Effect, altering, effect, resetting}

pub first_hearing : HasHearing first_state
first_hearing = record { quiet = λ d k off. refl }

-- no more plugs go on than did
pub fewer_hear : (s : State) (lingers : PlugAt → Bool) (latest : Option ResetEntry) → ((q : PlugAt) → s.dub.lingers q ≡ false → lingers q ≡ false) → latest ≡ s.account.latest → HasHearing s
    → AreQuiet lingers latest
fewer_hear s lingers latest fewer same h = record { quiet = λ d k off. fewer (at_plug d k) (h.quiet d k (subst (λ o. is_some (number_in o d) ≡ false) same off)) }

quiet_and : (a b : Bool) → a ≡ false → (a && b) ≡ false
quiet_and a b e = grind (arith, e)

-- ---- devices that are off

-- no input plug of a device that is off stands
gone : (s : State) (d k : ℕ) → IsGood s → is_on s d ≡ false → is_input s.account.latest (at_plug d k) ≡ true → ⊥
gone s d k g off there = go s.account.latest g.latest off there
  where
    go : (o : Option ResetEntry) → IsLatest o s.declared s.account → is_some (number_in o d) ≡ false → is_input o (at_plug d k) ≡ true → ⊥
    go None h off there = grind (arith, there)
    go (Some e) h off there =
        let w = row_place (is_input_of (at_plug d k)) e.nodes there in
        let device : w.1.device ≡ d = let x = w.3 in grind (arith, nat_tests, x) in
        let number : number_in (Some e) d ≡ Some w.0 = ap (number_in (Some e)) (sym device) ∙ (h.1.rows w.0 w.1 w.2).1 in
        let on : is_some (number_in (Some e) d) ≡ true = ap is_some number in
        grind (arith, on, off)

off_connection : (s : State) (d k : ℕ) → IsGood s → is_on s d ≡ false → has_connection (s.account.inputs (at_plug d k)) ≡ false
off_connection s d k g off = go (has_connection (s.account.inputs (at_plug d k))) refl
  where
    go : (b : Bool) → has_connection (s.account.inputs (at_plug d k)) ≡ b → has_connection (s.account.inputs (at_plug d k)) ≡ false
    go true e = absurd (gone s d k g off (g.reclaims.step.sound.inputs_there (at_plug d k) e))
    go false e = e

pub off_hears : (s : State) (d k : ℕ) → IsGood s → HasHearing s → is_on s d ≡ false → hears_in s.account s.dub (at_plug d k) ≡ false
off_hears s d k g h off = neither _ _ (off_connection s d k g off) (h.quiet d k off)
  where
    neither : (a b : Bool) → a ≡ false → b ≡ false → (a || b) ≡ false
    neither a b x y = grind (arith, x, y)

-- an input plug of a device on the bus stands
stands : (s : State) (d n k : ℕ) → IsGood s → number_in s.account.latest d ≡ Some n → k < input_plugs_of (kind_at s.declared.kinds d)
    → is_input s.account.latest (at_plug d k) ≡ true
stands s d n k g at lt = go s.account.latest g.latest at
  where
    go : (o : Option ResetEntry) → IsLatest o s.declared s.account → number_in o d ≡ Some n → is_input o (at_plug d k) ≡ true
    go None h at = absurd (let z : ⊥ = cc in z)
    go (Some e) h at = any_at (is_input_of (at_plug d k)) e.nodes n (row_of d (kind_at s.declared.kinds d)) (h.1.numbers d n at) (grind (arith, nat_tests))

-- the word of a plug that stands, and whether it goes on, say whether it hears
pub hears_by_word : (s : State) (d k : ℕ) → IsGood s → IsTrue (is_on s d) → k < input_plugs_of (kind_at s.declared.kinds d)
    → is_active (word_of s.account (InputPlug (at_plug d k))) (s.dub.lingers (at_plug d k)) ≡ hears_in s.account s.dub (at_plug d k)
hears_by_word s d k g on lt = ap (λ b. b || s.dub.lingers (at_plug d k)) (shows_connected (word_of s.account (InputPlug (at_plug d k))) (s.account.inputs (at_plug d k))
    (input_shows (s.account.inputs (at_plug d k)) (s.account.input_channel (at_plug d k)) (sound.counts (at_plug d k)).1 (sound.channels_fit (at_plug d k) there)))
  where
    sound : IsSound s.account
    sound = g.reclaims.step.sound

    there : is_input s.account.latest (at_plug d k) ≡ true
    there = stands s d (node_of s.account.latest d) k g (number_of_on s.account.latest d on) lt

-- and its channel
pub hears_channel : (s : State) (d k : ℕ) → IsGood s → IsTrue (is_on s d) → k < input_plugs_of (kind_at s.declared.kinds d)
    → field (word_of s.account (InputPlug (at_plug d k))) 10 15 ≡ s.account.input_channel (at_plug d k)
hears_channel s d k g on lt =
    let sound : IsSound s.account = g.reclaims.step.sound in
    let there = stands s d (node_of s.account.latest d) k g (number_of_on s.account.latest d on) lt in
    channel_shown (s.account.inputs (at_plug d k)) (s.account.input_channel (at_plug d k)) (sound.counts (at_plug d k)).1 (sound.channels_fit (at_plug d k) there)

-- ---- bus resets

-- a device that is off after one was off before it
was_off : (s : State) (n : Declared) (initiator : ℕ) (out : List Timed) (t : State) → MayReset s n → (r : Resets (declaring s n) initiator out t) → (d : ℕ)
    → is_some (node_number r.entry.nodes d) ≡ false → is_on s d ≡ false
was_off s n initiator out t m r d off = go s.account.latest refl m.good.latest (number_in s.account.latest d) refl
  where
    go : (o : Option ResetEntry) → s.account.latest ≡ o → IsLatest o s.declared s.account → (k : Option ℕ) → number_in o d ≡ k → is_some (number_in s.account.latest d) ≡ false
    go None is h k at = ap (λ o. is_some (number_in o d)) is
    go (Some e) is h None at = ap (λ o. is_some (number_in o d)) is ∙ ap is_some at
    go (Some e) is h (Some k) at =
        let there = stays_node s.declared.topology n.topology n.kinds e r.entry (reset_follows s n initiator out t m r e is h) d k at in
        let on : is_some (node_number r.entry.nodes d) ≡ true = ap is_some there.is in
        absurd (grind (arith, on, off))

resets_hearing : (s : State) (n : Declared) (initiator : ℕ) (out : List Timed) (t : State) → MayReset s n → HasHearing s → Resets (declaring s n) initiator out t → HasHearing t
resets_hearing s n initiator out t m h r = subst HasHearing (sym r.state_is) (record {
  quiet = λ d k off. off_hears s d k m.good h (was_off s n initiator out t m r d off);
})

-- ---- each action

pub step_hearing : (s : State) (a : Action) (out : List Timed) (t : State) → IsGood s → HasHearing s → Transition s a out t → HasHearing t
step_hearing s a out t g h x = go (effect s a out t x)
  where
    by : (y : Alteration) → Allows s a y → HasHearing (altered s y)
    by (Halved d lost resets half_steps) ok = fewer_hear s _ _ (λ q e. quiet_and _ _ e) (half_turn s d g ok.2).1.latest h
    by Over ok = fewer_hear s _ _ (λ q e. refl) (ap (λ (l : Account). l.latest) (second_ends s.account ok.1)) h
    by Withheld ok = fewer_hear s _ _ (λ q e. e) (withholding_keeps (λ (l : Account). l.latest) s.account refl) h
    by _ ok = h

    go : Effect s a out t → HasHearing t
    go (resetting resets half_steps n initiator free begins may r) =
        resets_hearing (numbered s resets half_steps) n initiator out t (may g) h r
    go (altering y waits out_is is ok) = subst HasHearing (sym is) (by y ok)
