-- Who talks on a channel: by the nodes, and by the account.
use Rattle.fw_bus_state.proofs.Common.{◌≡◌, ◌⊎◌, inl, inr, ℕ, ◌<◌, ◌≤◌, ◌==◌, ◌&&◌, List, length, slice_index}
use Rattle.fw_bus_state.proofs.Common.{slice_index_or, Bool, true, false, cond, Option, Some, None, is_some, option_map, refl, ap}
use Rattle.fw_bus_state.proofs.Common.{sym, subst, ◌∙◌, arith, IsTrue, cases_lt, false≢true, nat_tests, same_Some}
use Rattle.fw_bus_state.proofs.Common.{output_plugs_of, at_plug, PlugAt, Account, field, NodeState, kind_at, node_at, IsGood}
use Rattle.fw_bus_state.proofs.Common.{State, is_on, HasLingering, HasNodes}
use Rattle.fw_terms.specs.Tables.{find_plug}
use Rattle.fw_terms.proofs.KindLaws.{plugs_few}
use Rattle.fw_terms.proofs.Tables.{find_plug_is, IsFirstPlug}
use Rattle.fw_model_account.specs.Account.{talks}
use Rattle.fw_model_account.proofs.Decoded.{output_of_word}
use Rattle.fw_model_account.proofs.Network.{output_in_range}
use Rattle.fw_model_account.proofs.Shared.{is_conflict_free}
use Rattle.fw_plug.specs.Words.{OutFields}
use Rattle.fw_node.specs.Streams.{talking_on}
use Rattle.fw_node.specs.Streams as Nodes
use Rattle.fw_devices.specs.Streams.{AreTalkers}
use Rattle.fw_model_run.specs.Streams.{talker_on}
use Rattle.fw_model_run.proofs.Lingers.{off_talks}
use Rattle.fw_bus_state.proofs.Nodes.{node_has}
use Rattle.fw_bus_state.proofs.Streaming.{silent_plug, talks_same, undeclared_silent}
use Rattle.fw_bus_state.specs.Stands.{seen}

-- ---- one device

-- it is on the bus
pub talker_on_bus : (s : State) (d : ℕ) → IsGood s → IsTrue (talks s.account (at_plug d 0)) → IsTrue (is_on s d)
talker_on_bus s d g on = go (is_on s d) refl
  where
    go : (b : Bool) → is_on s d ≡ b → is_on s d ≡ true
    go true e = e
    go false off = absurd (false≢true (sym (off_talks s d 0 g off) ∙ on))

-- and it has an output plug
talker_has_plug : (s : State) (d : ℕ) → IsGood s → IsTrue (talks s.account (at_plug d 0)) → 0 < output_plugs_of (kind_at s.declared.kinds d)
talker_has_plug s d g on = go (cases_lt 0 (output_plugs_of (kind_at s.declared.kinds d)))
  where
    go : (0 < output_plugs_of (kind_at s.declared.kinds d)) ⊎ (output_plugs_of (kind_at s.declared.kinds d) ≤ 0)
        → 0 < output_plugs_of (kind_at s.declared.kinds d)
    go (inl some) = some
    go (inr none) = absurd (false≢true (sym (silent_plug s d 0 g none) ∙ on))

-- the channel in the register is that of the account
channel_same : (nodes : List NodeState) (s : State) (d : ℕ) → IsGood s → HasNodes nodes (seen s) → IsTrue (talks s.account (at_plug d 0))
    → field (slice_index (node_at nodes d).plugs.outputs 0) 10 15 ≡ (s.account.settings (at_plug d 0)).channel
channel_same nodes s d g h on =
    let sound = g.reclaims.step.sound in
    let space = node_has nodes s d h g (talker_on_bus s d g on) in
    ap (λ w. field w 10 15) (space.output_words 0 (talker_has_plug s d g on))
    ∙ ap (λ (f : OutFields). f.settings.channel) (output_of_word s.account (at_plug d 0) sound (sound.there (at_plug d 0) on))

-- a node talks on the channel of the account
pub talks_there : (nodes : List NodeState) (s : State) (d : ℕ) → IsGood s → HasNodes nodes (seen s) → HasLingering nodes s.account.continues → d < length nodes
    → IsTrue (talks s.account (at_plug d 0))
    → talking_on (node_at nodes d) ≡ Some (s.account.settings (at_plug d 0)).channel
talks_there nodes s d g h linger low on =
    ap (λ b. cond b (Some (field (slice_index (node_at nodes d).plugs.outputs 0) 10 15)) None) (talks_same nodes s d g h linger low ∙ on)
    ∙ ap Some (channel_same nodes s d g h on)

-- and if it talks, the account says so
pub talks_here : (nodes : List NodeState) (s : State) (d channel : ℕ) → IsGood s → HasNodes nodes (seen s) → HasLingering nodes s.account.continues → d < length nodes
    → talking_on (node_at nodes d) ≡ Some channel → IsTrue (talks s.account (at_plug d 0)) × ((s.account.settings (at_plug d 0)).channel ≡ channel)
talks_here nodes s d channel g h linger low is = (on, same_Some _ channel (sym (talks_there nodes s d g h linger low on) ∙ is))
  where
    go : (b : Bool) → Nodes.talks (node_at nodes d) ≡ b → cond b (Some (field (slice_index (node_at nodes d).plugs.outputs 0) 10 15)) None ≡ Some channel
        → Nodes.talks (node_at nodes d) ≡ true
    go true e is = e
    go false e is = let no : ⊥ = cc is in absurd no

    on : IsTrue (talks s.account (at_plug d 0))
    on = sym (talks_same nodes s d g h linger low) ∙ go (Nodes.talks (node_at nodes d)) refl is

-- ---- all of them

-- what talks is the one output plug of a declared device
plug_is : (nodes : List NodeState) (s : State) (p : PlugAt) → IsGood s → HasNodes nodes (seen s) → IsTrue (talks s.account p)
    → (p ≡ at_plug p.device 0) × (p.device < length nodes)
plug_is nodes s p g h on = (same, go (cases_lt p.device (length nodes)))
  where
    first : p.plug ≡ 0
    first = pick (cases_lt 0 p.plug)
      where
        pick : (0 < p.plug) ⊎ (p.plug ≤ 0) → p.plug ≡ 0
        pick (inl some) =
            let few = (plugs_few (kind_at s.declared.kinds p.device)).0 in
            absurd (false≢true (sym (silent_plug s p.device p.plug g (omega (arith, some, few))) ∙ on))
        pick (inr none) = omega (arith, none)

    same : p ≡ at_plug p.device 0
    same i = record { device = p.device; plug = first i }

    go : (p.device < length nodes) ⊎ (length nodes ≤ p.device) → p.device < length nodes
    go (inl lt) = lt
    go (inr past) = absurd (false≢true (sym (undeclared_silent nodes s p.device g h past) ∙ subst (λ q. IsTrue (talks s.account q)) same on))

-- the plug that talks on a channel is that of the device in the table
pub talker_is : (nodes : List NodeState) (s : State) (talkers : List (Option ℕ)) (channel : ℕ) → IsGood s → HasNodes nodes (seen s) → HasLingering nodes s.account.continues
    → AreTalkers (length nodes) nodes talkers → talker_on s.account channel ≡ option_map (λ d. at_plug d 0) (slice_index_or talkers channel None)
talker_is nodes s talkers channel g h linger are = go (find_plug test) (find_plug_is test) (slice_index_or talkers channel None) refl
  where
    l : Account
    l = s.account

    test : PlugAt → Bool
    test p = talks l p && ((l.settings p).channel == channel)

    both : (a : Bool) (k n : ℕ) → (a && (k == n)) ≡ true → (a ≡ true) × (k ≡ n)
    both a k n e = (grind (arith, e), grind (arith, nat_tests, e))

    passes : (a : Bool) (k n : ℕ) → a ≡ true → k ≡ n → (a && (k == n)) ≡ true
    passes a k n e same = grind (arith, nat_tests, e, same)

    -- the device of an entry talks on the channel
    entry : (d : ℕ) → slice_index_or talkers channel None ≡ Some d → IsTrue (talks l (at_plug d 0)) × ((l.settings (at_plug d 0)).channel ≡ channel)
    entry d e = let x = are.talk channel d e in talks_here nodes s d channel g h linger x.0 x.1

    -- if a plug does, there is an entry
    there : (p : PlugAt) → IsTrue (talks l p) → (l.settings p).channel ≡ channel → slice_index_or talkers channel None ≡ None → ⊥
    there p on at none =
        let is = plug_is nodes s p g h on in
        let now : talking_on (node_at nodes p.device) ≡ Some channel =
        talks_there nodes s p.device g h linger is.1 (subst (λ q. IsTrue (talks l q)) is.0 on) ∙ ap Some (sym (ap (λ q. (l.settings q).channel) is.0) ∙ at) in
        false≢true (sym (ap is_some none) ∙ are.all p.device channel is.1 now)

    go : (o : Option PlugAt) → IsFirstPlug test o → (e : Option ℕ) → slice_index_or talkers channel None ≡ e → o ≡ option_map (λ d. at_plug d 0) e
    go None f None e = refl
    go None f (Some d) e =
        let x = entry d e in
        let sound = g.reclaims.step.sound in
        let low = output_in_range l.latest (at_plug d 0) sound.range (sound.there (at_plug d 0) x.0) in
        absurd (false≢true (sym (f (at_plug d 0) low.0 low.1) ∙ passes (talks l (at_plug d 0)) (l.settings (at_plug d 0)).channel channel x.0 x.1))
    go (Some p) f None e = let x = both (talks l p) (l.settings p).channel channel f in absurd (there p x.0 x.1 e)
    go (Some p) f (Some d) e =
        let x = both (talks l p) (l.settings p).channel channel f in
        let y = entry d e in
        ap Some ((is_conflict_free l g.reclaims.step.sound).one_talker p (at_plug d 0) x.0 y.0 (x.1 ∙ sym y.1))
