-- Which plugs talk, by the nodes and by the account.
use Rattle.fw_bus_state.proofs.Common.{◌≡◌, ◌⊎◌, inl, inr, ℕ, ◌<◌, ◌≤◌, nat_lt, ◌&&◌, List, length, slice_index, slice_index_or}
use Rattle.fw_bus_state.proofs.Common.{Bool, true, false, cond, Option, Some, None, is_some, refl, ap, sym, ◌∙◌}
use Rattle.fw_bus_state.proofs.Common.{arith, IsTrue, cases_lt, false≢true, nat_tests, DeviceKind, output_plugs_of, at_plug, ResetEntry, NodeRow, is_active, facts_at, UnitState, NodeState, tape_of}
use Rattle.fw_bus_state.proofs.Common.{kind_at, node_at, IsGood, IsLatest, State, number_in, HasLingering, IsNodeAt, HasNodes}
use Rattle.fw_terms.proofs.KindLaws.{unitless_silent}
use Rattle.fw_model_account.specs.Account.{talks}
use Rattle.fw_model_account.specs.Network.{is_output, is_output_of}
use Rattle.fw_model_account.proofs.Network.{any_place}
use Rattle.fw_plug.specs.Plugs.{PlugWords}
use Rattle.fw_tree.proofs.FitLaws.{speed_low}
use Rattle.fw_tree.proofs.ReachLaws.{sound_made}
use Rattle.fw_node.specs.State as Nodes
use Rattle.fw_node.specs.Streams as Plugs
use Rattle.fw_model_run.specs.Decks.{DeckState}
use Rattle.fw_model_run.specs.State.{has_deck}
use Rattle.fw_model_run.specs.Units.{HasDeck}
use Rattle.fw_model_run.proofs.Lingers.{off_talks}
use Rattle.fw_model_run.proofs.Units.{tape_is}
use Rattle.fw_bus_state.proofs.Flags.{first_rests}
use Rattle.fw_bus_state.proofs.Latest.{undeclared_off}
use Rattle.fw_bus_state.proofs.Lingers.{node_talks}
use Rattle.fw_bus_state.specs.Stands.{seen}

-- a plug that a device does not have does not talk
pub silent_plug : (s : State) (d k : ℕ) → IsGood s → output_plugs_of (kind_at s.declared.kinds d) ≤ k → talks s.account (at_plug d k) ≡ false
silent_plug s d k g none = go (talks s.account (at_plug d k)) refl
  where
    gone : (o : Option ResetEntry) → IsLatest o s.declared s.account → is_output o (at_plug d k) ≡ true → ⊥
    gone None h there = false≢true there
    gone (Some e) h there =
        let w = any_place (is_output_of (at_plug d k)) e.nodes there in
        let test = w.3 in
        let device : w.1.device ≡ d = grind (arith, nat_tests, test) in
        let plugs : k < w.1.outs = grind (arith, nat_tests, test) in
        let row : w.1.outs ≡ output_plugs_of (kind_at s.declared.kinds w.1.device) = ap (λ (r : NodeRow). r.outs) (h.1.rows w.0 w.1 w.2).0 in
        let kind : output_plugs_of (kind_at s.declared.kinds w.1.device) ≡ output_plugs_of (kind_at s.declared.kinds d) =
        ap (λ j. output_plugs_of (kind_at s.declared.kinds j)) device in
        absurd (omega (arith, none, plugs, row, kind))

    go : (b : Bool) → talks s.account (at_plug d k) ≡ b → talks s.account (at_plug d k) ≡ false
    go true on = absurd (gone s.account.latest g.latest (g.reclaims.step.sound.there (at_plug d k) on))
    go false off = off

-- nor does that of a device that is not declared
pub undeclared_silent : (nodes : List NodeState) (s : State) (d : ℕ) → IsGood s → HasNodes nodes (seen s) → length nodes ≤ d → talks s.account (at_plug d 0) ≡ false
undeclared_silent nodes s d g h past = off_talks s d 0 g (ap is_some (undeclared_off s d g (let size = h.size in omega (arith, past, size))))

-- nor that of one that is as it was declared, whatever its unit keeps
first_silent : (u : Option UnitState) (kind : DeviceKind) (device rate : ℕ) (withheld : Bool) → rate < 4
    → Plugs.talks (record (Nodes.first_state kind device rate withheld) { unit = u }) ≡ false
first_silent u kind device rate withheld low = go (cases_lt 0 (length p.outputs))
  where
    p : PlugWords
    p = (Nodes.first_state kind device rate withheld).plugs

    active : Bool
    active = is_active (slice_index p.outputs 0) (slice_index_or p.lingering_outputs 0 false)

    quiet : (b : Bool) → (b && false) ≡ false
    quiet true = refl
    quiet false = refl

    go : (0 < length p.outputs) ⊎ (length p.outputs ≤ 0) → (nat_lt 0 (length p.outputs) && active) ≡ false
    go (inl some) = ap (λ b. nat_lt 0 (length p.outputs) && b) (first_rests kind device rate 0 low some) ∙ quiet (nat_lt 0 (length p.outputs))
    go (inr none) =
        let test : nat_lt 0 (length p.outputs) ≡ false = grind (arith, nat_tests, none) in
        ap (λ b. b && active) test

-- the speeds of devices are few
low_speed : (s : State) (d : ℕ) → IsGood s → (facts_at s.declared.topology.devices d).speed < 4
low_speed s d g = let low = speed_low s.declared.topology.devices d (sound_made s.declared.topology g.declared.made).devices in omega (arith, low)

-- on the bus or off, a node talks exactly if the account says so
pub talks_same : (nodes : List NodeState) (s : State) (d : ℕ) → IsGood s → HasNodes nodes (seen s) → HasLingering nodes s.account.continues → d < length nodes
    → Plugs.talks (node_at nodes d) ≡ talks s.account (at_plug d 0)
talks_same nodes s d g h linger low = go (number_in s.account.latest d) refl (h.each d low)
  where
    n : NodeState
    n = node_at nodes d

    there : (number : ℕ) → number_in s.account.latest d ≡ Some number → length n.plugs.outputs ≡ output_plugs_of (kind_at s.declared.kinds d)
        → (0 < length n.plugs.outputs) ⊎ (length n.plugs.outputs ≤ 0) → Plugs.talks n ≡ talks s.account (at_plug d 0)
    there number at size (inl some) =
        let test : nat_lt 0 (length n.plugs.outputs) ≡ true = grind (arith, nat_tests, some) in
        ap (λ b. b && is_active (slice_index n.plugs.outputs 0) (slice_index_or n.plugs.lingering_outputs 0 false)) test
        ∙ node_talks nodes s d number g h linger low at 0 some
    there number at size (inr none) =
        let test : nat_lt 0 (length n.plugs.outputs) ≡ false = grind (arith, nat_tests, none) in
        ap (λ b. b && is_active (slice_index n.plugs.outputs 0) (slice_index_or n.plugs.lingering_outputs 0 false)) test
        ∙ sym (silent_plug s d 0 g (omega (arith, none, size)))

    go : (o : Option ℕ) → number_in s.account.latest d ≡ o → IsNodeAt o (seen s) d n → Plugs.talks n ≡ talks s.account (at_plug d 0)
    go None off is =
        ap Plugs.talks is
        ∙ (first_silent n.unit (kind_at s.declared.kinds d) d (facts_at s.declared.topology.devices d).speed n.withheld (low_speed s d g)
        ∙ sym (off_talks s d 0 g (ap is_some off)))
    go (Some number) at is = there number at is.outputs (cases_lt 0 (length n.plugs.outputs))

-- a device that talks has a unit, so the tape of its node is that of its deck
pub tape_same : (n : NodeState) (s : State) (d : ℕ) (k : DeckState) → IsGood s → HasDeck n (has_deck s d) k → IsTrue (talks s.account (at_plug d 0))
    → tape_of n ≡ k.unit.tape
tape_same n s d k g h on = tape_is (has_deck s d) n k h ∙ go (has_deck s d) refl
  where
    go : (b : Bool) → has_deck s d ≡ b → cond b k.unit.tape None ≡ k.unit.tape
    go true has = refl
    go false none =
        let plugs = unitless_silent (kind_at s.declared.kinds d) none in
        absurd (false≢true (sym (silent_plug s d 0 g (omega (arith, plugs))) ∙ on))

-- there are 63 devices at most
pub few_nodes : (nodes : List NodeState) (s : State) → IsGood s → HasNodes nodes (seen s) → length nodes ≤ 63
few_nodes nodes s g h =
    let few = (sound_made s.declared.topology g.declared.made).few in
    let named = g.declared.named in
    let size = h.size in
    omega (arith, few, named, size)
