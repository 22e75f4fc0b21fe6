-- The node that is lent: None exactly if the device is no node.
use Rattle.std.proofs.Common.{◌≡◌, ℕ, true, false, List, Option, Some, None, is_some, refl, ap, sym, subst, ◌∙◌}
use Rattle.fw_node.specs.State.{NodeState}
use Rattle.fw_devices.specs.Network.{is_node, node_at}
use Rattle.fw_model_run.specs.State.{State, is_on, number_in}
use Rattle.fw_model_run.specs.Good.{IsGood}
use Rattle.fw_bus.specs.Buses.{LendsNode, LendsNodeAt}
use Rattle.fw_bus_state.specs.Lingering.{HasLingering}
use Rattle.fw_bus_state.specs.Reels.{HasHearers}
use Rattle.fw_bus_state.specs.Stands.{IsNodeAt, HasNodes, seen}
use Rattle.fw_bus_state.proofs.Hearing.{node_hears}
use Rattle.fw_bus_state.proofs.Lingers.{node_talks}
use Rattle.fw_bus_state.proofs.Nodes.{is_node_same, on_within, space_in_time}

-- the node of the device, if there is one
pub lends : (s : State) (nodes : List NodeState) (d : ℕ) (o : Option NodeState) → IsGood s → HasNodes nodes (seen s) → HasLingering nodes s.account.continues → HasHearers nodes s.dub.lingers
    → (is_node nodes d ≡ false → o ≡ None) → (is_node nodes d ≡ true → o ≡ Some (node_at nodes d)) → LendsNode s d o
lends s nodes d o g h lingers hears off on = go (number_in s.account.latest d) refl
  where
    is : is_node nodes d ≡ is_on s d
    is = is_node_same nodes s h g d

    go : (n : Option ℕ) → number_in s.account.latest d ≡ n → LendsNodeAt n s d o
    go None e = off (is ∙ ap is_some e)
    go (Some n) e =
        let there : is_on s d ≡ true = ap is_some e in
        let P : Option NodeState → Type 0 = LendsNodeAt (Some n) s d in
        let Q : Option ℕ → Type 0 = λ k. IsNodeAt k (seen s) d (node_at nodes d) in
        let low = on_within nodes s d h g there in
        subst P (sym (on (is ∙ there))) (space_in_time s d n (node_at nodes d) (subst Q e (h.each d low)), node_talks nodes s d n g h lingers low e, node_hears nodes s d n g h hears low e)

pub lends_none : (s : State) (nodes : List NodeState) (d : ℕ) → IsGood s → HasNodes nodes (seen s) → HasLingering nodes s.account.continues → HasHearers nodes s.dub.lingers → is_node nodes d ≡ false
    → LendsNode s d None
lends_none s nodes d g h lingers hears e = lends s nodes d None g h lingers hears (λ t. refl) (λ t. let z : ⊥ = cc in absurd z)

pub lends_some : (s : State) (nodes : List NodeState) (d : ℕ) → IsGood s → HasNodes nodes (seen s) → HasLingering nodes s.account.continues → HasHearers nodes s.dub.lingers → is_node nodes d ≡ true
    → LendsNode s d (Some (node_at nodes d))
lends_some s nodes d g h lingers hears e = lends s nodes d (Some (node_at nodes d)) g h lingers hears (λ t. let z : ⊥ = cc in absurd z) (λ t. refl)
