-- What the end of the second leaves of the nodes.
use Rattle.fw_bus_engine.proofs.Common.{◌≡◌, ℕ, zero, suc, ◌<◌, length, map, List, [], ◌∷◌, Bool, false, Option, Some, None, refl, ap, sym, subst, ◌∙◌, arith, DeviceKind, NodeState, kind_at, kinds_of}
use Rattle.fw_bus_engine.proofs.Common.{node_at, Account, Register, BandwidthAvailable, ChannelsAvailable, OutputPlug, InputPlug, word_of, State, number_in, IsNodeAt, HasNodes}
use Rattle.std.proofs.Common.{replicate}
use Rattle.fw_terms.specs.Devices.{output_plugs_of, input_plugs_of}
use Rattle.fw_plug.specs.Plugs.{first_words}
use Rattle.fw_tree.specs.SelfIds.{facts_at}
use Rattle.fw_node.specs.State as Nodes
use Rattle.fw_model_account.specs.Events.{after_second as account_second}
use Rattle.std.proofs.lemmas.List.{length-map}
use Rattle.fw_bus_state.proofs.DeckNodes.{mapped_at}
use Rattle.fw_bus_state.specs.Stands.{seen}

-- the end of the second changes no register
pub same_words : (l : Account) (r : Register) → word_of (account_second l) r ≡ word_of l r
same_words l BandwidthAvailable = refl
same_words l (ChannelsAvailable base) = refl
same_words l (OutputPlug p) = refl
same_words l (InputPlug p) = refl

-- no plug lingers in a device that is as it was declared
none_linger : (n : ℕ) → map (λ (l : Bool). false) (replicate n false) ≡ replicate n false
none_linger zero = refl
none_linger (suc n) = ap (λ ls. false ∷ ls) (none_linger n)

-- so it leaves such a device as it is
first_rests : (kind : DeviceKind) (device rate : ℕ) (withheld : Bool) → Nodes.after_second (Nodes.first_state kind device rate withheld) ≡ Nodes.first_state kind device rate withheld
first_rests kind device rate withheld =
    let outputs = none_linger (output_plugs_of kind) in
    let inputs = none_linger (input_plugs_of kind) in
    let words = first_words (output_plugs_of kind) (input_plugs_of kind) rate in
    λ i. record (Nodes.first_state kind device rate withheld) { plugs = record words { lingering_outputs = outputs i; lingering_inputs = inputs i } }

-- the node of each device keeps what it has against the account
node_rests : (o : Option ℕ) (s : State) (d : ℕ) (n : NodeState) → IsNodeAt o (seen s) d n → IsNodeAt o (seen s) d (Nodes.after_second n)
node_rests None s d n is =
    ap Nodes.after_second is
    ∙ ap (λ (m : NodeState). record m { unit = n.unit }) (first_rests (kind_at s.declared.kinds d) d (facts_at s.declared.topology.devices d).speed n.withheld)
node_rests (Some number) s d n is = record {
  number = is.number;
  kind = is.kind;
  device = is.device;
  rate = is.rate;
  outputs = is.outputs;
  inputs = is.inputs;
  output_words = is.output_words;
  input_words = is.input_words;
  manager = is.manager;
}

-- each stays of its kind
pub rested_kinds : (nodes : List NodeState) → kinds_of (map Nodes.after_second nodes) ≡ kinds_of nodes
rested_kinds [] = refl
rested_kinds (n ∷ nodes) = ap (λ ks. n.kind ∷ ks) (rested_kinds nodes)

-- all nodes keep what they have
pub nodes_rest : (nodes : List NodeState) (s : State) → HasNodes nodes (seen s) → HasNodes (map Nodes.after_second nodes) (seen s)
nodes_rest nodes s h = record {
  size = length-map nodes Nodes.after_second ∙ h.size;
  each = λ d lt.
      let low : d < length nodes = let size = length-map nodes Nodes.after_second in omega (arith, lt, size) in
      let P : NodeState → Type 0 = IsNodeAt (number_in s.account.latest d) (seen s) d in
      subst P (sym (mapped_at Nodes.after_second nodes d low)) (node_rests (number_in s.account.latest d) s d (node_at nodes d) (h.each d low));
}
