-- A network is its frame and its nodes.
use Rattle.fw_devices.proofs.Common.{ℕ, ◌≡◌, ◌≤◌, Bool, true, List, length, map, slice_set, sym, ap, subst, ◌∙◌, arith, length-map, DeviceKind, Relay, NodeState, Network, kinds_of, node_at}
use Rattle.fw_devices.proofs.Common.{NetworkFrame, IsFound}
use Rattle.std.proofs.Common.{set}
use Rattle.std.proofs.lemmas.List.{map-set, set-get_or}
use Rattle.fw_tree.specs.declared.numbering.Numbering.{Numbering}
use Rattle.fw_devices.specs.Network.{IsNetwork}
use Rattle.fw_devices.specs.Frames.{IsOf, nodes_at}
use Rattle.fw_devices.specs.Kept.{IsKept}
use Rattle.fw_devices.proofs.NetworkLaws.{kind_of_node}

-- the kinds stay if a node takes the place of one of its kind
pub kinds_set : (nodes : List NodeState) (place : ℕ) (x y : NodeState) → y ≡ node_at nodes place → x.kind ≡ y.kind → kinds_of (slice_set nodes place x) ≡ kinds_of nodes
kinds_set nodes place x y is same =
    map-set kind_of nodes place x ∙ (ap (set (kinds_of nodes) place) (same ∙ (ap kind_of is ∙ sym (kind_of_node nodes place))) ∙ set-get_or (kinds_of nodes) place Relay)
  where
    kind_of : NodeState → DeviceKind
    kind_of n = n.kind

module _ (frame : NetworkFrame) (kept : List NodeState) (numbers : List ℕ) (n : Network) (of : IsOf frame kept numbers n) where
  pub few_numbers : length numbers ≤ 63
  few_numbers = let e = ap length of.nodes ∙ length-map numbers (node_at kept) in omega (arith, e, of.same, of.few)

  -- which has the frame and the nodes that were given back
  pub given_back : (f : NetworkFrame) (nodes : List NodeState) → f ≡ frame → nodes ≡ nodes_at kept numbers
      → ◌≡◌ {A = Network} (record { topology = f.topology; names = f.names; nodes = nodes; epoch = f.epoch; manager = f.manager; latest = f.latest; withheld = f.withheld }) n
  given_back f nodes same_frame same_nodes =
      let e = same_frame ∙ sym of.frame in
      let d = same_nodes ∙ sym of.nodes in
      λ i. record { topology = (e i).topology; names = (e i).names; nodes = d i; epoch = (e i).epoch; manager = (e i).manager; latest = (e i).latest; withheld = (e i).withheld }

  -- of which there are as many as names
  pub same_count : (nodes : List NodeState) → nodes ≡ nodes_at kept numbers → length nodes ≡ length n.names
  same_count nodes same = ap length same ∙ (sym (ap length of.nodes) ∙ of.same)

  pub kept_of : (x : Network) (room : ℕ) (current : Bool) (numbering : Numbering) → x ≡ n → 63 ≤ room → (current ≡ true → IsFound x.topology (kinds_of x.nodes) numbering x.manager x.latest)
      → IsKept x room current numbering
  kept_of x room current numbering is roomy found =
      let few : Network → Type 0 = λ y. length y.names ≤ 63 in
      let same : Network → Type 0 = λ y. length y.nodes ≡ length y.names in
      record {
        network = subst IsNetwork (sym is) of.network;
        few = subst few (sym is) of.few;
        same = subst same (sym is) of.same;
        nodes_room = roomy;
        found = found;
      }
