-- What declaring a device and changing registers leave of a network.
use Rattle.fw_devices.proofs.Common.{Bool, ◌≡◌, inl, inr, ℕ, ◌+◌, ◌<◌, map, List, [], ◌∷◌, ◌++◌, length, get_or, slice_set, Option, Some, None, true, false, arith, refl, sym, ap, subst, ◌∙◌, cases_eq}
use Rattle.fw_devices.proofs.Common.{cases_lt, length-map, length_push, DeviceKind, Relay, Made, NodeState, first_state, after_second, Network, kinds_of, kind_at, node_at, same_bytes}
use Rattle.std.proofs.Common.{zero, suc}
use Rattle.std.proofs.Common.{length-set, get_or-set_same, get_or-set_other}
use Rattle.std.specs.Str.{bytes_eq}
use Rattle.std.proofs.lemmas.List.{get_or_append_left, get_or_push, get_or_read}
use Rattle.fw_terms.specs.Devices.{has_link, is_contender}
use Rattle.fw_tree.specs.declared.facts.PhyFacts.{PhyFacts}
use Rattle.fw_tree.specs.SelfIds.{facts_at}
use Rattle.fw_csr.specs.declared.request.Request.{Request}
use Rattle.fw_node.specs.State.{after_request}
use Rattle.fw_devices.specs.Network.{IsNetwork, facts_of, with_device}

-- the two tests of names say the same
pub same_bytes_is : (xs ys : List ℕ) → bytes_eq xs ys ≡ same_bytes xs ys
same_bytes_is [] [] = refl
same_bytes_is [] (y ∷ ys) = refl
same_bytes_is (x ∷ xs) [] = refl
same_bytes_is (x ∷ xs) (y ∷ ys) = rw (same_bytes_is xs ys) refl

-- the kind of a device, as its node has it
pub kind_of_node : (nodes : List NodeState) (d : ℕ) → kind_at (kinds_of nodes) d ≡ (node_at nodes d).kind
kind_of_node [] d = refl
kind_of_node (x ∷ xs) zero = refl
kind_of_node (x ∷ xs) (suc d) = kind_of_node xs d

-- what is true of each device and its node
record Fits (withheld : Bool) (d : ℕ) (f : PhyFacts) (n : NodeState) : Type 0 where
  link : f.link ≡ has_link n.kind
  contender : f.contender ≡ is_contender n.kind
  device : n.device ≡ d
  rate : n.plugs.rate ≡ f.speed
  apart : n.withheld ≡ withheld

pub size_of : (n : Network) → IsNetwork n → length n.nodes ≡ length n.topology.devices
size_of n h = sym (length-map n.nodes (λ (x : NodeState). x.kind)) ∙ h.kinds.size

fits_of : (n : Network) → IsNetwork n → (d : ℕ) → d < length n.topology.devices → Fits n.withheld d (facts_at n.topology.devices d) (node_at n.nodes d)
fits_of n h d low =
    let size = size_of n h in
    record {
      link = h.kinds.link d low ∙ ap has_link (kind_of_node n.nodes d);
      contender = h.kinds.contender d low ∙ ap is_contender (kind_of_node n.nodes d);
      device = h.numbers d (omega arith);
      rate = h.rates d (omega arith);
      apart = h.withhold d (omega arith);
    }

network_of : (n : Network) → Made n.topology → length n.names ≡ length n.topology.devices → length n.nodes ≡ length n.topology.devices
    → ((d : ℕ) → d < length n.topology.devices → Fits n.withheld d (facts_at n.topology.devices d) (node_at n.nodes d)) → IsNetwork n
network_of n made names size fits = record {
  made = made;
  names = names;
  kinds = record {
    size = length-map n.nodes (λ (x : NodeState). x.kind) ∙ size;
    link = λ d low. (fits d low).link ∙ ap has_link (sym (kind_of_node n.nodes d));
    contender = λ d low. (fits d low).contender ∙ ap is_contender (sym (kind_of_node n.nodes d));
  };
  numbers = λ d low. (fits d (omega arith)).device;
  rates = λ d low. (fits d (omega arith)).rate;
  withhold = λ d low. (fits d (omega arith)).apart;
}

-- ---- registers that change

-- the two are of one device
pub record IsSameDevice (m n : NodeState) : Type 0 where
  pub kind : n.kind ≡ m.kind
  pub device : n.device ≡ m.device
  pub rate : n.plugs.rate ≡ m.plugs.rate
  pub withheld : n.withheld ≡ m.withheld

pub record AreSameDevices (old new : List NodeState) : Type 0 where
  pub size : length new ≡ length old
  pub each : (d : ℕ) → d < length old → IsSameDevice (node_at old d) (node_at new d)

fits_same : (withheld : Bool) (d : ℕ) (f : PhyFacts) (m n : NodeState) → Fits withheld d f m → IsSameDevice m n → Fits withheld d f n
fits_same withheld d f m n h s = record {
  link = h.link ∙ ap has_link (sym s.kind);
  contender = h.contender ∙ ap is_contender (sym s.kind);
  device = s.device ∙ h.device;
  rate = s.rate ∙ h.rate;
  apart = s.withheld ∙ h.apart;
}

pub network_kept : (n m : Network) → IsNetwork n → m.topology ≡ n.topology → m.names ≡ n.names → m.withheld ≡ n.withheld → AreSameDevices n.nodes m.nodes → IsNetwork m
network_kept n m h topology names withheld s =
    let size = s.size ∙ size_of n h in
    let fits : (d : ℕ) → d < length n.topology.devices → Fits n.withheld d (facts_at n.topology.devices d) (node_at m.nodes d) = λ d low. let all = size_of n h in
    fits_same n.withheld d (facts_at n.topology.devices d) (node_at n.nodes d) (node_at m.nodes d) (fits_of n h d low) (s.each d (omega arith)) in
    network_of m (rw topology h.made) (rw (topology, names) h.names) (rw topology size) (rw (topology, withheld) fits)

-- a request leaves a node's device as it is
pub same_after : (r : Option Request) (n : NodeState) → IsSameDevice n (after_request r n)
same_after None n = record { kind = refl; device = refl; rate = refl; withheld = refl }
same_after (Some r) n = record { kind = refl; device = refl; rate = refl; withheld = refl }

-- the end of the second after a bus reset leaves each node's device as it is
pub node_mapped : (f : NodeState → NodeState) (nodes : List NodeState) (d : ℕ) → d < length nodes → node_at (map f nodes) d ≡ f (node_at nodes d)
node_mapped f [] d low = absurd (omega arith)
node_mapped f (n ∷ ns) zero low = refl
node_mapped f (n ∷ ns) (suc d) low = node_mapped f ns d (omega arith)

pub same_second : (nodes : List NodeState) → AreSameDevices nodes (map after_second nodes)
same_second nodes = record {
  size = length-map nodes after_second;
  each = λ d low. let P : NodeState → Type 0 = IsSameDevice (node_at nodes d) in
      subst P (sym (node_mapped after_second nodes d low)) (record { kind = refl; device = refl; rate = refl; withheld = refl });
}

-- if one node was exchanged for another of the same device
pub same_set : (nodes : List NodeState) (i : ℕ) (x y : NodeState) → i < length nodes → x ≡ get_or nodes i x → IsSameDevice x y → AreSameDevices nodes (slice_set nodes i y)
same_set nodes i x y low is s = record {
  size = length-set nodes i y;
  each = λ d less. elim (cases_eq d i) [
    | inl here ↦
        let P : NodeState → Type 0 = λ m. IsSameDevice m (node_at (slice_set nodes i y) d) in
        let Q : NodeState → Type 0 = IsSameDevice x in
        subst P (get_or_read nodes i x low is (first_state Relay 0 0 false) ∙ ap (node_at nodes) (sym here))
        (subst Q (sym (ap (node_at (slice_set nodes i y)) here ∙ get_or-set_same nodes i y (first_state Relay 0 0 false) low)) s)
    | inr other ↦
        let Q : NodeState → Type 0 = IsSameDevice (node_at nodes d) in
        subst Q (sym (get_or-set_other nodes i d y (first_state Relay 0 0 false) other)) (record { kind = refl; device = refl; rate = refl; withheld = refl })
  ];
}

-- ---- a device more

-- what holds of each device and its node, and of one more, holds of each of the longer lists
each_pushed : (P : ℕ → PhyFacts → NodeState → Type 0) (devices : List PhyFacts) (nodes : List NodeState) (f : PhyFacts) (x : NodeState) → length nodes ≡ length devices
    → ((d : ℕ) → d < length devices → P d (facts_at devices d) (node_at nodes d)) → P (length devices) f x
    → (d : ℕ) → d < length devices + 1 → P d (facts_at (devices ++ f ∷ []) d) (node_at (nodes ++ x ∷ []) d)
each_pushed P devices nodes f x size each one d low = elim (cases_lt d (length devices)) [
  | inl less ↦
      let F : PhyFacts → Type 0 = λ g. P d g (node_at (nodes ++ x ∷ []) d) in
      let N : NodeState → Type 0 = λ m. P d (facts_at devices d) m in
      subst F (sym (get_or_append_left devices (f ∷ []) (record { ports = 0; speed = 0; link = false; contender = false }) d less))
      (subst N (sym (get_or_append_left nodes (x ∷ []) (first_state Relay 0 0 false) d (omega arith))) (each d less))
  | inr most ↦
      let here : d ≡ length devices = omega arith in
      let F : PhyFacts → Type 0 = λ g. P d g (node_at (nodes ++ x ∷ []) d) in
      let N : NodeState → Type 0 = λ m. P d f m in
      let D : ℕ → Type 0 = λ k. P k f x in
      subst F (sym (get_or_push devices f (record { ports = 0; speed = 0; link = false; contender = false }) d (sym here)))
      (subst N (sym (get_or_push nodes x (first_state Relay 0 0 false) d (size ∙ sym here))) (subst D (sym here) one))
]

pub network_more : (n : Network) (name : List ℕ) (kind : DeviceKind) (ports speed : ℕ) → IsNetwork n → Made (with_device n name kind ports speed).topology
    → IsNetwork (with_device n name kind ports speed)
network_more n name kind ports speed h made =
    let size = size_of n h in
    let more = length_push n.topology.devices (facts_of kind ports speed) in
    network_of (with_device n name kind ports speed) made
    (length_push n.names name ∙ ap (λ k. k + 1) h.names ∙ sym more)
    (length_push n.nodes (first_state kind (length n.names) speed n.withheld) ∙ ap (λ k. k + 1) size ∙ sym more)
    (λ d low. each_pushed (Fits n.withheld) n.topology.devices n.nodes (facts_of kind ports speed) (first_state kind (length n.names) speed n.withheld) size (fits_of n h)
    (record { link = refl; contender = refl; device = h.names; rate = refl; apart = refl }) d (omega arith))

-- if no device is declared, channel 31 may be withheld
pub network_withheld : (n : Network) → IsNetwork n → n.names ≡ [] → IsNetwork (record n { withheld = true })
network_withheld n h none = record {
  made = h.made;
  names = h.names;
  kinds = h.kinds;
  numbers = h.numbers;
  rates = h.rates;
  withhold = λ d low. let names = h.names in let size = size_of n h in absurd (omega (arith, names, size, ap (λ (xs : List (List ℕ)). length xs) none, low));
}
