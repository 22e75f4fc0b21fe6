-- What the nodes of devices keep, against the account.
use Rattle.fw_bus_state.proofs.Common.{Bool, ◌≡◌, ℕ, ◌+◌, ◌<◌, ◌≤◌, List, [], ◌∷◌, ◌++◌, length, true, false, nat_lt, ◌&&◌, Option, Some, None, is_some, refl, ap, sym, subst, ◌∙◌, arith, IsTrue}
use Rattle.fw_bus_state.proofs.Common.{◌⊎◌, inl, inr, cases_lt, nat_tests, get_or_append_left, get_or_push, length-append, same_Some, at_plug, DeviceKind, Relay, output_plugs_of, input_plugs_of}
use Rattle.fw_bus_state.proofs.Common.{Request, OutputPlug, InputPlug, word_of, node_of, facts_at, NodeState, HasSpace, kind_at, node_at, State, number_in, is_on, with_device, space_at}
use Rattle.fw_bus_state.proofs.Common.{IsGood, Machine, IsNodeAt, HasNodes, StandsFor}
use Rattle.std.proofs.Common.{unwrap_or}
use Rattle.fw_async.specs.declared.packet.Packet.{Packet}
use Rattle.fw_csr.specs.declared.request.Request.TheVariants as Asks
use Rattle.fw_csr.specs.Requests.{offset_of}
use Rattle.fw_csr.specs.Replies.{reply}
use Rattle.fw_model_account.specs.Words.{first_address}
use Rattle.fw_tree.specs.declared.facts.PhyFacts.{PhyFacts}
use Rattle.fw_node.specs.Space.{Space, register_at}
use Rattle.fw_node.specs.Packets.{request_in, response_to, response_with, response_of}
use Rattle.fw_node.specs.State.{space_of}
use Rattle.fw_node.specs.State as Nodes
use Rattle.fw_node.proofs.Spaces.{registers_same}
use Rattle.fw_devices.specs.Network.{facts_of, is_node}
use Rattle.fw_model_run.specs.State.{is_linked}
use Rattle.fw_model_run.specs.Spaces.{space_of_device, read_at}
use Rattle.fw_bus_state.specs.Stands.{read_in, seen, space_seen}
use Rattle.fw_bus_state.proofs.Latest.{on_declared, undeclared_off, on_number, number_low}

-- what is said of a device that is not declared
abbrev pub no_facts : PhyFacts
no_facts = record { ports = 0; speed = 0; link = false; contender = false }

-- ---- states that differ elsewhere

-- the registers tell no cycle
pub space_in_time : (s : State) (d k : ℕ) (n : NodeState) → HasSpace n (space_seen (seen s) d k) → HasSpace n (space_at s d k)
space_in_time s d k n h = record {
  number = h.number;
  kind = h.kind;
  device = h.device;
  rate = h.rate;
  outputs = h.outputs;
  inputs = h.inputs;
  output_words = h.output_words;
  input_words = h.input_words;
  manager = h.manager;
}

-- a node's registers are those of another space that agrees at the plugs that are there
pub space_as : (n : NodeState) (a b : Space) → HasSpace n a → b.number ≡ a.number → b.kind ≡ a.kind → b.device ≡ a.device → b.rate ≡ a.rate
    → ((k : ℕ) → k < output_plugs_of a.kind → b.output_word k ≡ a.output_word k) → ((k : ℕ) → k < input_plugs_of a.kind → b.input_word k ≡ a.input_word k)
    → b.manager ≡ a.manager → HasSpace n b
space_as n a b h number kind device rate outputs inputs manager =
    let outs : output_plugs_of b.kind ≡ output_plugs_of a.kind = ap output_plugs_of kind in
    let ins : input_plugs_of b.kind ≡ input_plugs_of a.kind = ap input_plugs_of kind in
    record {
      number = h.number ∙ ap Some (sym number);
      kind = h.kind ∙ sym kind;
      device = h.device ∙ sym device;
      rate = h.rate ∙ sym rate;
      outputs = h.outputs ∙ sym outs;
      inputs = h.inputs ∙ sym ins;
      output_words = λ k lt. let low : k < output_plugs_of a.kind = omega arith in h.output_words k low ∙ sym (outputs k low);
      input_words = λ k lt. let low : k < input_plugs_of a.kind = omega arith in h.input_words k low ∙ sym (inputs k low);
      manager = h.manager ∙ sym manager;
    }

-- what is kept of a device is the same for another state that agrees on the device
pub node_as : (s t : State) (d : ℕ) (o : Option ℕ) (n : NodeState) → kind_at t.declared.kinds d ≡ kind_at s.declared.kinds d
    → (facts_at t.declared.topology.devices d).speed ≡ (facts_at s.declared.topology.devices d).speed
    → ((k : ℕ) → k < output_plugs_of (kind_at s.declared.kinds d) → word_of t.account (OutputPlug (at_plug d k)) ≡ word_of s.account (OutputPlug (at_plug d k)))
    → ((k : ℕ) → k < input_plugs_of (kind_at s.declared.kinds d) → word_of t.account (InputPlug (at_plug d k)) ≡ word_of s.account (InputPlug (at_plug d k)))
    → ((m : ℕ) → o ≡ Some m → (space_at t d m).manager ≡ (space_at s d m).manager) → IsNodeAt o (seen s) d n → IsNodeAt o (seen t) d n
node_as s t d None n kind speed outputs inputs manager is = is ∙ (λ i. record (Nodes.first_state (sym kind i) d (sym speed i) n.withheld) { unit = n.unit })
node_as s t d (Some m) n kind speed outputs inputs manager is =
    space_as n (space_seen (seen s) d m) (space_seen (seen t) d m) is refl kind refl speed outputs inputs (manager m refl)

-- ---- one device more

-- a device that is declared has its node beside those of the others, which stay
pub nodes_declared : (nodes : List NodeState) (s : State) (name : List ℕ) (kind : DeviceKind) (ports speed : ℕ) (withheld : Bool) → IsGood s → HasNodes nodes (seen s)
    → HasNodes (nodes ++ Nodes.first_state kind (length s.declared.names) speed withheld ∷ []) (seen (record s { declared = with_device s.declared name kind ports speed }))
nodes_declared nodes s name kind ports speed withheld g h = record {
  size = let size = h.size in omega (arith, length-append nodes (new ∷ []), length-append s.declared.names (name ∷ []));
  each = λ d lt. go d lt (cases_lt d (length nodes));
}
  where
    new : NodeState
    new = Nodes.first_state kind (length s.declared.names) speed withheld

    facts : PhyFacts
    facts = facts_of kind ports speed

    t : State
    t = record s { declared = with_device s.declared name kind ports speed }

    go : (d : ℕ) → d < length (nodes ++ new ∷ []) → (d < length nodes) ⊎ (length nodes ≤ d)
        → IsNodeAt (number_in s.account.latest d) (seen t) d (node_at (nodes ++ new ∷ []) d)
    go d lt (inl low) =
        let size = h.size in
        let named = g.declared.named in
        let same = g.declared.kinds.size in
        let k = get_or_append_left s.declared.kinds (kind ∷ []) Relay d (omega arith) in
        let v = get_or_append_left s.declared.topology.devices (facts ∷ []) no_facts d (omega arith) in
        let P : NodeState → Type 0 = IsNodeAt (number_in s.account.latest d) (seen t) d in
        subst P (sym (get_or_append_left nodes (new ∷ []) (Nodes.first_state Relay 0 0 false) d low))
        (node_as s t d (number_in s.account.latest d) (node_at nodes d) k (ap (λ (f : PhyFacts). f.speed) v) (λ j below. refl) (λ j below. refl)
        (λ m is. refl) (h.each d low))
    go d lt (inr past) =
        let size = h.size in
        let named = g.declared.named in
        let same = g.declared.kinds.size in
        let here : d ≡ length s.declared.names = omega (arith, length-append nodes (new ∷ [])) in
        let k : kind_at t.declared.kinds d ≡ kind = get_or_push s.declared.kinds kind Relay d (omega arith) in
        let v : facts_at t.declared.topology.devices d ≡ facts = get_or_push s.declared.topology.devices facts no_facts d (omega arith) in
        let P : Option ℕ → Type 0 = λ o. IsNodeAt o (seen t) d (node_at (nodes ++ new ∷ []) d) in
        subst P (sym (undeclared_off s d g (omega arith)))
        (let is = get_or_push nodes new (Nodes.first_state Relay 0 0 false) d (omega arith) in
        is ∙ (λ i. record (Nodes.first_state (sym k i) (sym here i) (sym v i).speed (sym is i).withheld) { unit = (sym is i).unit }))

-- ---- only units change

-- a node whose registers stay, with another unit and another response that waits, has what it had
pub node_kept : (o : Option ℕ) (s : State) (d : ℕ) (n m : NodeState) → m ≡ record n { unit = m.unit; waiting = m.waiting } → (o ≡ None → m.waiting ≡ None)
    → IsNodeAt o (seen s) d n → IsNodeAt o (seen s) d m
node_kept None s d n m same none is =
    let withheld : n.withheld ≡ m.withheld = sym (ap (λ (x : NodeState). x.withheld) same) in
    same ∙ ((λ i. record (is i) { unit = m.unit; waiting = m.waiting })
    ∙ (λ i. record (Nodes.first_state (kind_at s.declared.kinds d) d (facts_at s.declared.topology.devices d).speed (withheld i)) { unit = m.unit; waiting = none refl i }))
node_kept (Some number) s d n m same none is =
    subst (λ z. HasSpace z (space_seen (seen s) d number)) (sym same)
    (record {
      number = is.number;
      kind = is.kind;
      device = is.device;
      rate = is.rate;
      outputs = is.outputs;
      inputs = is.inputs;
      output_words = is.output_words;
      input_words = is.input_words;
      manager = is.manager;
    })

-- ---- numbers

-- a node has the number of its device
pub number_of_node : (nodes : List NodeState) (s : State) (d : ℕ) → HasNodes nodes (seen s) → d < length nodes
    → (node_at nodes d).number ≡ number_in s.account.latest d
number_of_node nodes s d h lt = go (number_in s.account.latest d) (h.each d lt)
  where
    go : (o : Option ℕ) → IsNodeAt o (seen s) d (node_at nodes d) → (node_at nodes d).number ≡ o
    go None is = ap (λ (n : NodeState). n.number) is
    go (Some n) is = is.number

pub is_node_same : (nodes : List NodeState) (s : State) → HasNodes nodes (seen s) → IsGood s → (d : ℕ) → is_node nodes d ≡ is_on s d
is_node_same nodes s h g d = go (cases_lt d (length nodes))
  where
    go : (d < length nodes) ⊎ (length nodes ≤ d) → is_node nodes d ≡ is_on s d
    go (inl lt) =
        let t : nat_lt d (length nodes) ≡ true = grind (arith, nat_tests) in
        let e : is_some (node_at nodes d).number ≡ is_on s d = ap is_some (number_of_node nodes s d h lt) in
        ap (λ b. b && is_some (node_at nodes d).number) t ∙ e
    go (inr past) =
        let t : nat_lt d (length nodes) ≡ false = grind (arith, nat_tests) in
        let e : is_on s d ≡ false = ap is_some (undeclared_off s d g (let size = h.size in omega arith)) in
        ap (λ b. b && is_some (node_at nodes d).number) t ∙ sym e

-- a device on the bus is among the nodes
pub on_within : (nodes : List NodeState) (s : State) (d : ℕ) → HasNodes nodes (seen s) → IsGood s → IsTrue (is_on s d) → d < length nodes
on_within nodes s d h g on = let low = on_declared s d (node_of s.account.latest d) g (on_number s d on) in let size = h.size in omega arith

pub node_number_is : (nodes : List NodeState) (s : State) (d : ℕ) → HasNodes nodes (seen s) → IsGood s → IsTrue (is_on s d)
    → ((node_at nodes d).number ≡ Some (node_of s.account.latest d)) × (node_of s.account.latest d ≤ 62)
node_number_is nodes s d h g on =
    let number = on_number s d on in
    (number_of_node nodes s d h (on_within nodes s d h g on) ∙ number, number_low s d (node_of s.account.latest d) g number)

-- it has the registers of the account
pub node_seen : (nodes : List NodeState) (s : State) (d : ℕ) → HasNodes nodes (seen s) → IsGood s → IsTrue (is_on s d)
    → HasSpace (node_at nodes d) (space_seen (seen s) d (node_of s.account.latest d))
node_seen nodes s d h g on =
    let P : Option ℕ → Type 0 = λ o. IsNodeAt o (seen s) d (node_at nodes d) in
    subst P (on_number s d on) (h.each d (on_within nodes s d h g on))

-- in any cycle
pub node_has : (nodes : List NodeState) (s : State) (d : ℕ) → HasNodes nodes (seen s) → IsGood s → IsTrue (is_on s d)
    → HasSpace (node_at nodes d) (space_at s d (node_of s.account.latest d))
node_has nodes s d h g on = space_in_time s d (node_of s.account.latest d) (node_at nodes d) (node_seen nodes s d h g on)

pub linked_on : (s : State) (d : ℕ) → IsTrue (is_linked s d) → IsTrue (is_on s d)
linked_on s d linked = grind arith

-- ---- answers

-- a node answers a packet as its space
pub response_by_space : (n : NodeState) (a : Space) → HasSpace n a → (p : Packet) → response_of (space_of a.number a.cycle n) p ≡ response_of a p
response_by_space n a h p = go (request_in p)
  where
    go : (o : Option Request) → response_with (space_of a.number a.cycle n) p o ≡ response_with a p o
    go None = refl
    go (Some r) = ap (λ register. response_to a.number p (reply register r)) (registers_same n a (offset_of r) h)

-- a device on the bus answers a packet as the account
pub response_same : (nodes : List NodeState) (s : State) (d : ℕ) → HasNodes nodes (seen s) → IsGood s → IsTrue (is_on s d) → (number : ℕ)
    → (node_at nodes d).number ≡ Some number
    → (p : Packet) → response_of (space_of number s.clock.cycle (node_at nodes d)) p ≡ response_of (space_of_device s d) p
response_same nodes s d h g on number is p =
    let same : number ≡ node_of s.account.latest d = same_Some number (node_of s.account.latest d) (sym is ∙ (node_number_is nodes s d h g on).0) in
    ap (λ k. response_of (space_of k s.clock.cycle (node_at nodes d)) p) same
    ∙ response_by_space (node_at nodes d) (space_at s d (node_of s.account.latest d)) (node_has nodes s d h g on) p

pub read_on : (m : Machine) (s : State) → IsGood s → StandsFor m s → (d offset : ℕ) → IsTrue (is_on s d) → read_in m d offset ≡ read_at s d offset
read_on m s g st d offset on =
    let r : Request = Asks.Read (first_address + offset) in
    let n : NodeState = node_at m.devices.nodes d in
    let number : unwrap_or n.number 0 ≡ node_of s.account.latest d = ap (λ o. unwrap_or o 0) (node_number_is m.devices.nodes s d st.devices.nodes g on).0 in
    let here = node_has m.devices.nodes s d st.devices.nodes g on in
    ap (λ a. reply (register_at a (offset_of r)) r) (λ i. space_of (number i) (st.clock.cycle i) n)
    ∙ ap (λ register. reply register r) (registers_same n (space_at s d (node_of s.account.latest d)) (offset_of r) here)

pub read_same : (m : Machine) (s : State) → IsGood s → StandsFor m s → (d offset : ℕ) → IsTrue (is_linked s d) → read_in m d offset ≡ read_at s d offset
read_same m s g st d offset linked = read_on m s g st d offset (linked_on s d linked)
