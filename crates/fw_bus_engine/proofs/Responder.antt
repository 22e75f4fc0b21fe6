-- The node that a request goes to, by the machine and by the run: the packet that stands on the wire, the response to it, and what nodes keep
-- once the request is carried out. It is the same for the requests of controllers, of candidates and of the script, and for frames.
use Rattle.fw_bus_engine.proofs.Common.{◌≡◌, ℕ, ◌<◌, ◌%◌, List, length, true, Option, Some, None, Reply, reply_in, same_Some, is_some, unwrap_or, refl, ap, sym, subst, ◌∙◌, arith, IsTrue, none-some}
use Rattle.fw_bus_engine.proofs.Common.{has_link, spelling, Fits, Pairs, bytes_from, Head, Packet, Request, ResetEntry, packet_of, request_in, response_of, NodeState, space_of, kind_at, node_at}
use Rattle.fw_bus_engine.proofs.Common.{node_device, State, number_in, device_in, space_at, IsGood, Machine, StandsFor, HasNodes, IsNodeAt, number_of_node, on_within}
use Rattle.fw_async.specs.Heads.{head_of}
use Rattle.fw_csr.specs.declared.request.Request.TheVariants as Asks
use Rattle.fw_node.specs.Contents.{node_id}
use Rattle.fw_node.specs.Packets.{IsServed, response_to, response_with}
use Rattle.fw_async.specs.Reader.{Spells}
use Rattle.fw_node.specs.Space.{Space, answer_of}
use Rattle.fw_node.specs.State.{HasSpace}
use Rattle.fw_devices.specs.Network.{no_entry}
use Rattle.fw_model_run.specs.Spaces.{answer_packet, space_of_device}
use Rattle.fw_model_run.proofs.Words.{device_of_number, node_space_of}
use Rattle.fw_bus_state.specs.Stands.{seen, space_seen}
use Rattle.fw_bus_state.proofs.Latest.{number_is, number_low}
use Rattle.fw_bus_state.proofs.Nodes.{response_same}
use Rattle.fw_bus_engine.specs.Exchanging.{IsOutstanding}

-- ---- its node

-- the device that the latest entry has at a node
pub device_at_node : (m : Machine) (s : State) (e : ResetEntry) (n : ℕ) → StandsFor m s → s.account.latest ≡ Some e
    → node_device m.devices.latest.nodes n ≡ device_in s.account.latest n
device_at_node m s e n st is =
    ap (λ (x : ResetEntry). node_device x.nodes n) (st.devices.latest ∙ ap (λ o. unwrap_or o no_entry) is) ∙ sym (ap (λ o. device_in o n) is)

-- the device of a node, by the machine and by the run
pub device_there : (m : Machine) (s : State) (n d : ℕ) → StandsFor m s → device_in s.account.latest n ≡ Some d → node_device m.devices.latest.nodes n ≡ Some d
device_there m s n d st is = go s.account.latest refl is
  where
    go : (o : Option ResetEntry) → s.account.latest ≡ o → device_in o n ≡ Some d → node_device m.devices.latest.nodes n ≡ Some d
    go None e f = absurd (none-some d f)
    go (Some r) e f = device_at_node m s r n st e ∙ (ap (λ o. device_in o n) e ∙ f)

-- it is among the nodes
pub place_within : (nodes : List NodeState) (s : State) (device to : ℕ) → IsGood s → HasNodes nodes (seen s) → number_in s.account.latest device ≡ Some to → device < length nodes
place_within nodes s device to g h place = on_within nodes s device h g (ap is_some place)

-- and has its number
pub place_number : (nodes : List NodeState) (s : State) (device to : ℕ) → IsGood s → HasNodes nodes (seen s) → number_in s.account.latest device ≡ Some to
    → (node_at nodes device).number ≡ Some to
place_number nodes s device to g h place = number_of_node nodes s device h (place_within nodes s device to g h place) ∙ place

-- and its kind
place_link : (nodes : List NodeState) (s : State) (device to : ℕ) → IsGood s → HasNodes nodes (seen s) → number_in s.account.latest device ≡ Some to
    → IsTrue (has_link (kind_at s.declared.kinds device)) → IsTrue (has_link (node_at nodes device).kind)
place_link nodes s device to g h place link =
    let here : HasSpace (node_at nodes device) (space_seen (seen s) device to) =
    subst (λ o. IsNodeAt o (seen s) device (node_at nodes device)) place (h.each device (place_within nodes s device to g h place)) in
    subst (λ k. has_link k ≡ true) (sym here.kind) link

-- ---- the packet that stands on the wire

-- a packet that asks a request asks it
pub asks_request : (h : Head) (q : Request) → request_in (packet_of h q) ≡ Some q
asks_request h (Asks.Read offset) = refl
asks_request h (Asks.ReadBlock offset len) = refl
asks_request h (Asks.Write offset value) = refl
asks_request h (Asks.WriteBlock offset bytes) = refl
asks_request h (Asks.Lock offset function bytes) = refl

-- and has its head
head_back : (h : Head) (q : Request) → head_of (packet_of h q) ≡ h
head_back h (Asks.Read offset) = refl
head_back h (Asks.ReadBlock offset len) = refl
head_back h (Asks.Write offset value) = refl
head_back h (Asks.WriteBlock offset bytes) = refl
head_back h (Asks.Lock offset function bytes) = refl

-- The request of node `from` that stands, by the run: it goes to the node `to` of this device, which has a link.
pub record Stands (s : State) (wire : Pairs) (from device to : ℕ) (h : Head) (q : Request) : Type 0 where
  pub bytes : bytes_from from wire ≡ Some (spelling (packet_of h q))
  pub fits : Fits (packet_of h q)
  pub destination : h.destination ≡ node_id to
  pub place : number_in s.account.latest device ≡ Some to
  pub link : IsTrue (has_link (kind_at s.declared.kinds device))

-- so the machine can carry it out
pub outstanding : (m : Machine) (s : State) (wire : Pairs) (from device to : ℕ) (h : Head) (q : Request) → IsGood s → StandsFor m s → Stands s wire from device to h q
    → IsOutstanding m.devices wire from device (packet_of h q)
outstanding m s wire from device to h q g st x =
    let nodes = st.devices.nodes in
    let low = number_low s device to g x.place in
    let head = ap (λ (z : Head). z.destination) (head_back h q) ∙ x.destination in
    let same : (head_of (packet_of h q)).destination % 64 ≡ to = omega (arith, head, low) in
    record {
      stands = x.bytes;
      fits = x.fits;
      asks = ap is_some (asks_request h q);
      goes = ap (node_device m.devices.latest.nodes) same ∙ device_there m s to device st (device_of_number s device to g x.place);
      declared = place_within m.devices.nodes s device to g nodes x.place;
      number = ap is_some (place_number m.devices.nodes s device to g nodes x.place);
      link = place_link m.devices.nodes s device to g nodes x.place x.link;
    }

-- ---- the response

-- a node answers a packet in a cycle by this one, whatever number it has
abbrev pub AnswersBy : ℕ → NodeState → Packet → Packet → Type 0
AnswersBy cycle n packet response = (number : ℕ) → n.number ≡ Some number → response_of (space_of number cycle n) packet ≡ Some response

-- a space answers the packet of a request
answers_packet : (z : Space) (h : Head) (q : Request) → response_of z (packet_of h q) ≡ response_to z.number (packet_of h q) (answer_of z q).reply
answers_packet z h q = ap (response_with z (packet_of h q)) (asks_request h q)

-- the node of the account answers it as the run says
node_answers : (s : State) (device to : ℕ) (h : Head) (q : Request) → IsGood s → number_in s.account.latest device ≡ Some to
    → response_of (space_of_device s device) (packet_of h q) ≡ answer_packet s to h q
node_answers s device to h q g place =
    ap (λ n. response_of (space_at s device n) (packet_of h q)) (number_is s.account.latest device to place)
    ∙ (answers_packet (space_at s device to) h q ∙ ap (λ z. response_to to (packet_of h q) (answer_of z q).reply) (sym (node_space_of s device to g place)))

-- and so does the node of the machine
pub response_is : (nodes : List NodeState) (s : State) (cycle device to : ℕ) (h : Head) (q : Request) (packet response : Packet) → IsGood s → HasNodes nodes (seen s) → cycle ≡ s.clock.cycle
    → number_in s.account.latest device ≡ Some to → packet ≡ packet_of h q → AnswersBy cycle (node_at nodes device) packet response → answer_packet s to h q ≡ Some response
response_is nodes s cycle device to h q packet response g at now place same answers =
    let number = place_number nodes s device to g at place in
    sym (node_answers s device to h q g place)
    ∙ (sym (response_same nodes s device at g (ap is_some place) to number (packet_of h q))
    ∙ ((λ i. response_of (space_of to (sym now i) (node_at nodes device)) (sym same i)) ∙ answers to number))

-- The response that a node wrote when it carried a request out, and the reply in it
pub record Response (cycle : ℕ) (n : NodeState) (packet : Packet) (bytes : List ℕ) (reply : Reply) : Type 0 where
  pub response : Packet
  pub answers : AnswersBy cycle n packet response
  pub spells : Spells response bytes
  pub carries : reply_in response ≡ Some reply

-- by the number that the node has
pub response_written : (cycle number : ℕ) (n : NodeState) (packet : Packet) (bytes : List ℕ) (reply : Reply) → n.number ≡ Some number
    → ((k : ℕ) → n.number ≡ Some k → IsServed (space_of k cycle n) packet bytes reply) → Response cycle n packet bytes reply
response_written cycle number n packet bytes reply is written =
    let found = written number is in
    record {
      response = found.packet;
      answers = λ k e. ap (λ (j : ℕ). response_of (space_of j cycle n) packet) (same_Some k number (sym e ∙ is)) ∙ found.answers;
      spells = found.spells;
      carries = found.carries;
    }
