-- The calls by which a frame goes out: what the devices give, the node that it goes to, and that node's answer.
use Rattle.fw_bus_engine.proofs.Common.{◌≡◌, ℕ, ◌<◌, length, slice_set, Bool, true, false, cond, ◌==◌, Option, Some, None, option_map, is_some, refl, ap, sym, subst, ◌∙◌, arith, IsTrue, length-set}
use Rattle.fw_bus_engine.proofs.Common.{same_Some, Packet, has_link, Async, Frame, request_in, after_request, node_device}
use Rattle.fw_bus_engine.proofs.Common.{Network, kind_at, kinds_of, node_at, Receive, State, Machine, TakesTwoActions}
use Rattle.fw_bus_engine.proofs.Common.{IsReady, is_linked_in, linked_same, linked_on, node_number_is, on_within}
use Rattle.std.specs.Prelude.{IsSome}
use Rattle.std.specs.Int.{from_be_bytes, w32}
use Rattle.fw_async.specs.declared.packet.Packet.TheVariants.{WriteQuadlet, WriteBlock}
use Rattle.fw_fcp.specs.Frames.{spelling}
use Rattle.fw_node.specs.Fcp.{number_of}
use Rattle.fw_node.specs.Fcp as Fcp
use Rattle.fw_model_run.specs.Actions.{SendFrame}
use Rattle.fw_model_run.specs.Frames.{next_told}
use Rattle.fw_model_run.proofs.Units.{addressed}
use Rattle.fw_bus_engine.specs.Framing.{IsFrameTo, frames_of}
use Rattle.fw_bus_engine.proofs.FrameNodes.{with_decks}
use Rattle.fw_bus_engine.proofs.Responder.{AnswersBy, device_there}
use Rattle.fw_bus_engine.proofs.FrameTurns.{Telling, decks_sent, frame_talks, next_is, sent_good, taken_of, taken_stands, told_by}
use Rattle.fw_bus_state.proofs.Nodes.{node_has}
use Rattle.fw_bus_engine.proofs.Sending.{frames_fewer}

-- ---- the next frame

-- the devices gave the next frame of a device
pub record Outgoing (m : Machine) (d : ℕ) (taken : Network) (packet : Packet) : Type 0 where
  pub low : d < length m.devices.nodes
  pub told : ℕ × Frame
  pub next : Fcp.next_frame (node_at m.devices.nodes d) ≡ Some told
  pub packet_is : packet ≡ Fcp.frame_packet (number_of (node_at m.devices.nodes d).number) told
  pub taken_is : taken ≡ (taken_of m d).devices

told_of : {A B : Type 0} (f : A → B) (o : Option A) (x : B) → Some x ≡ option_map f o → (y : A) × (o ≡ Some y) × (x ≡ f y)
told_of f None x e = let no : ⊥ = cc e in absurd no
told_of f (Some y) x e = (y, refl, same_Some x (f y) e)

pub outgoing : (m : Machine) (d : ℕ) (taken : Network) (packet : Packet) → d < length m.devices.nodes
    → Some packet ≡ option_map (Fcp.frame_packet (number_of (node_at m.devices.nodes d).number)) (Fcp.next_frame (node_at m.devices.nodes d))
    → taken ≡ (taken_of m d).devices → Outgoing m d taken packet
outgoing m d taken packet low e is =
    let t = told_of (Fcp.frame_packet (number_of (node_at m.devices.nodes d).number)) (Fcp.next_frame (node_at m.devices.nodes d)) packet e in
    record { low = low; told = t.0; next = t.1; packet_is = t.2; taken_is = is }

-- it asks something of its node
either_asks : (b : Bool) (p q : Packet) → IsSome (request_in p) → IsSome (request_in q) → IsSome (request_in (cond b p q))
either_asks true p q f g = f
either_asks false p q f g = g

frame_asks : (from : ℕ) (told : ℕ × Frame) → IsSome (request_in (Fcp.frame_packet from told))
frame_asks from told =
    let bytes = spelling told.1 in
    either_asks (length bytes == 4) (WriteQuadlet (Fcp.frame_head from told.0) 0xFFFF_F000_0D00 (from_be_bytes w32 bytes)) (WriteBlock (Fcp.frame_head from told.0) 0xFFFF_F000_0D00 bytes) refl refl

pub outgoing_asks : {m : Machine} {d : ℕ} {taken : Network} {packet : Packet} → Outgoing m d taken packet → IsSome (request_in packet)
outgoing_asks x = subst (λ p. IsSome (request_in p)) (sym x.packet_is) (frame_asks _ x.told)

-- ---- the node that it goes to

-- by the machine as it was, and once the frame was taken
record GoesTo (m : Machine) (d : ℕ) (told : ℕ × Frame) (to : ℕ) : Type 0 where
  at : node_device m.devices.latest.nodes told.0 ≡ Some to
  few : told.0 < 64
  low : to < length m.devices.nodes
  there : to < length (taken_of m d).devices.nodes
  number : (node_at (taken_of m d).devices.nodes to).number ≡ Some told.0
  link : IsTrue (has_link (node_at (taken_of m d).devices.nodes to).kind)

-- a linked device's kind has a link
has_one : (n : Network) (d : ℕ) → is_linked_in n d ≡ true → has_link (kind_at (kinds_of n.nodes) d) ≡ true
has_one n d linked = grind (arith, linked)

goes_to : (m : Machine) (d : ℕ) (told : ℕ × Frame) → IsReady m → d < length m.devices.nodes → Fcp.next_frame (node_at m.devices.nodes d) ≡ Some told
    → (to : ℕ) × GoesTo m d told to
goes_to m d told r low is =
    let s = r.state in
    let next : next_told s d ≡ Some told = sym (next_is m s d r.stands low) ∙ is in
    let a = addressed s d told r.good next in
    let good = sent_good s d told r.good a next in
    let stands = taken_stands m s d r.stands low in
    let t : State = with_decks s (decks_sent s d) in
    let on = linked_on t a.to a.linked in
    let nodes = stands.devices.nodes in
    let number = node_number_is (taken_of m d).devices.nodes t a.to nodes good on in
    let there = on_within (taken_of m d).devices.nodes t a.to nodes good on in
    let kind = (node_has (taken_of m d).devices.nodes t a.to nodes good on).kind in
    let linked = linked_same (taken_of m d).devices t a.to good stands.devices ∙ a.linked in
    let most = number.1 in
    let node = a.node in
    let size = length-set m.devices.nodes d (Fcp.after_frame (node_at m.devices.nodes d)) in (
      a.to,
      record {
        at = device_there m s told.0 a.to r.stands a.addressee;
        few = omega (arith, most, node);
        low = omega (arith, there, size);
        there = there;
        number = number.0 ∙ ap (λ n. Some n) node;
        link = subst (λ k. has_link k ≡ true) (sym kind)
            (subst (λ kinds. has_link (kind_at kinds a.to) ≡ true) stands.devices.kinds (has_one (taken_of m d).devices a.to linked));
      },
    )

-- a frame's packet is to its node
frame_to : (from : ℕ) (told : ℕ × Frame) (p : Packet) → p ≡ Fcp.frame_packet from told → told.0 < 64 → IsFrameTo p told.0
frame_to from told p is few = (from, told, is, refl, few)

pub addressed_to : {m : Machine} {d : ℕ} {taken : Network} {packet : Packet} → IsReady m → Outgoing m d taken packet
    → (n : ℕ) × IsFrameTo packet n × IsSome (node_device taken.latest.nodes n)
addressed_to {m} {d} {taken} {packet} r x =
    let w = goes_to m d x.told r x.low x.next in (
      x.told.0,
      frame_to _ x.told packet x.packet_is w.1.few,
      ap is_some (ap (λ (n : Network). node_device n.latest.nodes x.told.0) x.taken_is ∙ w.1.at),
    )

goes_there : {m : Machine} {d : ℕ} {taken : Network} {packet : Packet} (to : ℕ) → IsReady m → (x : Outgoing m d taken packet)
    → ((n : ℕ) → IsFrameTo packet n → node_device taken.latest.nodes n ≡ Some to) → GoesTo m d x.told to
goes_there {m} {d} {taken} {packet} to r x addressee =
    let w = goes_to m d x.told r x.low x.next in
    let is = frame_to _ x.told packet x.packet_is w.1.few in
    let found = ap (λ (n : Network). node_device n.latest.nodes x.told.0) (sym x.taken_is) ∙ addressee x.told.0 is in
    subst (GoesTo m d x.told) (same_Some w.0 to (sym w.1.at ∙ found)) w.1

-- it answers
pub record Reaches (taken : Network) (to : ℕ) : Type 0 where
  pub declared : to < length taken.nodes
  pub number : IsSome (node_at taken.nodes to).number
  pub link : IsTrue (has_link (node_at taken.nodes to).kind)

pub reaches : {m : Machine} {d : ℕ} {taken : Network} {packet : Packet} (to : ℕ) → IsReady m → Outgoing m d taken packet
    → ((n : ℕ) → IsFrameTo packet n → node_device taken.latest.nodes n ≡ Some to) → Reaches taken to
reaches {m} {d} {taken} to r x addressee =
    let w = goes_there to r x addressee in
    subst (λ n. Reaches n to) (sym x.taken_is) (record { declared = w.there; number = ap is_some w.number; link = w.link })

-- ---- its answer

-- the frame went to its node, which answered the write
pub record Answered (m : Machine) (d to : ℕ) (taken after : Network) (packet response : Packet) : Type 0 where
  pub ready : IsReady m
  pub out : Outgoing m d taken packet
  pub addressee : (n : ℕ) → IsFrameTo packet n → node_device taken.latest.nodes n ≡ Some to
  pub answers : AnswersBy m.cycle (node_at taken.nodes to) packet response
  pub after_is : after ≡ record taken { nodes = slice_set taken.nodes to (after_request (request_in packet) (node_at taken.nodes to)) }

pub answered : {m : Machine} {d to : ℕ} {taken after : Network} {packet response : Packet} → IsReady m → Outgoing m d taken packet
    → ((n : ℕ) → IsFrameTo packet n → node_device taken.latest.nodes n ≡ Some to) → AnswersBy m.cycle (node_at taken.nodes to) packet response
    → after ≡ record taken { nodes = slice_set taken.nodes to (after_request (request_in packet) (node_at taken.nodes to)) }
    → Answered m d to taken after packet response
answered ready out addressee answers is = record { ready = ready; out = out; addressee = addressee; answers = answers; after_is = is }

told_after : {m : Machine} {d to : ℕ} {taken after : Network} {packet response : Packet} → Answered m d to taken after packet response
    → after ≡ (told_by m d to packet).devices
told_after {to = to} {packet = packet} x =
    x.after_is ∙ ap (λ (n : Network). record n { nodes = slice_set n.nodes to (after_request (request_in packet) (node_at n.nodes to)) }) x.out.taken_is

pub answered_talks : {m : Machine} {d to : ℕ} {taken after : Network} {packet response : Packet} → Answered m d to taken after packet response
    → TakesTwoActions (SendFrame d) (Receive None) m (record m { devices = after }) m.cycle (Async packet) (Async response)
answered_talks {m} {d} {to} {taken} {after} {packet} {response} x =
    let telling : Telling m d to x.out.told packet response = record {
      low = x.out.low;
      next = x.out.next;
      packet_is = x.out.packet_is;
      addressee = (goes_there to x.ready x.out x.addressee).at;
      answers = subst (λ (n : Network). AnswersBy m.cycle (node_at n.nodes to) packet response) x.out.taken_is x.answers;
    } in
    frame_talks m (record m { devices = after }) d to x.out.told packet response telling (ap (λ (n : Network). record m { devices = n }) (told_after x))

-- the device has one frame less
pub answered_fewer : {m : Machine} {d to : ℕ} {taken after : Network} {packet response : Packet} → Answered m d to taken after packet response
    → frames_of (node_at after.nodes d) < frames_of (node_at m.devices.nodes d)
answered_fewer {m} {d} {to} {packet = packet} x =
    subst (λ (n : Network). frames_of (node_at n.nodes d) < frames_of (node_at m.devices.nodes d)) (sym (told_after x))
    (frames_fewer m.devices.nodes d to x.out.told (request_in packet) x.out.low (goes_there to x.ready x.out x.addressee).low x.out.next)
