-- The request that is read off the wire, and the response that is written.
use Rattle.fw_bus_engine.proofs.Common.{◌≡◌, ℕ, ◌<◌, ◌^◌, ◌==◌, List, Bool, true, false, cond, option_map, Some}
use Rattle.fw_bus_engine.proofs.Common.{refl, ap, sym, subst, ◌∙◌, arith, IsTrue, length, same_Some, Packet}
use Rattle.fw_bus_engine.proofs.Common.{spelling, Fits, Pairs, bytes_from, without, node_of, Current, Nothing, Asking, Hearing, Overtaken, Directory, Access, Target, Procedure}
use Rattle.fw_bus_engine.proofs.Common.{ControllerState, addressee_of, offset_of, standing_in, Reply, packet_of, request_head, space_of, Network, node_at, node_device, State}
use Rattle.fw_bus_engine.proofs.Common.{directory_of, is_living, IsGood, half_hears, Awaits, stands_here, state_same, Machine, StandsFor, IsReady, is_living_in, looked_at, states_of, nodes_after}
use Rattle.fw_bus_engine.proofs.Common.{living_same}
use Rattle.fw_cmp_jobs.specs.declared.request.Target.TheVariants.{OutputPlug, InputPlug, Channels, BandwidthAvailable}
use Rattle.fw_cmp.specs.Controllers.{IsStanding}
use Rattle.fw_cmp_jobs.specs.Requests.{request_of}
use Rattle.fw_model_controllers.specs.Requests.{PlugNumberFits, procedure_head}
use Rattle.fw_node.specs.Packets.{IsServed}
use Rattle.fw_model_run.proofs.Fitting.{procedure_fits, request_fits}
use Rattle.fw_model_run.proofs.Hears.{heard_of}
use Rattle.fw_bus_state.specs.Wires.{controller_asks, packet_for}
use Rattle.fw_bus_engine.proofs.Exchanges.{Exchange, standing_of, addressee_is, device_is, exchange_of, exchange_addresses, exchange_kind}
use Rattle.fw_bus_engine.proofs.Responder.{Response, Stands, outstanding, place_number, response_written}
use Rattle.fw_bus_engine.specs.Exchanging.{IsOutstanding}
use Rattle.fw_bus_engine.proofs.HalfWires.{own_number, own_place}
use Rattle.fw_bus_state.proofs.Latest.{number_low}
use Rattle.fw_bus_state.proofs.Wires.{stands_at}

-- ---- where the request went

-- what the machine knows of it: what it asks, and where it went
pub record Went (m : Machine) (d device : ℕ) : Type 0 where
  pub access : Access
  pub to : ℕ
  pub asks : Some access ≡ standing_in (states_of m.controllers d).state.current
  pub goes : Some to ≡ addressee_of m.directory access.target
  pub at : Some device ≡ node_device m.devices.latest.nodes to

-- an outstanding request asks something
standing_some : (m : Machine) (s : State) (d : ℕ) → IsGood s → StandsFor m s → IsTrue (is_living_in m d) → Awaits (states_of m.controllers d)
    → (a : Access) × (standing_in (states_of m.controllers d).state.current ≡ Some a)
standing_some m s d g st lives stands = go (s.controllers d).current refl (stands_here m s d st stands)
  where
    living : IsTrue (is_living s d)
    living = sym (living_same m s d g st) ∙ lives

    go : (c : Current) → (s.controllers d).current ≡ c → IsStanding c → (a : Access) × (standing_in (states_of m.controllers d).state.current ≡ Some a)
    go Nothing e h = absurd h
    go (Asking j stage) e h = absurd h
    go (Overtaken i o) e h = absurd h
    go (Hearing j stage) e h =
        let x = heard_of s d j stage g living e in
        (_, ap (λ (c : ControllerState). standing_in c.current) (state_same m s d st stands.0) ∙ (ap standing_in e ∙ (half_hears s d j stage g e x).access))

-- it went to the node of a device
pub went_there : (m : Machine) (s : State) (d : ℕ) → IsGood s → StandsFor m s → IsTrue (is_living_in m d) → Awaits (states_of m.controllers d)
    → (device : ℕ) × Went m d device
went_there m s d g st lives stands =
    let a = standing_some m s d g st lives stands in
    let x = standing_of m s d a.0 g st lives stands (sym a.1) in
    let w = device_is m s d a.0 g st x in
    (w.0, record { access = a.0; to = x.heard.to; asks = sym a.1; goes = sym (addressee_is m s d a.0 st x); at = sym w.1 })

-- ---- its bytes

-- the packet
abbrev pub went_packet : {m : Machine} {d device : ℕ} (own : ℕ) → Went m d device → Packet
went_packet own w = packet_of (request_head own w.to Procedure) (request_of w.access)

offset_below : (t : Target) → PlugNumberFits t → offset_of t < 2 ^ 48
offset_below (OutputPlug p) f = omega (arith, f)
offset_below (InputPlug p) f = omega (arith, f)
offset_below BandwidthAvailable f = omega arith
offset_below (Channels base) f = go (base == 0)
  where
    go : (b : Bool) → cond b 0xFFFF_F000_0224 0xFFFF_F000_0228 < 2 ^ 48
    go true = omega arith
    go false = omega arith

-- what is known if a request is outstanding
pub record Known (m : Machine) (d device own : ℕ) : Type 0 where
  pub ready : IsReady m
  pub lives : IsTrue (is_living_in m d)
  pub stands : Awaits (states_of m.controllers d)
  pub went : Went m d device
  pub own_is : (node_at m.devices.nodes d).number ≡ Some own

exchanged : (m : Machine) (d device own : ℕ) → (k : Known m d device own) → Exchange m k.ready.state d k.went.access k.went.to device
exchanged m d device own k =
    let r = k.ready in
    exchange_of m r.state d k.went.access k.went.to device r.good r.stands (standing_of m r.state d k.went.access r.good r.stands k.lives k.stands k.went.asks) k.went.goes k.went.at

packet_fits : (m : Machine) (d device own : ℕ) → (k : Known m d device own) → Fits (went_packet own k.went)
packet_fits m d device own k =
    let r = k.ready in
    let x = exchanged m d device own k in
    let place = own_number m r.state d own r.good r.stands k.lives k.own_is in
    let to = number_low r.state device k.went.to r.good x.number in
    let source = number_low r.state d own r.good place in
    let small = (exchange_addresses m r.state d k.went.access k.went.to device r.good x).small in
    let low : offset_of k.went.access.target < 2 ^ 48 = subst (λ (a : Access). offset_of a.target < 2 ^ 48) (sym x.access) (offset_below x.heard.target small) in
    request_fits (procedure_head k.went.to own) (offset_of k.went.access.target) k.went.access.swap
    (procedure_fits k.went.to own (omega (arith, to)) (omega (arith, source))) low

-- they lie on the wire
wire_has : (m : Machine) (d device own : ℕ) → (k : Known m d device own) → bytes_from own m.wire ≡ Some (spelling (went_packet own k.went))
wire_has m d device own k =
    let r = k.ready in
    let s = r.state in
    let g = r.good in
    let st = r.stands in
    let place = own_number m s d own g st k.lives k.own_is in
    let node : node_of s.account.latest d ≡ own = same_Some _ own (sym (own_place s d (sym (living_same m s d g st) ∙ k.lives)) ∙ place) in
    let asks : standing_in (s.controllers d).current ≡ Some k.went.access =
    ap (λ (c : ControllerState). standing_in c.current) (sym (state_same m s d st k.stands.0)) ∙ sym k.went.asks in
    let goes : addressee_of (directory_of s) k.went.access.target ≡ Some k.went.to =
    ap (λ (x : Directory). addressee_of x k.went.access.target) (sym st.directory) ∙ sym k.went.goes in
    stands_at m.wire s (controller_asks s) d own g place st.wire ∙ ap (option_map spelling) (ap (packet_for s.account.latest (directory_of s) d) asks
    ∙ (ap (option_map (λ to. packet_of (procedure_head to (node_of s.account.latest d)) (request_of k.went.access))) goes
    ∙ ap (λ (n : ℕ). Some (packet_of (procedure_head k.went.to n) (request_of k.went.access))) node))

-- ---- the request, as it stands on the wire

pub known_at : (m : Machine) (d own : ℕ) → IsReady m → IsTrue (is_living_in m d) → Awaits (states_of m.controllers d) → (node_at m.devices.nodes d).number ≡ Some own
    → (device : ℕ) × Known m d device own
known_at m d own r lives stands own_is =
    let there = went_there m r.state d r.good r.stands lives stands in
    (there.0, record { ready = r; lives = lives; stands = stands; went = there.1; own_is = own_is })

-- so it stands there, to a node that has a link
stands_there : (m : Machine) (d device own : ℕ) → (k : Known m d device own)
    → Stands k.ready.state m.wire own device k.went.to (request_head own k.went.to Procedure) (request_of k.went.access)
stands_there m d device own k =
    let r = k.ready in
    let x = exchanged m d device own k in
    record {
      bytes = wire_has m d device own k;
      fits = packet_fits m d device own k;
      destination = refl;
      place = x.number;
      link = exchange_kind m r.state d k.went.access k.went.to device r.good r.stands x;
    }

pub went_outstanding : (m : Machine) (d device own : ℕ) → (k : Known m d device own) → IsOutstanding m.devices m.wire own device (went_packet own k.went)
went_outstanding m d device own k = outstanding m k.ready.state m.wire own device k.went.to _ _ k.ready.good k.ready.stands (stands_there m d device own k)

pub device_within : (m : Machine) (d device own : ℕ) → Known m d device own → device < length m.devices.nodes
device_within m d device own k = (went_outstanding m d device own k).declared

-- ---- the response that it writes

pub went_response : (m : Machine) (d device own : ℕ) (out : List ℕ) (reply : Reply) → (k : Known m d device own)
    → ((n : ℕ) → (node_at m.devices.nodes device).number ≡ Some n → IsServed (space_of n m.cycle (node_at m.devices.nodes device)) (went_packet own k.went) out reply)
    → Response m.cycle (node_at m.devices.nodes device) (went_packet own k.went) out reply
went_response m d device own out reply k written =
    let r = k.ready in
    response_written m.cycle k.went.to _ _ out reply (place_number m.devices.nodes r.state device k.went.to r.good r.stands.devices.nodes (exchanged m d device own k).number) written

-- ---- what has become of the machine

pub after_served : (m : Machine) (n : Network) (w : Pairs) (counts : List ℕ) (device own : ℕ) (packet : Packet) → n ≡ record m.devices { nodes = nodes_after m.devices.nodes device packet }
    → w ≡ without own m.wire → counts ≡ looked_at device n.nodes m.streams
    → record m { devices = n; wire = w; streams = counts } ≡ record m {
      devices = record m.devices { nodes = nodes_after m.devices.nodes device packet };
      wire = without own m.wire;
      streams = looked_at device (nodes_after m.devices.nodes device packet) m.streams;
    }
after_served m n w counts device own packet is taken looked =
    let same : counts ≡ looked_at device (nodes_after m.devices.nodes device packet) m.streams = looked ∙ ap (λ (x : Network). looked_at device x.nodes m.streams) is in
    λ i. record m { devices = is i; wire = taken i; streams = same i }
