-- A transaction of the script, of the machine and of the run.
use Rattle.fw_bus_engine.proofs.Common.{◌≡◌, ◌==◌, ◌&&◌, Bool, true, false, arith, Some, None, refl, ap, sym, subst, ◌∙◌, IsTrue, IsFalse, Packet}
use Rattle.fw_bus_engine.proofs.Common.{Async, packet_of, request_in}
use Rattle.fw_bus_engine.proofs.Common.{node_at, node_of, at_most, State, is_linked}
use Rattle.fw_bus_engine.proofs.Common.{is_living, Transition, IsGood, living_linked, Machine, TakesTwoActions, StandsFor, is_linked_in, is_living_in, linked_same, living_same}
use Rattle.fw_bus_engine.proofs.Common.{node_number_is, linked_on, Election}
use Rattle.std.proofs.Common.{◌||◌}
use Rattle.fw_order.specs.declared.order.Transaction.{Transaction}
use Rattle.fw_model_run.specs.Spaces.{access_request, script_head, target_node, transaction_head, bus_manager_id_after}
use Rattle.fw_order.specs.declared.order.Access.{Access}
use Rattle.fw_order.specs.declared.order.Access.TheVariants.{Read, Swap}
use Rattle.fw_model_run.specs.Actions.{Ask, Answer, AccessFits, IsSpared}
use Rattle.fw_bus_state.specs.Orders.{is_guarded, is_guarded_by}
use Rattle.fw_bus_engine.specs.Transacting.{IsRequest}
use Rattle.fw_bus_engine.proofs.Asked.{unguarded_follows}
use Rattle.fw_bus_engine.proofs.Responder.{AnswersBy, asks_request, response_is}
use Rattle.fw_bus_engine.proofs.AnsweredNodes.{answered_by, devices_follow}
use Rattle.fw_bus_state.proofs.Latest.{on_number}
use Rattle.fw_model_run.specs.Named.{is_guarded_at}

-- the packet of the run
abbrev pub asking_packet : State → Transaction → Packet
asking_packet s x = packet_of (transaction_head s x) (access_request x.access)

-- the request packet is that of the run
request_same : (m : Machine) (s : State) (x : Transaction) (request : Packet) → IsGood s → StandsFor m s → IsTrue (is_linked s x.to) → IsTrue (is_linked s x.from)
    → IsRequest m.devices.nodes x request → request ≡ asking_packet s x
request_same m s x request g st to from r =
    let a = (node_number_is m.devices.nodes s x.to st.devices.nodes g (linked_on s x.to to)).0 in
    let b = (node_number_is m.devices.nodes s x.from st.devices.nodes g (linked_on s x.from from)).0 in
    let p : r.to ≡ node_of s.account.latest x.to = (let e : Some r.to ≡ Some (node_of s.account.latest x.to) = sym r.to_is ∙ a in cc) in
    let q : r.from ≡ node_of s.account.latest x.from = (let e : Some r.from ≡ Some (node_of s.account.latest x.from) = sym r.from_is ∙ b in cc) in
    r.request_is ∙ (λ i. packet_of (script_head (p i) (q i)) (access_request x.access))

pub answered_stands : (m : Machine) (s : State) (x : Transaction) → IsGood s → StandsFor m s → IsTrue (is_linked s x.to) → IsFalse (is_guarded x.access)
    → StandsFor (record m { devices = answered_by m.devices x.to (Some (access_request x.access)) }) (record s { transaction = None; bus_manager_id = bus_manager_id_after s x })
answered_stands m s x g st to free = record {
  devices = devices_follow m.devices s (record s { bus_manager_id = bus_manager_id_after s x }) x.to (node_of s.account.latest x.to) (access_request x.access) g st.around.hearing st.devices
      (unguarded_follows s x.to (node_of s.account.latest x.to) x.access (on_number s x.to (linked_on s x.to to)) free);
  clock = st.clock;
  table = st.table;
  directory = st.directory;
  wire = st.wire;
  streams = st.streams;
  answered = refl;
  unsent = st.unsent;
  election = st.election;
  bids = st.bids;
  reel = st.reel;
  around = st.around;
}

-- an access that is not guarded is at no register of procedures, and spares BUS_MANAGER_ID
free_of : (b : Bool) (a : Access) → IsFalse (is_guarded_by b a) → IsFalse (is_guarded a)
free_of b (Read offset) free = refl
free_of b (Swap offset swap) free = neither (is_guarded_at offset) (b && (offset == 0x21C)) free
  where
    neither : (p q : Bool) → (p || q) ≡ false → p ≡ false
    neither p q e = grind (arith, e)

spared_of : (b : Bool) (e : Election) (a : Access) → b ≡ e.begun → IsFalse (is_guarded_by b a) → IsSpared e a
spared_of b e (Read offset) same free = tt
spared_of b e (Swap offset swap) same free = λ on. other (is_guarded_at offset) b (offset == 0x21C) (same ∙ on) free
  where
    other : (p q r : Bool) → q ≡ true → (p || (q && r)) ≡ false → r ≡ false
    other p q r on e = grind (arith, on, e)

-- both packets are those of the run, and the node's registers follow it
pub transact_talks : (m now : Machine) (x : Transaction) (request response : Packet) → IsTrue (is_living_in m x.from) → IsTrue (is_linked_in m.devices x.to)
    → IsFalse (is_guarded_by m.candidates.begun x.access) → AccessFits x.access → IsRequest m.devices.nodes x request
    → AnswersBy m.cycle (node_at m.devices.nodes x.to) request response
    → now ≡ record m { devices = answered_by m.devices x.to (request_in request) } → TakesTwoActions (Ask x) Answer m now m.cycle (Async request) (Async response)
transact_talks m now x request response from to free fits r answer is = record { shown = shown_ }
  where
    shown_ : (s : State) → IsGood s → StandsFor m s → (mid t : State) × Transition s (Ask x) (at_most m.cycle (Some (Async request))) mid
        × Transition mid Answer (at_most m.cycle (Some (Async response))) t × StandsFor now t
    shown_ s g st =
        let linked_to : IsTrue (is_linked s x.to) = sym (linked_same m.devices s x.to g st.devices) ∙ to in
        let lives : IsTrue (is_living s x.from) = sym (living_same m s x.from g st) ∙ from in
        let same = request_same m s x request g st linked_to (living_linked s x.from lives) r in
        let place = on_number s x.to (linked_on s x.to linked_to) in
        let t : State = record s { transaction = None; bus_manager_id = bus_manager_id_after s x } in
        let asked : request_in request ≡ Some (access_request x.access) = ap request_in same ∙ asks_request (transaction_head s x) (access_request x.access) in (
          record s { transaction = Some x },
          t,
          record {
            found = tt;
            waits = st.answered;
            may = record { lives = lives; linked = linked_to; fits = fits; spared = spared_of m.candidates.begun s.election x.access st.election.begun free };
            out_is = λ i. at_most (st.clock.cycle i) (Some (Async (same i)));
            state_is = refl;
          },
          record {
            found = record { transaction = x; response = response };
            waits = refl;
            may = response_is m.devices.nodes s m.cycle x.to (target_node s x) (transaction_head s x) (access_request x.access) request response g st.devices.nodes
                st.clock.cycle place same answer;
            out_is = ap (λ c. at_most c (Some (Async response))) st.clock.cycle;
            state_is = refl;
          },
          subst (λ (z : Machine). StandsFor z t) (sym is) (subst (λ o. StandsFor (record m { devices = answered_by m.devices x.to o }) t) (sym asked)
              (answered_stands m s x g st linked_to (free_of m.candidates.begun x.access free))),
        )
