-- The request of a candidate that stands: its bytes on the wire, the nodes that it goes between, and the answer.
use Rattle.fw_bus_engine.proofs.Common.{◌≡◌, ℕ, ◌<◌, ◌&&◌, ◌==◌, cond, Bool, true, false, Option, Some, None, is_some, refl, ap, sym, subst, ◌∙◌, arith, IsTrue, none-some, Fits, spelling}
use Rattle.fw_bus_engine.proofs.Common.{bytes_from, Packet, Reply, is_node, node_at, Request, ResetEntry, NodeRow, CandidateState, is_asked, packet_of, reply_in}
use Rattle.fw_bus_engine.proofs.Common.{MOST_HALF_STEPS, bid_head, Election, IsGood, IsLatest, State, manager_in, Machine, HasElection, CandidateTable, candidates_of, IsReady}
use Rattle.fw_bus_engine.proofs.Common.{living_there, few_nodes, List, Pairs, request_in, is_node_same, Network, without}
use Rattle.std.specs.Option.{option_map}
use Rattle.fw_devices.specs.Entries.{device_of}
use Rattle.fw_manager.specs.Bids.{stage_in, is_standing_in, bid_request, bid_of, next, after_next}
use Rattle.fw_manager.specs.declared.bid.Bid.{Bid}
use Rattle.fw_manager.specs.declared.bid.Bid.TheVariants.{Send, Elected, Defeated, Done}
use Rattle.fw_manager.specs.declared.candidate.BidProgress.{BidProgress}
use Rattle.fw_manager.specs.declared.candidate.BidProgress.TheVariants.{Fresh, Asked, Heard, Answered}
use Rattle.fw_node.specs.Packets.{old_bytes, old_value}
use Rattle.fw_model_run.specs.Bidding.{bid_answer_packet, epoch_at, is_candidate}
use Rattle.fw_model_run.specs.Elections.{with_candidate}
use Rattle.fw_model_run.proofs.Bidding.{asked_fits}
use Rattle.fw_model_run.proofs.Candidates.{candidate_manager}
use Rattle.fw_model_run.proofs.Grows.{Number}
use Rattle.fw_model_run.proofs.BidSteps.{bid_reply}
use Rattle.fw_bus_state.specs.Bids.{candidate_asks, packet_of_bid}
use Rattle.fw_bus_state.proofs.Wires.{stands_at}
use Rattle.fw_bus_state.specs.Candidates.{candidate_in}
use Rattle.fw_bus_engine.specs.Contending.{Contender, BidStands}
use Rattle.fw_bus_engine.specs.Exchanging.{IsCarriedOut, IsOutstanding}
use Rattle.fw_bus_state.specs.Stands.{manager_device}
use Rattle.fw_bus_engine.proofs.BidAsks.{Nexts}
use Rattle.fw_bus_engine.proofs.BidHears.{answers_bid}
use Rattle.fw_bus_engine.proofs.Bidding.{bidder_lives, known, manager_number, one_stands, own_place, own_same, seat, to_same}
use Rattle.fw_bus_engine.proofs.Responder.{Response, Stands, outstanding, response_written}
use Rattle.fw_bus_engine.proofs.AnsweredNodes.{answered_by}
use Rattle.fw_bus_state.proofs.Besides.{candidate_same}

-- ---- the nodes

prefix : (a b : Bool) → (a && b) ≡ true → a ≡ true
prefix a b e = grind (arith, e)

back : (a b : Bool) → (a && b) ≡ true → b ≡ true
back a b e = grind (arith, e)

-- the candidate's device is a node
pub own_there : (m : Machine) (d manager : ℕ) → IsReady m → Contender m d manager → IsTrue (is_node m.devices.nodes d)
own_there m d manager r k = prefix _ _ (prefix _ _ (bidder_lives m r.state d manager r.good r.stands k))

-- and so is the manager
pub manager_there : (m : Machine) (d manager : ℕ) → IsReady m → Contender m d manager → IsTrue (is_node m.devices.nodes manager)
manager_there m d manager r k =
    is_node_same m.devices.nodes r.state r.stands.devices.nodes r.good manager ∙ ap is_some (seat m r.state manager r.good r.stands k.manages).place

-- the device is declared
pub bidder_within : (m : Machine) (d manager : ℕ) → IsReady m → Contender m d manager → d < candidates_of m.candidates
bidder_within m d manager r k =
    let low = (living_there m d r (bidder_lives m r.state d manager r.good r.stands k)).node in
    let nodes = r.stands.devices.nodes.size in
    let size = r.stands.election.size in
    omega (arith, low, nodes, size)

-- and has a number of six bits
pub bidder_few : (m : Machine) (d manager : ℕ) → IsReady m → Contender m d manager → d < 63
bidder_few m d manager r k =
    let low = (living_there m d r (bidder_lives m r.state d manager r.good r.stands k)).node in
    let most = few_nodes m.devices.nodes r.state r.good r.stands.devices.nodes in
    omega (arith, low, most)

-- ---- who may take a half step

-- if there is a candidate there is a manager
pub manager_is_there : (m : Machine) (d : ℕ) → IsReady m → IsTrue (is_some (candidate_in m.candidates d)) → (k : ℕ) × (m.devices.manager ≡ Some k)
manager_is_there m d r one = go s.account.latest refl r.good.latest there.is
  where
    s : State
    s = r.state

    candidate : IsTrue (is_candidate s d)
    candidate = sym (ap is_some (candidate_same m s d r.stands)) ∙ one

    there : Number (manager_in s.account.latest)
    there = candidate_manager s d r.stands.around.candidates candidate

    go : (o : Option ResetEntry) → s.account.latest ≡ o → IsLatest o s.declared s.account → manager_in o ≡ Some there.number → (k : ℕ) × (m.devices.manager ≡ Some k)
    go None at h is = absurd (none-some there.number is)
    go (Some e) at h is =
        let w = h.3 there.number is in (
          w.0,
          r.stands.devices.manager ∙ (ap manager_device at ∙ (ap (device_of e.nodes) is ∙ ap (option_map (λ (x : NodeRow). x.device)) (h.1.numbers w.0 there.number w.1))),
        )

pub contender_of : (m : Machine) (d manager : ℕ) → IsTrue (is_some (candidate_in m.candidates d)) → m.devices.manager ≡ Some manager → m.half_steps < MOST_HALF_STEPS → Contender m d manager
contender_of m d manager one manages few = go (candidate_in m.candidates d) refl one
  where
    go : (o : Option CandidateState) → candidate_in m.candidates d ≡ o → is_some o ≡ true → Contender m d manager
    go None e there = absurd (grind (arith, there))
    go (Some k) e there = record { candidate = k; is = e; manages = manages; few = few }

-- what the table says of its request
pub standing_is : (m : Machine) (d manager epoch : ℕ) (b : Bool) → IsReady m → (k : Contender m d manager) → epoch ≡ m.devices.epoch
    → ((e : Election) (c : CandidateState) → HasElection m.candidates (candidates_of m.candidates) e → e.candidates d ≡ Some c → b ≡ is_standing_in epoch c)
    → b ≡ is_standing_in m.devices.epoch k.candidate
standing_is m d manager epoch b r k same tells =
    let z = known m r.state d manager r.good r.stands k in
    tells r.state.election k.candidate z.here z.at ∙ ap (λ n. is_standing_in n k.candidate) same

-- an outstanding request was asked
pub standing_asked : (epoch : ℕ) (c : CandidateState) → is_standing_in epoch c ≡ true → is_asked c.stage ≡ true
standing_asked epoch c = go (c.epoch == epoch)
  where
    go : (b : Bool) → is_asked (cond b c.stage Fresh) ≡ true → is_asked c.stage ≡ true
    go true e = e
    go false e = absurd (let wrong : false ≡ true = e in cc wrong)

-- if the candidate sends, it sends its bid to the manager
pub sends_only : (own to goes : ℕ) (q : Request) (stage : BidProgress) → Send goes q ≡ bid_of own to stage → (goes ≡ to) × (q ≡ bid_request own)
sends_only own to goes q Fresh e = (cc e, cc e)
sends_only own to goes q Asked e = absurd (let wrong : Send goes q ≡ Done = e in cc wrong)
sends_only own to goes q (Heard word) e = go (word == 0x3F) e
  where
    go : (b : Bool) → Send goes q ≡ cond b Elected (Defeated word) → (goes ≡ to) × (q ≡ bid_request own)
    go true e = absurd (let wrong : Send goes q ≡ Elected = e in cc wrong)
    go false e = absurd (let wrong : Send goes q ≡ Defeated word = e in cc wrong)
sends_only own to goes q Answered e = absurd (let wrong : Send goes q ≡ Done = e in cc wrong)

-- what the table says of the candidate's next turn, in the epoch of the bus
pub nexts_now : (m : Machine) (t : CandidateTable) (d own to epoch : ℕ) (b : Bid) → epoch ≡ m.devices.epoch
    → ((e : Election) (c : CandidateState) → HasElection m.candidates (candidates_of m.candidates) e → e.candidates d ≡ Some c
    → (b ≡ next epoch own to c) × HasElection t (candidates_of m.candidates) (with_candidate e d (Some (after_next epoch c))))
    → Nexts m t d own to b
nexts_now m t d own to epoch b same tells = subst (λ n. (e : Election) (c : CandidateState) → HasElection m.candidates (candidates_of m.candidates) e → e.candidates d ≡ Some c
    → (b ≡ next n own to c) × HasElection t (candidates_of m.candidates) (with_candidate e d (Some (after_next n c)))) same tells

-- ---- the packet

abbrev pub bid_packet : ℕ → ℕ → Packet
bid_packet own to = packet_of (bid_head to own) (bid_request own)

pub packet_fits : (m : Machine) (d manager own to : ℕ) → IsReady m → (k : Contender m d manager) → (node_at m.devices.nodes d).number ≡ Some own → (node_at m.devices.nodes manager).number ≡ Some to
    → Fits (bid_packet own to)
packet_fits m d manager own to r k own_is to_is =
    let x = seat m r.state manager r.good r.stands k.manages in
    let own_ = own_same m r.state d manager own r.good r.stands k own_is in
    let to_ = to_same m r.state manager to r.good r.stands x to_is in
    subst (λ i. Fits (bid_packet own i)) (sym to_) (subst (λ i. Fits (bid_packet i x.number)) own_ (asked_fits r.state d x.number r.good x.manages))

-- a request that the candidate sends is that packet
pub sent_is : (m : Machine) (t : CandidateTable) (d manager own to goes : ℕ) (q : Request) (b : Bid) → IsReady m → Contender m d manager → Nexts m t d own to b → b ≡ Send goes q
    → (goes ≡ to) × (q ≡ bid_request own)
sent_is m t d manager own to goes q b r k nexts is =
    let z = known m r.state d manager r.good r.stands k in
    sends_only own to goes q (stage_in m.devices.epoch k.candidate) (sym is ∙ (nexts r.state.election k.candidate z.here z.at).0)

pub sent_fits : (m : Machine) (t : CandidateTable) (d manager own to goes : ℕ) (q : Request) (b : Bid) → IsReady m → Contender m d manager → Nexts m t d own to b → b ≡ Send goes q
    → (node_at m.devices.nodes d).number ≡ Some own → (node_at m.devices.nodes manager).number ≡ Some to → Fits (packet_of (bid_head goes own) q)
sent_fits m t d manager own to goes q b r k nexts is own_is to_is =
    let x = sent_is m t d manager own to goes q b r k nexts is in
    subst (λ i. Fits (packet_of (bid_head i own) q)) (sym x.0) (subst (λ i. Fits (packet_of (bid_head to own) i)) (sym x.1) (packet_fits m d manager own to r k own_is to_is))

-- its bytes lie on the wire
wire_has : (m : Machine) (d manager own to : ℕ) → IsReady m → (b : BidStands m d manager) → (node_at m.devices.nodes d).number ≡ Some own → (node_at m.devices.nodes manager).number ≡ Some to
    → bytes_from own m.bids ≡ Some (spelling (bid_packet own to))
wire_has m d manager own to r b own_is to_is =
    let k = b.contender in
    let s = r.state in
    let st = r.stands in
    let z = known m s d manager r.good st k in
    let place = own_place m s d manager own r.good st k own_is in
    let own_ = own_same m s d manager own r.good st k own_is in
    let to_ = to_same m s manager to r.good st z.seat to_is in
    let on : is_standing_in (epoch_at s) k.candidate ≡ true = subst (λ n. is_standing_in n k.candidate ≡ true) z.epoch b.stands in
    stands_at m.bids s (candidate_asks s.account.latest s.election) d own r.good place st.bids
    ∙ (ap (λ o. option_map spelling (packet_of_bid s.account.latest d o)) z.at ∙ (ap (option_map spelling) (one_stands s.account.latest d z.seat.number k.candidate on z.seat.manages)
    ∙ (λ i. Some (spelling (bid_packet (own_ i) (sym to_ i))))))

-- so it stands there, to the manager
pub bid_outstanding : (m : Machine) (d manager own : ℕ) → (r : IsReady m) → (b : BidStands m d manager) → (node_at m.devices.nodes d).number ≡ Some own
    → let x = seat m r.state manager r.good r.stands b.contender.manages in IsOutstanding m.devices m.bids own manager (bid_packet own x.number)
bid_outstanding m d manager own r b own_is =
    let s = r.state in
    let x = seat m s manager r.good r.stands b.contender.manages in
    let to_is = manager_number m s manager r.good r.stands x in
    let stands : Stands s m.bids own manager x.number (bid_head x.number own) (bid_request own) = record {
      bytes = wire_has m d manager own x.number r b own_is to_is;
      fits = packet_fits m d manager own x.number r b.contender own_is to_is;
      destination = refl;
      place = x.place;
      link = x.link;
    } in
    outstanding m s m.bids own manager x.number (bid_head x.number own) (bid_request own) r.good r.stands stands

-- ---- the answer

abbrev rcode_of : Option Reply → ℕ
rcode_of None = 0
rcode_of (Some r) = r.rcode

abbrev rcode_in : Option Packet → ℕ
rcode_in None = 0
rcode_in (Some p) = rcode_of (reply_in p)

-- it is complete
bid_complete : (s : State) (d manager : ℕ) (response : Packet) (r : Reply) → IsGood s → manager_in s.account.latest ≡ Some manager → bid_answer_packet s d manager ≡ Some response
    → reply_in response ≡ Some r
    → r.rcode ≡ 0
bid_complete s d manager response r g manages answers carries =
    sym (ap rcode_of carries) ∙ (ap rcode_in (sym answers) ∙ ap (λ (z : Reply). rcode_of (old_value z.rcode (old_bytes z))) (bid_reply s d manager g manages))

-- the response of the manager's node
pub record BidServed (m : Machine) (d manager own : ℕ) (n : Network) (wire : Pairs) (bytes : List ℕ) (reply : Reply) : Type 0 where
  pub to : ℕ
  pub to_is : (node_at m.devices.nodes manager).number ≡ Some to
  pub response : Response m.cycle (node_at m.devices.nodes manager) (bid_packet own to) bytes reply
  pub complete : reply.rcode ≡ 0
  pub registers : n ≡ answered_by m.devices manager (request_in (bid_packet own to))
  pub rest : wire ≡ without own m.bids

pub bid_served : (m : Machine) (d manager own : ℕ) (n : Network) (wire : Pairs) (bytes : List ℕ) (result : ℕ × Reply) → IsReady m → (b : BidStands m d manager)
    → (node_at m.devices.nodes d).number ≡ Some own
    → ((device : ℕ) (p : Packet) → IsOutstanding m.devices m.bids own device p → IsCarriedOut m.devices n m.bids wire m.cycle own device p bytes result)
    → BidServed m d manager own n wire bytes result.1
bid_served m d manager own n wire bytes result r b own_is serves =
    let s = r.state in
    let k = b.contender in
    let x = seat m s manager r.good r.stands k.manages in
    let to_is = manager_number m s manager r.good r.stands x in
    let served = serves manager (bid_packet own x.number) (bid_outstanding m d manager own r b own_is) in
    let found = response_written m.cycle x.number _ _ bytes result.1 to_is served.response in
    let answer = answers_bid m s d manager own x.number found.response r.good r.stands x k own_is to_is found.answers in
    record {
      to = x.number;
      to_is = to_is;
      response = found;
      complete = bid_complete s d x.number found.response result.1 r.good x.manages answer found.carries;
      registers = served.registers;
      rest = served.rest;
    }
