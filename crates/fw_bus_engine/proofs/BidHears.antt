-- The half step in which a candidate hears the answer to its bid: of the machine and of the run.
use Rattle.fw_bus_engine.proofs.Common.{◌≡◌, ℕ, ◌==◌, cond, true, false, Option, Some, refl, ap, sym, subst, ◌∙◌, without, Packet, after_at, Reply, Async, CandidateState, is_asked, packet_of, Pairs}
use Rattle.fw_bus_engine.proofs.Common.{Head, Request}
use Rattle.fw_bus_engine.proofs.Common.{request_in, reply_in, Network, node_at, Contend, Transition, bid_head, Election, at_most, IsGood, State, number_in, manager_in, step_beside, Machine}
use Rattle.fw_bus_engine.proofs.Common.{CandidateTable, length, HasElection, candidates_of, StandsFor, counted}
use Rattle.std.specs.Option.{option_map}
use Rattle.fw_manager.specs.Bids.{stage_in, bid_request, after_hear}
use Rattle.fw_manager.specs.declared.candidate.BidProgress.{BidProgress}
use Rattle.fw_manager.specs.declared.candidate.BidProgress.TheVariants.{Fresh, Asked, Heard, Answered}
use Rattle.fw_devices.specs.Entries.{is_number}
use Rattle.fw_order.specs.declared.order.Access.TheVariants as Accesses
use Rattle.fw_model_run.specs.Bidding.{bid_hears, bid_at, bid_step, bidden, bid_answer_packet, epoch_at, own_node, word_shown, word_of_reply}
use Rattle.fw_model_run.specs.Elections.{with_candidate}
use Rattle.fw_bus_state.specs.Bids.{HasBids}
use Rattle.fw_bus_engine.specs.Contending.{Contender, BidStands}
use Rattle.fw_bus_engine.specs.Requesting.{TurnsCandidate}
use Rattle.fw_bus_state.specs.Stands.{HasDevices, devices_at}
use Rattle.fw_order.specs.declared.order.Access.{Access}
use Rattle.fw_bus_engine.proofs.Asked.{manager_id_after, unguarded_follows}
use Rattle.fw_bus_engine.proofs.Responder.{AnswersBy, asks_request, response_is}
use Rattle.fw_bus_engine.proofs.AnsweredNodes.{answered_by, devices_follow}
use Rattle.fw_bus_state.proofs.Besides.{changed_bids}
use Rattle.fw_bus_state.proofs.Wires.{WithRequest, take_request}
use Rattle.fw_model_run.specs.Beside.{IsBeside}
use Rattle.fw_bus_engine.proofs.Bidding.{Seat, known, own_place, own_same, to_same, none_stands}
use Rattle.fw_bus_engine.proofs.BidAsks.{same_epoch, heard_rests, bidden_stands}

-- ---- a request is outstanding: the manager carries it out

asked_now : (stage : BidProgress) → is_asked stage ≡ true → stage ≡ Asked
asked_now Fresh on = absurd (let wrong : false ≡ true = on in cc wrong)
asked_now Asked on = refl
asked_now (Heard word) on = absurd (let wrong : false ≡ true = on in cc wrong)
asked_now Answered on = absurd (let wrong : false ≡ true = on in cc wrong)

-- the swap of a bid
abbrev swap_of : ℕ → Access
swap_of own = Accesses.Swap 0x21C (record { argument = 0x3F; new = own })

is_own : (o : Option ℕ) (n : ℕ) → o ≡ Some n → is_number o n ≡ true
is_own o n is = ap (λ z. is_number z n) is ∙ same_epoch n

-- the devices once the manager has carried it out: BUS_MANAGER_ID has followed it
bid_devices : (m : Machine) (s : State) (manager own : ℕ) → IsGood s → StandsFor m s → (x : Seat s manager)
    → HasDevices (answered_by m.devices manager (Some (bid_request own))) (devices_at (record s { bus_manager_id = after_at 0xFFFF_F000_021C (bid_request own) s.bus_manager_id }))
bid_devices m s manager own g st x =
    let q : Request = bid_request own in
    let id : manager_id_after s x.number q ≡ after_at 0xFFFF_F000_021C q s.bus_manager_id =
    ap (λ b. cond b (after_at 0xFFFF_F000_021C q s.bus_manager_id) s.bus_manager_id) (is_own (manager_in s.account.latest) x.number x.manages) in
    subst (λ i. HasDevices (answered_by m.devices manager (Some q)) (devices_at (record s { bus_manager_id = i }))) id
    (devices_follow m.devices s (record s { bus_manager_id = manager_id_after s x.number q }) manager x.number q g st.around.hearing st.devices
    (unguarded_follows s manager x.number (swap_of own) x.place refl))

-- the candidate hears the reply, by its table
abbrev pub Hears : Machine → CandidateTable → ℕ → ℕ → Type 0
Hears m t d word = (e : Election) (c : CandidateState) → HasElection m.candidates (candidates_of m.candidates) e → e.candidates d ≡ Some c
    → HasElection t (candidates_of m.candidates) (with_candidate e d (Some (after_hear word c)))

-- the manager's node answers as it does in the run
pub answers_bid : (m : Machine) (s : State) (d manager own to : ℕ) (response : Packet) → (g : IsGood s) → (st : StandsFor m s) → (x : Seat s manager) → Contender m d manager
    → (node_at m.devices.nodes d).number ≡ Some own → (node_at m.devices.nodes manager).number ≡ Some to
    → AnswersBy m.cycle (node_at m.devices.nodes manager) (packet_of (bid_head to own) (bid_request own)) response → bid_answer_packet s d x.number ≡ Some response
answers_bid m s d manager own to response g st x k own_is to_is answers =
    let own_ = own_same m s d manager own g st k own_is in
    let to_ = to_same m s manager to g st x to_is in
    response_is m.devices.nodes s m.cycle manager x.number (bid_head x.number (own_node s d)) (bid_request (own_node s d)) (packet_of (bid_head to own) (bid_request own)) response g st.devices.nodes
    st.clock.cycle x.place (λ i. packet_of (bid_head (to_ i) (sym own_ i)) (bid_request (sym own_ i))) answers

pub hears_turns : (m : Machine) (n : Network) (t : CandidateTable) (d manager own to : ℕ) (response : Packet) (r : Reply) → (x : BidStands m d manager)
    → (node_at m.devices.nodes d).number ≡ Some own → (node_at m.devices.nodes manager).number ≡ Some to
    → AnswersBy m.cycle (node_at m.devices.nodes manager) (packet_of (bid_head to own) (bid_request own)) response → reply_in response ≡ Some r
    → n ≡ answered_by m.devices manager (request_in (packet_of (bid_head to own) (bid_request own))) → Hears m t d r.value
    → TurnsCandidate m (record m { devices = n; candidates = t; bids = without own m.bids }) d (Some (Async response))
hears_turns m n t d manager own to response r x own_is to_is answers carries registers hears = record { bids = shown_; half_steps = refl }
  where
    k : Contender m d manager
    k = x.contender

    c : CandidateState
    c = k.candidate

    now : Machine
    now = record m { devices = n; candidates = t; bids = without own m.bids }

    shown_ : (s : State) → IsGood s → StandsFor m s → (v : State) × Transition s (Contend d) (at_most m.cycle (Some (Async response))) (counted v 1) × StandsFor now v
    shown_ s g st =
        let z = known m s d manager g st k in
        let j = z.seat.number in
        let own_ = own_same m s d manager own g st k own_is in
        let to_ = to_same m s manager to g st z.seat to_is in
        let h : Head = bid_head j (own_node s d) in
        let q : Request = bid_request (own_node s d) in
        let packet : packet_of (bid_head to own) (bid_request own) ≡ packet_of h q = (λ i. packet_of (bid_head (to_ i) (sym own_ i)) (bid_request (sym own_ i))) in
        let answer : bid_answer_packet s d j ≡ Some response = answers_bid m s d manager own to response g st z.seat k own_is to_is answers in
        let asked : stage_in (epoch_at s) c ≡ Asked = asked_now (stage_in (epoch_at s) c) (subst (λ i. is_asked (stage_in i c) ≡ true) z.epoch x.stands) in
        let then : bid_step s d j c ≡ bid_hears s d j c = ap (bid_at s d j c) asked in
        let u : State = bidden s d (bid_hears s d j c) in
        let says : Some (Async response) ≡ (bid_step s d j c).says = sym (ap (option_map Async) answer) ∙ sym (ap (λ y. y.says) then) in
        let step : Transition s (Contend d) (at_most m.cycle (Some (Async response))) u = record {
          found = record { candidate = c; manager = j };
          waits = st.answered;
          may = record { lives = z.lives; few = z.few; candidate = z.at; manages = z.seat.manages };
          out_is = λ i. at_most (st.clock.cycle i) (says i);
          state_is = ap (bidden s d) (sym then);
        } in
        let word : r.value ≡ word_shown (bid_answer_packet s d j) = sym (ap word_of_reply carries) ∙ sym (ap word_shown answer) in
        let place : number_in s.account.latest d ≡ Some own = own_place m s d manager own g st k own_is in
        let new : CandidateState = after_hear (word_shown (bid_answer_packet s d j)) c in
        let w : Pairs = without own m.bids in
        let id : ℕ = after_at 0xFFFF_F000_021C q s.bus_manager_id in
        let election : HasElection t (length s.declared.names) u.election =
        subst (λ i. HasElection t i u.election) st.election.size
        (subst (λ i. HasElection t (candidates_of m.candidates) (with_candidate s.election d (Some (after_hear i c)))) word (hears s.election c z.here z.at)) in
        let bids : HasBids w u =
        changed_bids m.bids w s u d own (Some new) g place refl refl
        (subst (WithRequest m.bids w own) (sym (none_stands s.account.latest d new (heard_rests (c.epoch == epoch_at s) (word_shown (bid_answer_packet s d j))))) (take_request m.bids own)) st.bids in
        let around : IsBeside u = step_beside s (Contend d) (at_most m.cycle (Some (Async response))) u g st.around step in
        let same : answered_by m.devices manager (Some q) ≡ n = sym (registers ∙ ap (answered_by m.devices manager) (ap request_in packet ∙ asks_request h q)) in
        let devices : HasDevices n (devices_at (record s { bus_manager_id = id })) =
        subst (λ y. HasDevices y (devices_at (record s { bus_manager_id = id }))) same (bid_devices m s manager (own_node s d) g st z.seat) in (
          record s { bus_manager_id = id; election = u.election },
          step,
          bidden_stands m s n t w id u.election st devices election bids around,
        )
