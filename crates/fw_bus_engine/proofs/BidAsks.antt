-- The half step in which a candidate asks: of the machine and of the run.
use Rattle.fw_bus_engine.proofs.Common.{◌≡◌, ℕ, ◌+◌, ◌==◌, ◌++◌, cond, [], ◌∷◌, Bool, true, false, Option, Some, None, refl, ap, sym, subst, ◌∙◌, arith, nat_tests, spelling, Pairs, bytes_from, Entry}
use Rattle.fw_bus_engine.proofs.Common.{Async, CandidateState, is_asked, packet_of, Network, node_at, Contend, Transition, bid_head, Election, at_most, IsGood, State, number_in, manager_in}
use Rattle.fw_bus_engine.proofs.Common.{step_beside, Machine, CandidateTable, length, HasElection, candidates_of, StandsFor, counted}
use Rattle.std.specs.Option.{option_map}
use Rattle.fw_manager.specs.Bids.{stage_in, is_standing_in, bid_request, bid_of, next, stage_after, after_next}
use Rattle.fw_manager.specs.declared.bid.Bid.{Bid}
use Rattle.fw_manager.specs.declared.bid.Bid.TheVariants.{Send, Elected, Defeated, Done}
use Rattle.fw_manager.specs.declared.candidate.BidProgress.{BidProgress}
use Rattle.fw_manager.specs.declared.candidate.BidProgress.TheVariants.{Fresh, Asked, Heard, Answered}
use Rattle.fw_model_run.specs.Bidding.{bid_said, bid_asks, bid_at, bid_step, bidden, epoch_at, own_node}
use Rattle.fw_model_run.specs.Elections.{with_candidate}
use Rattle.fw_model_run.specs.Entries.{elected, defeated}
use Rattle.fw_bus_state.specs.Bids.{HasBids, candidate_asks, packet_of_bid}
use Rattle.fw_bus_engine.specs.Contending.{Contender, BidRests}
use Rattle.fw_bus_engine.specs.Requesting.{TurnsCandidate}
use Rattle.fw_bus_state.specs.Stands.{HasDevices, devices_at}
use Rattle.fw_bus_state.proofs.Besides.{changed_bids}
use Rattle.fw_bus_state.proofs.Wires.{WithRequest, keep_request, put_request, stands_at}
use Rattle.fw_model_run.specs.Beside.{IsBeside}
use Rattle.fw_bus_engine.proofs.Bidding.{known, own_place, own_same, to_same, none_stands, one_stands}

pub same_epoch : (n : ℕ) → (n == n) ≡ true
same_epoch n = grind (arith, nat_tests)

-- what a candidate of this epoch has come to
stage_now : (n : ℕ) (stage : BidProgress) → stage_in n (record { epoch = n; stage = stage }) ≡ stage
stage_now n stage = ap (λ b. cond b stage Fresh) (same_epoch n)

-- no request stands of one that has heard an answer
pub heard_rests : (b : Bool) (word : ℕ) → is_asked (cond b (Heard word) Fresh) ≡ false
heard_rests true word = refl
heard_rests false word = refl

-- ---- the machine with another candidate

-- it stands for the state in which that is the candidate, before the half step is counted
pub bidden_stands : (m : Machine) (s : State) (n : Network) (t : CandidateTable) (w : Pairs) (id : ℕ) (e : Election) → StandsFor m s → HasDevices n (devices_at (record s { bus_manager_id = id }))
    → HasElection t (length s.declared.names) e → HasBids w (record s { bus_manager_id = id; election = e }) → IsBeside (record s { half_steps = s.half_steps + 1; bus_manager_id = id; election = e })
    → StandsFor (record m { devices = n; candidates = t; bids = w }) (record s { bus_manager_id = id; election = e })
bidden_stands m s n t w id e st devices election bids around = record {
  devices = devices;
  clock = st.clock;
  table = st.table;
  directory = st.directory;
  wire = st.wire;
  streams = st.streams;
  answered = st.answered;
  unsent = st.unsent;
  election = election;
  bids = bids;
  reel = st.reel;
  around = record { candidates = around.candidates; hearing = around.hearing };
}

-- ---- no request is outstanding: what it says, and what it puts on the wire

abbrev pub said_of : ℕ → ℕ → Bid → Option Entry
said_of d own (Send to q) = Some (Async (packet_of (bid_head to own) q))
said_of d own Elected = Some (elected d)
said_of d own (Defeated by) = Some (defeated d)
said_of d own Done = None

abbrev pub put_by : Pairs → ℕ → Bid → Pairs
put_by w own (Send to q) = w ++ (own, spelling (packet_of (bid_head to own) q)) ∷ []
put_by w own Elected = w
put_by w own (Defeated by) = w
put_by w own Done = w

said_same : (s : State) (d : ℕ) (b : Bid) → said_of d (own_node s d) b ≡ bid_said s d b
said_same s d (Send to q) = refl
said_same s d Elected = refl
said_same s d (Defeated by) = refl
said_same s d Done = refl

-- it does what comes next
asks_then : (s : State) (d n : ℕ) (c : CandidateState) (stage : BidProgress) → is_asked stage ≡ false → bid_at s d n c stage ≡ bid_asks s d n stage
asks_then s d n c Fresh off = refl
asks_then s d n c Asked off = absurd (let wrong : true ≡ false = off in cc wrong)
asks_then s d n c (Heard word) off = refl
asks_then s d n c Answered off = refl

-- how a bid ends puts nothing on the wire
ends_quiet : (w : Pairs) (own word : ℕ) (b : Bool) → put_by w own (cond b Elected (Defeated word)) ≡ w
ends_quiet w own word true = refl
ends_quiet w own word false = refl

asks_bids : (w : Pairs) (s : State) (d n : ℕ) (c : CandidateState) (stage : BidProgress) → IsGood s → number_in s.account.latest d ≡ Some (own_node s d) → manager_in s.account.latest ≡ Some n
    → s.election.candidates d ≡ Some c → bytes_from (own_node s d) w ≡ None → is_asked stage ≡ false → HasBids w s
    → HasBids (put_by w (own_node s d) (bid_of (own_node s d) n stage)) (bidden s d (bid_asks s d n stage))
asks_bids w s d n c stage g place manages at free off h = go stage off
  where
    own : ℕ
    own = own_node s d

    new : BidProgress → CandidateState
    new stage = record { epoch = epoch_at s; stage = stage_after stage }

    -- it has none then
    rests : (stage : BidProgress) → is_asked (stage_after stage) ≡ false → HasBids w (bidden s d (bid_asks s d n stage))
    rests stage none =
        let off = none_stands s.account.latest d (new stage) (ap is_asked (stage_now (epoch_at s) (stage_after stage)) ∙ none) in
        changed_bids w w s (bidden s d (bid_asks s d n stage)) d own (Some (new stage)) g place refl refl (keep_request w own _ (free ∙ sym (ap (option_map spelling) off))) h

    go : (stage : BidProgress) → is_asked stage ≡ false → HasBids (put_by w own (bid_of own n stage)) (bidden s d (bid_asks s d n stage))
    go Fresh off =
        let p = packet_of (bid_head n own) (bid_request own) in
        let one = one_stands s.account.latest d n (new Fresh) (ap is_asked (stage_now (epoch_at s) Asked)) manages in
        changed_bids w (w ++ (own, spelling p) ∷ []) s (bidden s d (bid_asks s d n Fresh)) d own (Some (new Fresh)) g place refl refl
        (subst (WithRequest w (w ++ (own, spelling p) ∷ []) own) (sym one) (put_request w own p free)) h
    go Asked off = absurd (let wrong : true ≡ false = off in cc wrong)
    go (Heard word) off = subst (λ v. HasBids v (bidden s d (bid_asks s d n (Heard word)))) (sym (ends_quiet w own word (word == 0x3F))) (rests (Heard word) refl)
    go Answered off = rests Answered refl

-- the wire has no request of it
pub own_free : (m : Machine) (s : State) (d manager own : ℕ) → IsGood s → StandsFor m s → (x : BidRests m d manager) → (node_at m.devices.nodes d).number ≡ Some own → bytes_from own m.bids ≡ None
own_free m s d manager own g st x is =
    let k = x.contender in
    let z = known m s d manager g st k in
    let place = own_place m s d manager own g st k is in
    let off : is_standing_in (epoch_at s) k.candidate ≡ false = subst (λ n. is_standing_in n k.candidate ≡ false) z.epoch x.rests in
    stands_at m.bids s (candidate_asks s.account.latest s.election) d own g place st.bids
    ∙ (ap (λ o. option_map spelling (packet_of_bid s.account.latest d o)) z.at ∙ ap (option_map spelling) (none_stands s.account.latest d k.candidate off))

-- what the candidate does next, by its table
abbrev pub Nexts : Machine → CandidateTable → ℕ → ℕ → ℕ → Bid → Type 0
Nexts m t d own to b = (e : Election) (c : CandidateState) → HasElection m.candidates (candidates_of m.candidates) e → e.candidates d ≡ Some c
    → (b ≡ next m.devices.epoch own to c) × HasElection t (candidates_of m.candidates) (with_candidate e d (Some (after_next m.devices.epoch c)))

pub asks_turns : (m : Machine) (t : CandidateTable) (w : Pairs) (d manager own to : ℕ) (b : Bid) (e : Option Entry) → BidRests m d manager
    → (node_at m.devices.nodes d).number ≡ Some own → (node_at m.devices.nodes manager).number ≡ Some to → Nexts m t d own to b → e ≡ said_of d own b → w ≡ put_by m.bids own b
    → TurnsCandidate m (record m { candidates = t; bids = w }) d e
asks_turns m t w d manager own to b e x own_is to_is nexts said put = record { bids = shown_; half_steps = refl }
  where
    k : Contender m d manager
    k = x.contender

    c : CandidateState
    c = k.candidate

    shown_ : (s : State) → IsGood s → StandsFor m s → (v : State) × Transition s (Contend d) (at_most m.cycle e) (counted v 1) × StandsFor (record m { candidates = t; bids = w }) v
    shown_ s g st =
        let z = known m s d manager g st k in
        let n = z.seat.number in
        let own_ = own_same m s d manager own g st k own_is in
        let to_ = to_same m s manager to g st z.seat to_is in
        let stage = stage_in (epoch_at s) c in
        let off : is_asked stage ≡ false = subst (λ i. is_asked (stage_in i c) ≡ false) z.epoch x.rests in
        let u : State = bidden s d (bid_asks s d n stage) in
        let f = nexts s.election c z.here z.at in
        let bid : b ≡ bid_of (own_node s d) n stage = f.0 ∙ (λ i. bid_of (sym own_ i) (to_ i) (stage_in (z.epoch i) c)) in
        let then : bid_step s d n c ≡ bid_asks s d n stage = asks_then s d n c stage off in
        let says : e ≡ (bid_step s d n c).says = said ∙ ((λ i. said_of d (sym own_ i) (bid i)) ∙ (said_same s d (bid_of (own_node s d) n stage) ∙ sym (ap (λ y. y.says) then))) in
        let step : Transition s (Contend d) (at_most m.cycle e) u = record {
          found = record { candidate = c; manager = n };
          waits = st.answered;
          may = record { lives = z.lives; few = z.few; candidate = z.at; manages = z.seat.manages };
          out_is = λ i. at_most (st.clock.cycle i) (says i);
          state_is = ap (bidden s d) (sym then);
        } in
        let place : number_in s.account.latest d ≡ Some (own_node s d) = own_place m s d manager own g st k own_is ∙ ap (λ j. Some j) (sym own_) in
        let free : bytes_from (own_node s d) m.bids ≡ None = ap (λ j. bytes_from j m.bids) own_ ∙ own_free m s d manager own g st x own_is in
        let wire : w ≡ put_by m.bids (own_node s d) (bid_of (own_node s d) n stage) = put ∙ (λ i. put_by m.bids (sym own_ i) (bid i)) in (
          record s { election = u.election },
          step,
          bidden_stands m s m.devices t w s.bus_manager_id u.election st st.devices
              (subst (λ j. HasElection t j u.election) st.election.size
              (subst (λ j. HasElection t (candidates_of m.candidates) (with_candidate s.election d (Some (after_next j c)))) z.epoch f.1))
              (let there = asks_bids m.bids s d n c stage g place z.seat.manages z.at free off st.bids in subst (λ v. HasBids v u) (sym wire) there)
              (step_beside s (Contend d) (at_most m.cycle e) u g st.around step),
        )
