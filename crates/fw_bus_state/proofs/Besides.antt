-- What the bus keeps of candidates, after a bus reset and after a death.
use Rattle.fw_bus_state.proofs.Common.{◌≡◌, ◌⊎◌, inl, inr, ℕ, ◌+◌, ◌<◌, ◌≤◌, ◌==◌, cond, [], length, false, Option, Some, None, refl, ap, sym, subst, ◌∙◌, arith, cases_lt}
use Rattle.fw_bus_state.proofs.Common.{nat_tests, ResetEntry, node_of, update, IsGood, State, number_in, Machine, candidate_in, StandsFor}
use Rattle.std.specs.Option.{option_and_then, option_map}
use Rattle.std.proofs.lemmas.List.{get_or_past}
use Rattle.fw_async.specs.Async.{spelling}
use Rattle.fw_async.specs.Wire.{Pairs}
use Rattle.fw_manager.specs.Bids.{CandidateState, is_standing_in, is_asked, bid_request}
use Rattle.fw_manager.specs.declared.candidate.BidProgress.TheVariants.{Fresh}
use Rattle.fw_node.specs.Packets.{packet_of}
use Rattle.fw_model_run.specs.Bidding.{bid_head}
use Rattle.fw_model_run.specs.State.{epoch_of, device_in, manager_in}
use Rattle.fw_bus_state.specs.Bids.{HasBids, candidate_asks, packet_of_bid}
use Rattle.fw_bus_state.specs.Wires.{HasRequests}
use Rattle.fw_model_run.proofs.Turns.{update_new, update_others}
use Rattle.fw_bus_state.proofs.Wires.{WithRequest, no_requests, requests_change}

-- ---- a bus reset

-- if no bid is of an epoch to come, none stands in a new one
no_bid : (r : Option ResetEntry) (d old : ℕ) (o : Option CandidateState) → epoch_of r ≡ old + 1 → ((c : CandidateState) → o ≡ Some c → c.epoch ≤ old) → packet_of_bid r d o ≡ None
no_bid r d old None new past = refl
no_bid r d old (Some c) new past =
    let before : c.epoch ≤ old = past c refl in
    let ne : (c.epoch ≡ epoch_of r) → ⊥ = λ same. omega (arith, before, new, same) in
    let other : (c.epoch == epoch_of r) ≡ false = grind (arith, nat_tests, ne) in
    let rests : is_standing_in (epoch_of r) c ≡ false = ap (λ b. is_asked (cond b c.stage Fresh)) other in
    ap (λ b. cond b (option_map (λ to. packet_of (bid_head to (node_of r d)) (bid_request (node_of r d))) (manager_in r)) None) rests

pub no_bids : (s t : State) → epoch_of t.account.latest ≡ epoch_of s.account.latest + 1
    → ((d : ℕ) (c : CandidateState) → t.election.candidates d ≡ Some c → c.epoch ≤ epoch_of s.account.latest) → HasBids [] t
no_bids s t new past =
    no_requests t.account.latest (candidate_asks t.account.latest t.election) (λ d. no_bid t.account.latest d (epoch_of s.account.latest) (t.election.candidates d) new (past d))

-- ---- one candidate is another one

pub changed_bids : (w v : Pairs) (s t : State) (d own : ℕ) (o : Option CandidateState) → IsGood s → number_in s.account.latest d ≡ Some own
    → t.account.latest ≡ s.account.latest → t.election.candidates ≡ update s.election.candidates d o → WithRequest w v own (packet_of_bid s.account.latest d o) → HasBids w s → HasBids v t
changed_bids w v s t d own o g at latest candidates x h = record {
  each = λ n. there.each n ∙ (λ i. option_map spelling (option_and_then (λ k. packet_of_bid (sym latest i) k (sym candidates i k)) (device_in (sym latest i) n)));
}
  where
    r : Option ResetEntry
    r = s.account.latest

    there : HasRequests v r (λ k. packet_of_bid r k (update s.election.candidates d o k))
    there = requests_change w v s (candidate_asks r s.election) (λ k. packet_of_bid r k (update s.election.candidates d o k)) d own g at
        (subst (WithRequest w v own) (sym (ap (packet_of_bid r d) (update_new s.election.candidates d o))) x) (λ k ne. ap (packet_of_bid r k) (update_others s.election.candidates d o k ne)) h

-- a candidate by the machine is one by the run
pub candidate_same : (m : Machine) (s : State) (d : ℕ) → StandsFor m s → candidate_in m.candidates d ≡ s.election.candidates d
candidate_same m s d st = go (cases_lt d (length s.declared.names))
  where
    size : length m.candidates.list ≡ length s.declared.names
    size = st.election.size

    go : (d < length s.declared.names) ⊎ (length s.declared.names ≤ d) → candidate_in m.candidates d ≡ s.election.candidates d
    go (inl low) = st.election.each d low
    go (inr past) = get_or_past m.candidates.list d None (let n = size in omega (arith, n, past)) ∙ sym (st.election.others d past)
