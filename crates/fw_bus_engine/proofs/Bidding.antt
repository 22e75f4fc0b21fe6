-- What is known of a candidate for the bus manager, its node and that of the resource manager.
use Rattle.fw_bus_engine.proofs.Common.{◌≡◌, ℕ, ◌<◌, cond, true, false, Option, Some, None, is_some, refl, ap, sym, subst, ◌∙◌, arith, IsTrue, same_Some, none-some, has_link, ResetEntry, NodeRow}
use Rattle.fw_bus_engine.proofs.Common.{node_of, CandidateState, packet_of, kind_at, node_at, MOST_HALF_STEPS, bid_head, IsGood, IsLatest, State, epoch_of, number_in, manager_in, is_living, Machine}
use Rattle.fw_bus_engine.proofs.Common.{HasElection, candidates_of, StandsFor, is_living_in, living_same}
use Rattle.std.specs.Option.{option_map}
use Rattle.fw_manager.specs.Bids.{is_standing_in, bid_request}
use Rattle.fw_devices.specs.Entries.{device_of}
use Rattle.fw_model_run.specs.Bidding.{epoch_at, own_node}
use Rattle.fw_terms.proofs.KindLaws.{contender_linked}
use Rattle.fw_bus_state.specs.Bids.{packet_of_bid}
use Rattle.fw_bus_engine.specs.Contending.{Contender}
use Rattle.fw_bus_state.specs.Stands.{manager_device}
use Rattle.fw_bus_engine.proofs.Responder.{place_number}
use Rattle.fw_bus_state.proofs.Besides.{candidate_same}
use Rattle.fw_bus_engine.proofs.HalfWires.{own_number}
use Rattle.fw_bus_state.proofs.Latest.{number_is}

-- ---- the resource manager

-- the device of its node, which has a link
pub record Seat (s : State) (manager : ℕ) : Type 0 where
  pub number : ℕ
  pub manages : manager_in s.account.latest ≡ Some number
  pub place : number_in s.account.latest manager ≡ Some number
  pub link : IsTrue (has_link (kind_at s.declared.kinds manager))

pub seat : (m : Machine) (s : State) (manager : ℕ) → IsGood s → StandsFor m s → m.devices.manager ≡ Some manager → Seat s manager
seat m s manager g st is = go s.account.latest refl g.latest (sym st.devices.manager ∙ is)
  where
    of_number : (e : ResetEntry) → s.account.latest ≡ Some e → IsLatest (Some e) s.declared s.account → (o : Option ℕ) → e.manager ≡ o → device_of e.nodes o ≡ Some manager → Seat s manager
    of_number e at h None none is = absurd (none-some manager is)
    of_number e at h (Some n) some is =
        let w = h.3 n some in
        let same : w.0 ≡ manager = same_Some w.0 manager (sym (ap (option_map (λ (r : NodeRow). r.device)) (h.1.numbers w.0 n w.1)) ∙ is) in
        record {
          number = n;
          manages = ap manager_in at ∙ some;
          place = subst (λ d. number_in s.account.latest d ≡ Some n) same (ap (λ o. number_in o w.0) at ∙ w.1);
          link = subst (λ d. has_link (kind_at s.declared.kinds d) ≡ true) same (contender_linked _ w.2);
        }

    go : (o : Option ResetEntry) → s.account.latest ≡ o → IsLatest o s.declared s.account → manager_device o ≡ Some manager → Seat s manager
    go None at h is = absurd (none-some manager is)
    go (Some e) at h is = of_number e at h e.manager refl is

-- ---- what is known of a candidate

pub record Known (m : Machine) (s : State) (d manager : ℕ) (k : Contender m d manager) : Type 0 where
  pub at : s.election.candidates d ≡ Some k.candidate
  pub lives : IsTrue (is_living s d)
  pub seat : Seat s manager
  pub epoch : m.devices.epoch ≡ epoch_at s
  pub few : s.half_steps < MOST_HALF_STEPS
  pub here : HasElection m.candidates (candidates_of m.candidates) s.election

pub known : (m : Machine) (s : State) (d manager : ℕ) → IsGood s → StandsFor m s → (k : Contender m d manager) → Known m s d manager k
known m s d manager g st k =
    let at : s.election.candidates d ≡ Some k.candidate = sym (candidate_same m s d st) ∙ k.is in
    let count = st.clock.half_steps in
    let few = k.few in
    record {
      at = at;
      lives = st.around.candidates.lives d (ap is_some at);
      seat = seat m s manager g st k.manages;
      epoch = st.devices.epoch;
      few = omega (arith, count, few);
      here = subst (λ n. HasElection m.candidates n s.election) (sym st.election.size) st.election;
    }

-- its controller lives
pub bidder_lives : (m : Machine) (s : State) (d manager : ℕ) → IsGood s → StandsFor m s → Contender m d manager → IsTrue (is_living_in m d)
bidder_lives m s d manager g st k = living_same m s d g st ∙ (known m s d manager g st k).lives

-- the number of its node
pub own_place : (m : Machine) (s : State) (d manager own : ℕ) → IsGood s → StandsFor m s → Contender m d manager → (node_at m.devices.nodes d).number ≡ Some own
    → number_in s.account.latest d ≡ Some own
own_place m s d manager own g st k is = own_number m s d own g st (bidder_lives m s d manager g st k) is

pub own_same : (m : Machine) (s : State) (d manager own : ℕ) → IsGood s → StandsFor m s → Contender m d manager → (node_at m.devices.nodes d).number ≡ Some own → own_node s d ≡ own
own_same m s d manager own g st k is = number_is s.account.latest d own (own_place m s d manager own g st k is)

-- and that of the manager
pub manager_number : (m : Machine) (s : State) (manager : ℕ) → IsGood s → StandsFor m s → (x : Seat s manager) → (node_at m.devices.nodes manager).number ≡ Some x.number
manager_number m s manager g st x = place_number m.devices.nodes s manager x.number g st.devices.nodes x.place

pub to_same : (m : Machine) (s : State) (manager to : ℕ) → IsGood s → StandsFor m s → (x : Seat s manager) → (node_at m.devices.nodes manager).number ≡ Some to → to ≡ x.number
to_same m s manager to g st x is = same_Some to x.number (sym is ∙ manager_number m s manager g st x)

-- ---- requests of candidates

-- none stands
pub none_stands : (r : Option ResetEntry) (d : ℕ) (c : CandidateState) → is_standing_in (epoch_of r) c ≡ false → packet_of_bid r d (Some c) ≡ None
none_stands r d c off = ap (λ b. cond b (option_map (λ to. packet_of (bid_head to (node_of r d)) (bid_request (node_of r d))) (manager_in r)) None) off

-- one stands
pub one_stands : (r : Option ResetEntry) (d n : ℕ) (c : CandidateState) → is_standing_in (epoch_of r) c ≡ true → manager_in r ≡ Some n
    → packet_of_bid r d (Some c) ≡ Some (packet_of (bid_head n (node_of r d)) (bid_request (node_of r d)))
one_stands r d n c on is =
    ap (λ b. cond b (option_map (λ to. packet_of (bid_head to (node_of r d)) (bid_request (node_of r d))) (manager_in r)) None) on
    ∙ ap (option_map (λ to. packet_of (bid_head to (node_of r d)) (bid_request (node_of r d)))) is
