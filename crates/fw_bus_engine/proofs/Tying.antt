-- A deck that the reel is tied to, and a computer that becomes a candidate: of the machine and of the run.
use Rattle.fw_bus_engine.proofs.Common.{◌≡◌, ◌≢◌, ◌⊎◌, inl, inr, ℕ, ◌<◌, ◌==◌, cond, List, [], length, Bool, true}
use Rattle.fw_bus_engine.proofs.Common.{false, Option, Some, None, is_some, refl, ap, sym, subst, ◌∙◌, arith, IsTrue, cases_eq}
use Rattle.fw_bus_engine.proofs.Common.{update, DeviceKind, Entry, ResetEntry, node_of, CandidateState, is_asked, packet_of, kind_at, kinds_of, is_node, bid_head, Election, at_most, State}
use Rattle.fw_bus_engine.proofs.Common.{epoch_of, manager_in, Transition, IsGood, step_beside, update_new}
use Rattle.fw_bus_engine.proofs.Common.{update_others, Machine, CandidateTable, HasElection, candidates_of, TakesAction, StandsFor}
use Rattle.fw_bus_engine.proofs.Common.{is_living_in, living_same}
use Rattle.std.specs.Option.{option_map}
use Rattle.fw_terms.specs.Devices.{is_capable}
use Rattle.fw_manager.specs.Bids.{bid_request}
use Rattle.fw_manager.specs.Bids.{first_state as new_candidate}
use Rattle.fw_manager.specs.declared.candidate.BidProgress.TheVariants.{Fresh}
use Rattle.fw_model_run.specs.Bidding.{is_candidate}
use Rattle.fw_model_run.specs.Elections.{with_new_candidate}
use Rattle.fw_model_run.specs.Entries as Entries
use Rattle.fw_model_run.specs.Recording.{tied_to}
use Rattle.fw_model_run.specs.Actions.{TieReel, BecomeCandidate}
use Rattle.fw_bus_state.specs.Bids.{candidate_asks, packet_of_bid}
use Rattle.fw_bus_state.proofs.Wires.{requests_same}
use Rattle.fw_bus_state.specs.Orders.{has_deck_in}
use Rattle.fw_bus_engine.proofs.LifeTurns.{table_stands, same_account}
use Rattle.fw_bus_engine.proofs.ResetTurns.{on_of}
use Rattle.fw_bus_engine.proofs.TapeTurns.{deck_same}

-- ---- a deck

pub tie_turns : (m : Machine) (reel : List (List ℕ)) (d : ℕ) (e : Entry) → d < length m.devices.nodes → IsTrue (has_deck_in m.devices d)
    → IsTrue (is_node m.devices.nodes d) → e ≡ Entries.dubbing d → reel ≡ [] → TakesAction (TieReel d) m (record m { tied = Some d; reel = reel }) m.cycle (Some e)
tie_turns m reel d e low deck on entry empty = record { shown = shown_ }
  where
    tied : (s : State) → IsGood s → StandsFor m s → Transition s (TieReel d) (at_most s.clock.cycle (Some (Entries.dubbing d))) (tied_to s d)
    tied s g st =
        let size = st.devices.nodes.size in
        record {
          found = tt;
          waits = st.answered;
          may = record { declared = let n = size in omega (arith, low, n); deck = sym (deck_same m s d st) ∙ deck; on = on_of m s d g st on };
          out_is = refl;
          state_is = refl;
        }

    stands : (s : State) → IsGood s → StandsFor m s → StandsFor (record m { tied = Some d; reel = reel }) (tied_to s d)
    stands s g st = record {
      devices = st.devices;
      clock = st.clock;
      table = st.table;
      directory = st.directory;
      wire = st.wire;
      streams = st.streams;
      answered = st.answered;
      unsent = st.unsent;
      election = st.election;
      bids = st.bids;
      reel = record { tied_is = refl; reel_is = empty };
      around = step_beside s (TieReel d) (at_most s.clock.cycle (Some (Entries.dubbing d))) (tied_to s d) g st.around (tied s g st);
    }

    shown_ : (s : State) → IsGood s → StandsFor m s
        → (t : State) × Transition s (TieReel d) (at_most m.cycle (Some e)) t × StandsFor (record m { tied = Some d; reel = reel }) t
    shown_ s g st =
        let out : at_most s.clock.cycle (Some (Entries.dubbing d)) ≡ at_most m.cycle (Some e) = (λ i. at_most (sym st.clock.cycle i) (Some (sym entry i))) in
        (tied_to s d, subst (λ o. Transition s (TieReel d) o (tied_to s d)) out (tied s g st), stands s g st)

-- ---- a candidate

-- one that has made no bid yet has no request
no_request : (r : Option ResetEntry) (d : ℕ) → packet_of_bid r d (Some new_candidate) ≡ None
no_request r d = go (0 == epoch_of r)
  where
    go : (b : Bool) → cond (is_asked (cond b Fresh Fresh)) (option_map (λ to. packet_of (bid_head to (node_of r d)) (bid_request (node_of r d))) (manager_in r)) None ≡ None
    go true = refl
    go false = refl

entered_asks : (s : State) (d : ℕ) → s.election.candidates d ≡ None → (k : ℕ)
    → candidate_asks s.account.latest (with_new_candidate s.election d) k ≡ candidate_asks s.account.latest s.election k
entered_asks s d none k = go (cases_eq k d)
  where
    r : Option ResetEntry
    r = s.account.latest

    go : (k ≡ d) ⊎ (k ≢ d) → packet_of_bid r k (update s.election.candidates d (Some new_candidate) k) ≡ packet_of_bid r k (s.election.candidates k)
    go (inl same) =
        subst (λ k. packet_of_bid r k (update s.election.candidates d (Some new_candidate) k) ≡ packet_of_bid r k (s.election.candidates k)) (sym same)
        (ap (packet_of_bid r d) (update_new s.election.candidates d (Some new_candidate)) ∙ (no_request r d ∙ sym (ap (packet_of_bid r d) none)))
    go (inr ne) = ap (packet_of_bid r k) (update_others s.election.candidates d (Some new_candidate) k ne)

no_candidate : (o : Option CandidateState) → is_some o ≡ false → o ≡ None
no_candidate None e = refl
no_candidate (Some c) e = absurd (grind (arith, e))

pub enter_turns : (m : Machine) (t : CandidateTable) (d : ℕ) → IsTrue (is_living_in m d) → IsTrue (is_capable (kind_at (kinds_of m.devices.nodes) d))
    → ((e : Election) → HasElection m.candidates (candidates_of m.candidates) e → false ≡ is_some (e.candidates d))
    → ((e : Election) → HasElection m.candidates (candidates_of m.candidates) e → HasElection t (candidates_of m.candidates) (with_new_candidate e d))
    → TakesAction (BecomeCandidate d) m (record m { candidates = t }) m.cycle None
enter_turns m t d lives capable none enters = record { shown = shown_ }
  where
    shown_ : (s : State) → IsGood s → StandsFor m s → (u : State) × Transition s (BecomeCandidate d) [] u × StandsFor (record m { candidates = t }) u
    shown_ s g st =
        let u : State = record s { election = with_new_candidate s.election d } in
        let here : HasElection m.candidates (candidates_of m.candidates) s.election =
        subst (λ n. HasElection m.candidates n s.election) (sym st.election.size) st.election in
        let off : is_candidate s d ≡ false = sym (none s.election here) in
        let can : IsTrue (is_capable (kind_at s.declared.kinds d)) = subst (λ (ks : List DeviceKind). IsTrue (is_capable (kind_at ks d))) st.devices.kinds capable in
        let step : Transition s (BecomeCandidate d) [] u =
        record { found = tt; waits = st.answered; may = record { lives = sym (living_same m s d g st) ∙ lives; capable = can; fresh = off }; out_is = refl; state_is = refl } in (
          u,
          step,
          table_stands m s m.controllers s.controllers s.asked_at s.lost (λ x. x) (λ x. x) s.account m.wire s.streams t m.bids (with_new_candidate s.election d) st (same_account s.account)
              (record { count_is = refl; states_are = refl; dead_are = refl }) refl (record { each = st.wire.each }) (λ p. refl)
              (subst (λ n. HasElection t n (with_new_candidate s.election d)) st.election.size (enters s.election here))
              (requests_same m.bids s.account.latest (candidate_asks s.account.latest s.election) (candidate_asks s.account.latest (with_new_candidate s.election d))
              (entered_asks s d (no_candidate (s.election.candidates d) off)) st.bids)
              (step_beside s (BecomeCandidate d) [] u g st.around step),
        )
