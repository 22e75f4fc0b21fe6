-- The end of the second: of the machine and of the run.
use Rattle.fw_bus_engine.proofs.Common.{◌≡◌, ℕ, ◌+◌, ◌≤◌, ◌^◌, length, map, List, [], ◌∷◌, true, Option, Some, refl, ap, sym, subst, ◌∙◌, Network, Account, Result, at_most, GivesEntry, State}
use Rattle.fw_bus_engine.proofs.Common.{EndSecond, Transition, IsGood, Directory, Machine, Gives, between, HasNodes, StandsFor, HasStreams, Performs, Performed, TakesAction, Pairs, HasWire}
use Rattle.fw_node.specs.State as Nodes
use Rattle.fw_cmp.specs.Losses.{after_end}
use Rattle.fw_cmp.specs.Resets.{after_second as controller_second}
use Rattle.std.proofs.lemmas.List.{length-map}
use Rattle.fw_model_account.specs.Events.{after_second as account_second}
use Rattle.fw_model_run.specs.Entries.{second_over}
use Rattle.fw_model_run.specs.State.{while_talking}
use Rattle.fw_model_run.specs.Afterwards.{after_cycles, after_second}
use Rattle.fw_model_run.proofs.Times.{second_ends, second_good}
use Rattle.fw_bus_engine.specs.Resetting.{RestsAfterSecond, passed_in}
use Rattle.fw_bus_state.specs.Stands.{HasDevices, seen, devices_at}
use Rattle.fw_bus_state.specs.Streaming.{counted_on}
use Rattle.fw_bus_engine.proofs.OneAction.{does_one}
use Rattle.fw_bus_state.proofs.Lingers.{lingering_rests}
use Rattle.fw_bus_state.proofs.DeckNodes.{decks_rest}
use Rattle.fw_bus_state.proofs.Counts.{streams_end}
use Rattle.fw_bus_engine.proofs.Rests.{same_words, rested_kinds, nodes_rest}
use Rattle.fw_model_run.specs.Dubs.{dub_after_second}
use Rattle.fw_bus_state.proofs.Hearing.{hearers_rest}
use Rattle.fw_bus_state.specs.Bids.{HasBids}
use Rattle.fw_bus_state.specs.Candidates.{CandidateTable, HasElection}
use Rattle.fw_bus_engine.proofs.SecondTurns.{devices_pass}

-- ---- the second is over

-- the state in which each controller hears of it, with this account
heard : State → Account → State
heard s l = record s { account = l; controllers = λ d. controller_second (s.controllers d); streams = while_talking l s.streams; dub = dub_after_second s.dub }

-- the state after its cycle
over : State → Account → State
over s l = after_cycles (heard s l) 1

-- the devices after the second
rested : Network → Network
rested n = record n { nodes = map Nodes.after_second n.nodes }

-- the devices stand for it
devices_rest : (n : Network) (s : State) → HasDevices n (devices_at s) → HasDevices (rested n) (devices_at (heard s (account_second s.account)))
unfolding heard rested
devices_rest n s h = record {
  topology = h.topology;
  names = h.names;
  kinds = rested_kinds n.nodes ∙ h.kinds;
  nodes = nodes_rest n.nodes t (subst (λ v. HasNodes n.nodes v) (sym kept) h.nodes);
  lingering = lingering_rests n.nodes s t (λ p. refl) h.lingering;
  decks = decks_rest n.nodes s h.decks;
  hearers = hearers_rest n.nodes s t (λ p. refl) h.hearers;
  latest = h.latest;
  epoch = h.epoch;
  manager = h.manager;
  withheld = h.withheld;
}
  where
    t : State
    t = record s {
      account = account_second s.account;
      controllers = λ d. controller_second (s.controllers d);
      streams = while_talking (account_second s.account) s.streams;
      dub = dub_after_second s.dub;
    }

    kept : seen t ≡ seen s
    kept = λ i. record (seen s) { words = λ r. same_words s.account r i }

-- they do after a cycle, in which tapes move
devices_end : (n : Network) (s : State) → HasDevices n (devices_at s) → HasDevices (passed_in 1 (rested n)) (devices_at (over s (account_second s.account)))
unfolding over
devices_end n s h = devices_pass 1 (rested n) (heard s (account_second s.account)) (devices_rest n s h)

-- the plugs that still talk count the blocks of the cycle
streams_over : (m : Machine) (s : State) → IsGood s → IsGood (over s (account_second s.account)) → StandsFor m s
    → HasStreams (counted_on 1 (map Nodes.after_second m.devices.nodes) m.streams) (over s (account_second s.account)).streams
unfolding heard over rested
streams_over m s g good st =
    let t : State = heard s (account_second s.account) in
    let h = devices_rest m.devices s st.devices in
    let nodes = map Nodes.after_second m.devices.nodes in
    streams_end nodes m.devices.nodes m.streams s t g good st.devices.nodes (length-map m.devices.nodes Nodes.after_second)
    h.nodes h.lingering h.decks refl st.streams

-- the machine does
rests_stands : (m now : Machine) (s : State) → IsGood s → IsGood (over s (account_second s.account)) → StandsFor m s → RestsAfterSecond m now
    → StandsFor now (over s (account_second s.account))
unfolding heard over rested
rests_stands m now s g good st r =
    let states = st.table.states_are in
    let t : State = over s (account_second s.account) in
    let P : Network → Type 0 = λ n. HasDevices n (devices_at t) in
    record {
      devices = subst P (sym (ap (λ (z : Machine). z.devices) r.after)) (devices_end m.devices s st.devices);
      clock = record {
        cycle = ap (λ (z : Machine). z.cycle) r.after ∙ ap (λ c. c + 1) st.clock.cycle;
        reclaiming = ap (λ (z : Machine). z.reclaiming) r.after;
        half_steps = ap (λ (z : Machine). z.half_steps) r.after ∙ st.clock.half_steps;
        written = ap (λ (z : Machine). z.written) r.after ∙ st.clock.written;
        resets = ap (λ (z : Machine). z.resets) r.after ∙ st.clock.resets;
      };
      table = record {
        count_is = r.table.count_is ∙ st.table.count_is;
        states_are = r.table.states_are ∙ (λ i d. after_end (states i d));
        dead_are = r.table.dead_are ∙ st.table.dead_are;
      };
      directory = ap (λ (z : Machine). z.directory) r.after ∙ st.directory;
      wire = subst (λ (w : Pairs). HasWire w t) (sym (ap (λ (z : Machine). z.wire) r.after)) (record { each = st.wire.each });
      streams = subst (λ (c : List ℕ). HasStreams c t.streams) (sym (ap (λ (z : Machine). z.streams) r.after)) (streams_over m s g good st);
      answered = st.answered;
      unsent = st.unsent;
      election = subst (λ (z : CandidateTable). HasElection z (length s.declared.names) s.election) (sym (ap (λ (z : Machine). z.candidates) r.after)) st.election;
      bids = subst (λ (w : Pairs). HasBids w t) (sym (ap (λ (z : Machine). z.bids) r.after)) st.bids;
      reel = record { tied_is = ap (λ (z : Machine). z.tied) r.after ∙ st.reel.tied_is; reel_is = ap (λ (z : Machine). z.reel) r.after ∙ st.reel.reel_is };
      around = record { candidates = st.around.candidates; hearing = record { quiet = λ d k off. refl } };
    }

-- the end of the second of the machine is the action of the run
pub second_turns : (m now : Machine) → m.reclaiming ≡ true → m.cycle + 1 ≡ m.directory.over_at → m.cycle + 1 ≤ 2 ^ 52 → RestsAfterSecond m now
    → TakesAction EndSecond m now (m.cycle + 1) (Some second_over)
unfolding heard over
second_turns m now runs at few r = record { shown = shown_ }
  where
    shown_ : (s : State) → IsGood s → StandsFor m s → (t : State) × Transition s EndSecond (at_most (m.cycle + 1) (Some second_over)) t × StandsFor now t
    shown_ s g st =
        let running : s.account.reclaiming ≡ true = sym st.clock.reclaiming ∙ runs in
        let cycle = st.clock.cycle in
        let over_at : s.clock.cycle + 1 ≡ s.clock.over_at = sym (ap (λ c. c + 1) cycle) ∙ (at ∙ ap (λ (x : Directory). x.over_at) st.directory) in
        let small : s.clock.cycle + 1 ≤ 2 ^ 52 = subst (λ c. c + 1 ≤ 2 ^ 52) cycle few in
        let good : IsGood (over s (account_second s.account)) =
        subst (λ l. IsGood (over s l)) (second_ends s.account running) (second_good s g running small) in
        let P : Account → Type 0 = λ l. StandsFor now (over s l) in (
          after_cycles (after_second s) 1,
          record {
            found = tt;
            waits = st.answered;
            may = record { fits = small; runs = running; over = over_at };
            out_is = ap (λ c. at_most (c + 1) (Some second_over)) cycle;
            state_is = refl;
          },
          subst P (sym (second_ends s.account running)) (rests_stands m now s g good st r),
        )

-- it is written, or cut off
pub second_given : {T E : Type 0} (m now : Machine) {a b : Option (List ℕ)} {k l : ℕ} (r : Result T E) → m.reclaiming ≡ true → m.cycle + 1 ≡ m.directory.over_at → m.cycle + 1 ≤ 2 ^ 52
    → RestsAfterSecond m now → Gives now second_over (between a b k l) r → Performed (Performs (EndSecond ∷ [])) m now (between a b k l) r
second_given m now {a} {b} r runs at few rests gives =
    let cycle : now.cycle ≡ m.cycle + 1 = ap (λ (z : Machine). z.cycle) rests.after in
    does_one (m.cycle + 1) (Some second_over) r (second_turns m now runs at few rests)
    (subst (λ c. GivesEntry a b r c now.devices.epoch (Some second_over)) cycle gives.bytes) gives.faults
