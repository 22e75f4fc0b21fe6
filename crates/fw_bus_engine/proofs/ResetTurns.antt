-- A bus reset of the machine is one of the run.
use Rattle.fw_bus_engine.proofs.Common.{◌≡◌, ℕ, ◌+◌, ◌<◌, ◌≤◌, ◌^◌, List, [], ◌∷◌, Option, Some, refl, ap}
use Rattle.fw_bus_engine.proofs.Common.{sym, subst, ◌∙◌, arith, length, IsTrue, Result, Reset, Topology, is_node, MOST_RESETS, at_most}
use Rattle.fw_bus_engine.proofs.Common.{State, is_on, is_deaf, Resets, IsGood, Machine, BeginsReset, GivesReset, between}
use Rattle.fw_bus_engine.proofs.Common.{StandsFor, IsReady, Pairs, HasWire, TakesAction, Performed, Performs, is_node_same}
use Rattle.fw_bus_engine.proofs.Common.{on_within, step_beside, CandidateTable, HasElection, Transition, Timed}
use Rattle.fw_tree.specs.Cables.{IsOnBus}
use Rattle.fw_model_run.specs.Actions.{ResetBus}
use Rattle.fw_model_run.specs.Afterwards.{after_reset_entry, counting}
use Rattle.fw_model_run.proofs.Cables.{on_is_bus, on_some}
use Rattle.fw_bus_state.proofs.WireResets.{wire_empty, reset_stands_none}
use Rattle.fw_bus_state.proofs.Renumbered.{manager_reset, kinds_reset}
use Rattle.fw_bus_engine.proofs.OneAction.{does_one}
use Rattle.fw_bus_state.proofs.Standing.{resets_stand}
use Rattle.fw_bus_engine.proofs.Began.{MayBegin, entry_is, first_is, resets_now, nodes_now, lingering_now, hearers_now, decks_now, directory_now, table_now, streams_now}
use Rattle.fw_bus_state.specs.Bids.{HasBids}
use Rattle.fw_bus_state.proofs.Besides.{no_bids}

-- ---- the state after it

-- the machine stands for the state after the bus reset
reset_stands : (m now : Machine) (good s : State) (i : ℕ) → MayBegin m good s i → BeginsReset m now i → m.devices.epoch < MOST_RESETS
    → StandsFor now (after_reset_entry s now.devices.latest)
reset_stands m now good s i may b few =
    let st = may.stands in
    let t : State = after_reset_entry s now.devices.latest in
    record {
      devices = record {
        topology = b.reset.topology ∙ st.devices.topology;
        names = b.reset.names ∙ st.devices.names;
        kinds = kinds_reset m.devices now.devices i now.devices.latest b.reset ∙ st.devices.kinds;
        nodes = nodes_now m now good s i may b;
        lingering = lingering_now m now good s i may b;
        decks = decks_now m now good s i may b;
        hearers = hearers_now m now good s i may b;
        latest = refl;
        epoch = b.reset.epoch ∙ sym b.reset.entry.epoch_is;
        manager = manager_reset m.devices now.devices i now.devices.latest b.reset;
        withheld = b.reset.withheld ∙ st.devices.withheld;
      };
      clock = record {
        cycle = ap (λ (z : Machine). z.cycle) b.after ∙ st.clock.cycle;
        reclaiming = ap (λ (z : Machine). z.reclaiming) b.after ∙ first_is m.devices.nodes good s may.is_good may.extends.account st.devices.nodes may.some;
        half_steps = ap (λ (z : Machine). z.half_steps) b.after ∙ st.clock.half_steps;
        written = ap (λ (z : Machine). z.written) b.after ∙ st.clock.written;
        resets = ap (λ (z : Machine). z.resets) b.after ∙ st.clock.resets;
      };
      table = table_now m now s i st b;
      directory = directory_now m now good s i may b;
      wire = subst (λ (w : Pairs). HasWire w t) (sym (ap (λ (z : Machine). z.wire) b.after))
          (wire_empty t (λ d. reset_stands_none now.devices.latest.epoch (is_deaf s d) (s.controllers d)));
      streams = streams_now m now good s i may b few;
      answered = st.answered;
      unsent = refl;
      election = subst (λ (z : CandidateTable). HasElection z (length s.declared.names) s.election) (sym (ap (λ (z : Machine). z.candidates) b.after)) st.election;
      bids = subst (λ (w : Pairs). HasBids w t) (sym (ap (λ (z : Machine). z.bids) b.after))
          (no_bids s t (let new = (entry_is m now s i st b).epoch_is in new) (λ d c is. st.around.candidates.past d c is));
      reel = record {
        tied_is = ap (λ (z : Machine). z.tied) b.after ∙ st.reel.tied_is;
        reel_is = ap (λ (z : Machine). z.reel) b.after ∙ st.reel.reel_is;
      };
      around = step_beside good may.action (at_most s.clock.cycle (Some (Reset now.devices.latest))) t may.is_good may.around
          (may.begins (at_most s.clock.cycle (Some (Reset now.devices.latest))) t (resets_now m now good s i may b few));
    }

-- what a bus reset of the machine is in the run
pub record IsResetOf (now : Machine) (s : State) (i cycle : ℕ) : Type 0 where
  pub state : State
  pub resets : Resets s i (at_most cycle (Some (Reset now.devices.latest))) state
  pub stands : StandsFor now state

pub reset_of : (m now : Machine) (good s : State) (i : ℕ) → MayBegin m good s i → BeginsReset m now i → m.devices.epoch < MOST_RESETS → IsResetOf now s i m.cycle
reset_of m now good s i may b few =
    let t : State = after_reset_entry s now.devices.latest in record {
      state = t;
      resets = subst (λ c. Resets s i (at_most c (Some (Reset now.devices.latest))) t) (sym may.stands.clock.cycle) (resets_now m now good s i may b few);
      stands = reset_stands m now good s i may b few;
    }

-- ---- a bus reset that a device on the bus begins

-- a device that is a node is on the bus
pub on_of : (m : Machine) (s : State) (d : ℕ) → IsGood s → StandsFor m s → IsTrue (is_node m.devices.nodes d) → IsTrue (is_on s d)
on_of m s d g st node = subst (λ b. IsTrue b) (is_node_same m.devices.nodes s st.devices.nodes g d) node

-- a device that is a node is declared
pub within : (m : Machine) (s : State) (d : ℕ) → IsGood s → StandsFor m s → IsTrue (is_node m.devices.nodes d) → d < length m.devices.nodes
within m s d g st node = on_within m.devices.nodes s d st.devices.nodes g (on_of m s d g st node)

-- so some device is
pub some_nodes : (m : Machine) (s : State) (d : ℕ) → IsGood s → StandsFor m s → IsTrue (is_node m.devices.nodes d) → 0 < length m.devices.nodes
some_nodes m s d g st node = let lt = within m s d g st node in omega (arith, lt)

-- a bus reset that counts
abbrev pub counting_in : Machine → Machine
counting_in m = record m { resets = m.resets + 1 }

-- fewer came than count
pub few_epochs : (m : Machine) (s : State) → IsGood s → StandsFor m s → m.resets < MOST_RESETS → m.devices.epoch < MOST_RESETS
few_epochs m s g st few = let came = g.losses.came in let epoch = st.devices.epoch in let resets = st.clock.resets in omega (arith, came, epoch, resets, few)

-- the bus reset of the machine is the action of the run
pub reset_turns : (m now : Machine) (d : ℕ) → IsTrue (is_node m.devices.nodes d) → m.resets < MOST_RESETS → BeginsReset (counting_in m) now d
    → TakesAction (ResetBus d) m now m.cycle (Some (Reset now.devices.latest))
reset_turns m now d node few b = record {
  shown = λ s g st.
      let low : s.resets < MOST_RESETS = let resets = st.clock.resets in omega (arith, resets, few) in
      let begins : (out : List Timed) (t : State) → Resets (counting s) d out t → Transition s (ResetBus d) out t = λ out t r. record {
        found = r.entry;
        waits = st.answered;
        may = record { on = on_of m s d g st node; begins = record { counts = low; reset = record { is_entry = r.is_entry; few = r.few } } };
        out_is = r.out_is;
        state_is = r.state_is;
      } in
      let may : MayBegin (counting_in m) s (counting s) d = record {
        is_good = g;
        around = st.around;
        dub = refl;
        action = ResetBus d;
        begins = begins;
        extends = record { account = refl; cycle = refl; decks = refl; streams = refl; kinds = λ d lt. refl };
        stands = resets_stand m s (m.resets + 1) (s.resets + 1) (ap (λ n. n + 1) st.clock.resets) st;
        declared = g.declared;
        some = some_nodes m s d g st node;
        more = omega arith;
        walks = λ c on. on;
      } in
      let r = reset_of (counting_in m) now s (counting s) d may b (few_epochs m s g st few) in
      (r.state, begins (at_most m.cycle (Some (Reset now.devices.latest))) r.state r.resets, r.stands);
}

-- ---- what a bus reset of the code asks

-- a device that is a node is on the bus by the cables
pub ready_on : {m : Machine} (d : ℕ) → IsReady m → IsTrue (is_node m.devices.nodes d) → IsOnBus m.devices.topology.cables d
ready_on {m} d r node =
    let on = on_of m r.state d r.good r.stands node in
    subst (λ (t : Topology). IsOnBus t.cables d) (sym r.stands.devices.topology) ((on_is_bus r.state r.good (on_some r.state d r.good on) d).0 on)

-- it is declared
pub ready_declared : {m : Machine} (d : ℕ) → IsReady m → IsTrue (is_node m.devices.nodes d) → d < length m.devices.nodes
ready_declared {m} d r node = within m r.state d r.good r.stands node

-- fewer bus resets came than count
pub ready_few : {m : Machine} → IsReady m → m.resets < MOST_RESETS → m.devices.epoch < MOST_RESETS
ready_few {m} r few = few_epochs m r.state r.good r.stands few

-- the cycles of a run are few
pub ready_cycle : {m : Machine} → IsReady m → m.cycle ≤ 2 ^ 52
ready_cycle r = subst (λ c. c ≤ 2 ^ 52) (sym r.stands.clock.cycle) r.good.time.cycle

-- ---- what was written

-- the entry is of the cycle before the bus reset, which takes no time
pub same_cycle : {m now : Machine} {i : ℕ} → BeginsReset m now i → now.cycle ≡ m.cycle
same_cycle b = ap (λ (z : Machine). z.cycle) b.after

-- the entry of the bus reset was written, or cut off
pub reset_does : {T E : Type 0} {held after : Option (List ℕ)} {k l : ℕ} (m now : Machine) (d : ℕ) (r : Result T E) → IsTrue (is_node m.devices.nodes d)
    → m.resets < MOST_RESETS
    → GivesReset (counting_in m) now d (between held after k l) r → Performed (Performs (ResetBus d ∷ [])) m now (between held after k l) r
reset_does m now d r node few h = does_one m.cycle (Some (Reset now.devices.latest)) r (reset_turns m now d node few h.begins) h.gives h.faults
