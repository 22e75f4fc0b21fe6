-- What commands ask of controllers: by the machine and by the run.
use Rattle.fw_bus_engine.proofs.Common.{◌≡◌, ℕ, ◌<◌, ◌&&◌, not, Bool, true, false, Option, Some, None, refl, ap, sym, subst, ◌∙◌, IsTrue, Ok, Result, PlugAt, update, at_plug, Entry, Account}
use Rattle.fw_bus_engine.proofs.Common.{Register, word_of, ControllerState, at_most, State, is_living, is_linked, half, after_half, IsGood, living_linked, Machine, TakesAction, TakesHalf, StandsFor}
use Rattle.fw_bus_engine.proofs.Common.{is_linked_in, is_living_in, ControllerTable, IsTable, count_of, states_of, dead_of, Pairs, without, node_at, HasWire, linked_same, living_same}
use Rattle.fw_bus_engine.proofs.Common.{length, Listening, Awaits, Stage, stands_here, Election, step_beside, CandidateTable, HasElection, candidates_of, Transition}
use Rattle.fw_model_account.specs.Events.{after_death as account_after_death}
use Rattle.fw_cmp.specs.Controllers.{IsStanding, first_state as new_controller}
use Rattle.fw_cmp_jobs.specs.Fits.{SlotFits}
use Rattle.fw_cmp.specs.Starts.{break_fault, break_started, started as given}
use Rattle.fw_model_controllers.specs.Lingering.{SameLinger}
use Rattle.fw_order.specs.declared.order.Wanted.{Wanted}
use Rattle.fw_model_run.specs.Entries.{died, started}
use Rattle.fw_model_run.specs.HalfSteps.{has_request, with_controller}
use Rattle.fw_model_run.specs.Actions.{StartConnection, StartBreak, Die, CarryOut, Start}
use Rattle.fw_model_run.specs.Afterwards.{slot_of, start_of, with_connection, after_death, after_start, with_new_controller}
use Rattle.fw_model_run.proofs.Counting.{deaths_keep}
use Rattle.fw_bus_engine.proofs.HalfWires.{own_number}
use Rattle.fw_bus_state.proofs.Wires.{changed_wire, take_request, wire_same}
use Rattle.fw_bus_state.proofs.WireResets.{given_current, break_current, same_currents}
use Rattle.fw_bus_engine.proofs.Deaths.{death_words}
use Rattle.fw_bus_state.proofs.Living.{linked_low}
use Rattle.fw_bus_state.proofs.Standing.{directory_same, devices_kept}
use Rattle.fw_cmp.specs.Losses.{first_listening, with_state}
use Rattle.fw_cmp.specs.declared.outcome.StartFault.{StartFault}
use Rattle.fw_model_run.proofs.Truth.{start_same, breaks_as}
use Rattle.fw_model_run.proofs.Apart.{controllers_of, all_start, all_break, all_die, all_start_again}
use Rattle.fw_bus_state.proofs.Heard.{at_same, stands_request}
use Rattle.fw_bus_state.proofs.Counts.{streams_same}
use Rattle.fw_model_run.specs.Elections.{with_candidate}
use Rattle.fw_bus_state.proofs.Besides.{changed_bids}
use Rattle.fw_bus_state.specs.Stands.{HasDevices}
use Rattle.fw_bus_state.specs.Bids.{HasBids}
use Rattle.fw_model_run.specs.Beside.{IsBeside}

-- ---- another table of controllers

-- what of an account nodes and controllers are told is the same
pub record SameAccount (l k : Account) : Type 0 where
  pub latest : k.latest ≡ l.latest
  pub reclaiming : k.reclaiming ≡ l.reclaiming
  pub withheld : k.withheld ≡ l.withheld
  pub words : (r : Register) → word_of k r ≡ word_of l r
  pub linger : SameLinger l k

pub same_account : (l : Account) → SameAccount l l
same_account l = record { latest = refl; reclaiming = refl; withheld = refl; words = λ r. refl; linger = λ p. refl }

-- the machine whose table is another one stands for the state whose controllers are those
pub table_stands : (m : Machine) (s : State) (table : ControllerTable)
    (f : ℕ → ControllerState) (a : ℕ → ℕ) (o : ℕ → Option Stage) (k : (ℕ → Listening) → ℕ → Listening) (h : (ℕ → Bool) → ℕ → Bool) (l : Account) (w : Pairs) (c : PlugAt → ℕ) (cs : CandidateTable)
    (b : Pairs) (e : Election)
    → StandsFor m s → SameAccount s.account l → IsTable table (count_of m.controllers) (k (states_of m.controllers)) (h (dead_of m.controllers))
    → controllers_of (record s { controllers = f; asked_at = a; lost = o; dead = h s.dead; account = l; streams = c; election = e }) ≡ k (controllers_of s)
    → HasWire w (record s { controllers = f; asked_at = a; lost = o; dead = h s.dead; account = l; streams = c; election = e }) → ((p : PlugAt) → c p ≡ s.streams p)
    → HasElection cs (length s.declared.names) e → HasBids b (record s { controllers = f; asked_at = a; lost = o; dead = h s.dead; account = l; streams = c; election = e })
    → IsBeside (record s { controllers = f; asked_at = a; lost = o; dead = h s.dead; account = l; streams = c; election = e })
    → StandsFor (record m { controllers = table; wire = w; candidates = cs; bids = b }) (record s { controllers = f; asked_at = a; lost = o; dead = h s.dead; account = l; streams = c; election = e })
table_stands m s table f a o k h l w c cs b e st same is all wire counts election bids around = record {
  devices = subst (λ r. HasDevices m.devices r) (sym (devices_kept s l s.dub.lingers same.latest same.words same.withheld same.linger (λ p. refl))) st.devices;
  clock = record {
    cycle = st.clock.cycle;
    reclaiming = st.clock.reclaiming ∙ sym same.reclaiming;
    half_steps = st.clock.half_steps;
    written = st.clock.written;
    resets = st.clock.resets;
  };
  table = record {
    count_is = is.count_is ∙ st.table.count_is;
    states_are = is.states_are ∙ (ap k st.table.states_are ∙ sym all);
    dead_are = is.dead_are ∙ ap h st.table.dead_are;
  };
  directory = st.directory ∙ sym (directory_same s t same.latest refl);
  wire = wire;
  streams = streams_same m.streams s.streams c (λ d. counts (at_plug d 0)) st.streams;
  answered = st.answered;
  unsent = st.unsent;
  election = election;
  bids = bids;
  reel = st.reel;
  around = around;
}
  where
    t : State
    t = record s { controllers = f; asked_at = a; lost = o; dead = h s.dead; account = l; streams = c; election = e }

-- ---- a new connection, and a break

-- the controllers after a connection was asked for
abbrev pub connected : ℕ → Wanted → Result ℕ StartFault → (ℕ → Listening) → ℕ → Listening
connected d w r c = update c d (with_state (c d) (given r (slot_of w) (c d).state))

pub connect_turns : (m : Machine) (table : ControllerTable) (d : ℕ) (w : Wanted) (i : ℕ)
    → IsTrue (is_living_in m d) → SlotFits (slot_of w) → start_of d w (states_of m.controllers d).state ≡ Ok i
    → IsTable table (count_of m.controllers) (connected d w (Ok i) (states_of m.controllers)) (dead_of m.controllers)
    → TakesAction (StartConnection d w) m (record m { controllers = table }) m.cycle None
connect_turns m table d w i lives slot found put = record {
  shown = λ s g st.
      let same : start_of d w (states_of m.controllers d).state ≡ start_of d w (s.controllers d) =
      ap (λ (c : Listening). start_of d w c.state) (at_same m s d st) ∙ start_same d w (s.controllers d) (s.lost d) in
      let living : IsTrue (is_living s d) = subst IsTrue (living_same m s d g st) lives in
      let is = subst (λ (r : Result ℕ StartFault). IsTable table (count_of m.controllers) (connected d w r (states_of m.controllers)) (dead_of m.controllers)) (sym found) put in (
        with_connection s d w,
        record { found = tt; waits = st.answered; may = record { lives = living; fits = slot; slot = i; starts = sym same ∙ found }; out_is = refl; state_is = refl },
        table_stands m s table (with_connection s d w).controllers s.asked_at s.lost (λ c. connected d w (start_of d w (c d).state) c)
            (λ x. x) s.account m.wire s.streams m.candidates m.bids s.election st (same_account s.account) is (all_start s d w)
            (wire_same m.wire s (with_connection s d w) refl refl
            (same_currents s.controllers d (given (start_of d w (s.controllers d)) (slot_of w) (s.controllers d))
            (given_current (start_of d w (s.controllers d)) (slot_of w) (s.controllers d))) st.wire)
            (λ p. refl)
            st.election st.bids st.around,
      );
}

-- the controllers after a break was asked for
abbrev pub broken : ℕ → ℕ → (ℕ → Listening) → ℕ → Listening
broken d i c = update c d (with_state (c d) (break_started (c d).state i))

pub break_turns : (m : Machine) (table : ControllerTable) (d i : ℕ) → IsTrue (is_living_in m d) → break_fault (states_of m.controllers d).state i ≡ None
    → IsTable table (count_of m.controllers) (broken d i (states_of m.controllers)) (dead_of m.controllers)
    → TakesAction (StartBreak d i) m (record m { controllers = table }) m.cycle None
break_turns m table d i lives ok is = record {
  shown = λ s g st.
      let same : break_fault (states_of m.controllers d).state i ≡ break_fault (s.controllers d) i = ap (λ (c : Listening). break_fault c.state i) (at_same m s d st) ∙ breaks_as s d i in
      let accepted : break_fault (s.controllers d) i ≡ None = sym same ∙ ok in
      let living : IsTrue (is_living s d) = subst IsTrue (living_same m s d g st) lives in (
        with_controller s d (break_started (s.controllers d) i),
        record { found = tt; waits = st.answered; may = record { lives = living; starts = accepted }; out_is = refl; state_is = refl },
        table_stands m s table (with_controller s d (break_started (s.controllers d) i)).controllers s.asked_at s.lost (broken d i)
            (λ x. x) s.account m.wire s.streams m.candidates m.bids s.election st (same_account s.account) is (all_break s d i)
            (wire_same m.wire s (with_controller s d (break_started (s.controllers d) i)) refl refl
            (same_currents s.controllers d (break_started (s.controllers d) i) (break_current (s.controllers d) i)) st.wire)
            (λ p. refl)
            st.election st.bids st.around,
      );
}

-- ---- deaths and starts

-- a death leaves the words of registers
death_same : (l : Account) (d : ℕ) → d < 63 → SameAccount l (account_after_death d l)
death_same l d lt = record { latest = refl; reclaiming = refl; withheld = refl; words = death_words l d lt; linger = λ p. refl }

-- the controllers if that of a device has just started
abbrev pub renewed : ℕ → (ℕ → Listening) → ℕ → Listening
renewed d c = update c d first_listening

abbrev pub marked : ℕ → Bool → (ℕ → Bool) → ℕ → Bool
marked d b c = update c d b

pub death_turns : (m : Machine) (table : ControllerTable) (left : CandidateTable) (d own : ℕ) (e : Entry) → IsTrue (is_living_in m d) → (node_at m.devices.nodes d).number ≡ Some own
    → e ≡ died d
    → IsTable table (count_of m.controllers) (renewed d (states_of m.controllers)) (marked d true (dead_of m.controllers))
    → ((x : Election) → HasElection m.candidates (candidates_of m.candidates) x → HasElection left (candidates_of m.candidates) (with_candidate x d None))
    → TakesAction (Die d) m (record m { controllers = table; wire = without own m.wire; candidates = left; bids = without own m.bids }) m.cycle (Some e)
death_turns m table left d own e lives number entry is leaves = record {
  shown = λ s g st.
      let living : IsTrue (is_living s d) = subst IsTrue (living_same m s d g st) lives in
      let out : at_most m.cycle (Some e) ≡ at_most s.clock.cycle (Some (died d)) = (λ i. at_most (st.clock.cycle i) (Some (entry i))) in
      let same = death_same s.account d (linked_low s d g (living_linked s d living)) in
      let step : Transition s (Die d) (at_most s.clock.cycle (Some (died d))) (after_death s d) = record { found = tt; waits = st.answered; may = living; out_is = refl; state_is = refl } in (
        after_death s d,
        record { found = tt; waits = st.answered; may = living; out_is = out; state_is = refl },
        table_stands m s table (after_death s d).controllers (after_death s d).asked_at (after_death s d).lost (renewed d) (marked d true) (account_after_death d s.account) (without own m.wire)
            (after_death s d).streams left (without own m.bids) (with_candidate s.election d None) st same is (all_die s d)
            (changed_wire m.wire (without own m.wire) s (after_death s d) d own new_controller g
            (record { latest = same.latest; told = directory_same s (after_death s d) same.latest refl; controllers = refl })
            (own_number m s d own g st lives number) (take_request m.wire own) st.wire)
            (deaths_keep s d (at_most s.clock.cycle (Some (died d))) (after_death s d) g step)
            (subst (λ n. HasElection left n (with_candidate s.election d None)) st.election.size
            (leaves s.election (subst (λ n. HasElection m.candidates n s.election) (sym st.election.size) st.election)))
            (changed_bids m.bids (without own m.bids) s (after_death s d) d own None g (own_number m s d own g st lives number) same.latest refl (take_request m.bids own) st.bids)
            (step_beside s (Die d) (at_most s.clock.cycle (Some (died d))) (after_death s d) g st.around step),
      );
}

-- that of a device whose controller died is a new one
unused : (s : State) (d : ℕ) → IsGood s → IsTrue (s.dead d) → s.controllers d ≡ new_controller
unused s d g dead = g.unused d (off (is_linked s d) (s.dead d) dead)
  where
    off : (a b : Bool) → b ≡ true → (a && not b) ≡ false
    off true true e = refl
    off false true e = refl
    off a false e = let no : ⊥ = cc in absurd no

pub start_turns : (m : Machine) (table : ControllerTable) (d : ℕ) (e : Entry)
    → IsTrue (is_linked_in m.devices d) → IsTrue (dead_of m.controllers d) → e ≡ started d
    → IsTable table (count_of m.controllers) (renewed d (states_of m.controllers)) (marked d false (dead_of m.controllers))
    → TakesAction (Start d) m (record m { controllers = table }) m.cycle (Some e)
start_turns m table d e on was entry is = record {
  shown = λ s g st.
      let linked : IsTrue (is_linked s d) = subst IsTrue (linked_same m.devices s d g st.devices) on in
      let dead : IsTrue (s.dead d) = sym (ap (λ (c : ℕ → Bool). c d) st.table.dead_are) ∙ was in
      let out : at_most m.cycle (Some e) ≡ at_most s.clock.cycle (Some (started d)) = (λ i. at_most (st.clock.cycle i) (Some (entry i))) in
      let step : Transition s (Start d) (at_most s.clock.cycle (Some (started d))) (after_start s d) =
      record { found = tt; waits = st.answered; may = record { linked = linked; dead = dead }; out_is = refl; state_is = refl } in (
        after_start s d,
        record { found = tt; waits = st.answered; may = record { linked = linked; dead = dead }; out_is = out; state_is = refl },
        table_stands m s table (after_start s d).controllers (after_start s d).asked_at (after_start s d).lost (renewed d) (marked d false) s.account m.wire s.streams m.candidates m.bids s.election st
            (same_account s.account) is (all_start_again s d)
            (wire_same m.wire s (with_new_controller s d false) refl refl
            (same_currents s.controllers d new_controller (sym (ap (λ (x : ControllerState). x.current) (unused s d g dead)))) st.wire)
            (λ p. refl)
            st.election st.bids
            (step_beside s (Start d) (at_most s.clock.cycle (Some (started d))) (after_start s d) g st.around step),
      );
}

-- ---- the outstanding request

-- it is carried out
pub carry_turns : (m now : Machine) (d : ℕ) (e : Option Entry)
    → IsTrue (is_living_in m d) → Awaits (states_of m.controllers d) → TakesHalf half m now d e → TakesAction (CarryOut d) m now m.cycle e
carry_turns m now d e lives stands takes = record {
  shown = λ s g st.
      let living : IsTrue (is_living s d) = subst IsTrue (living_same m s d g st) lives in
      let standing : IsStanding (s.controllers d).current = stands_here m s d st stands in
      let request : IsTrue (has_request (s.controllers d).current) = stands_request (s.controllers d).current standing in
      let x = takes s g st in
      let said = x.0 in
      let out : at_most m.cycle e ≡ at_most s.clock.cycle (half s d).says = (λ i. at_most (st.clock.cycle i) (said i)) in
      (after_half s d, record { found = tt; waits = st.answered; may = record { lives = living; stands = request }; out_is = out; state_is = refl }, x.1);
}
