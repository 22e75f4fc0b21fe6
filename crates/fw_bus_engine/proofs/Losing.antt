-- A lost response: the machine carries the request out and its controller keeps its stage, as in the run.
use Rattle.fw_bus_engine.proofs.Common.{◌≡◌, ℕ, ◌+◌, ◌<◌, List, [], ◌∷◌, ◌++◌, length, slice_set, true, Option, Some}
use Rattle.fw_bus_engine.proofs.Common.{None, is_some, refl, ap, sym, subst, ◌∙◌, arith, IsTrue, length-set, Packet, without}
use Rattle.fw_bus_engine.proofs.Common.{update, Reply, Async, Access, Stage, Listening, Awaits, reply_in, Network, MOST_RESETS, at_most, State, entered, is_deaf, is_living, half, after_half, Current}
use Rattle.fw_bus_engine.proofs.Common.{Nothing, Asking, Hearing, Overtaken, Carries, controller_at, living_linked, update_new}
use Rattle.fw_bus_engine.proofs.Common.{Machine, Performs, TakesAction, IsReady, StandsFor, is_living_in, looked_at}
use Rattle.fw_bus_engine.proofs.Common.{ControllerTable, IsTable, count_of, states_of, dead_of, nodes_after, stands_here, living_same}
use Rattle.fw_cmp.specs.Losses.{after_answer, after_loss as unheard}
use Rattle.fw_order.specs.declared.order.Order.TheVariants as Orders
use Rattle.fw_model_run.specs.Entries.{lost}
use Rattle.fw_model_run.specs.HalfSteps.{has_request}
use Rattle.fw_model_run.specs.Actions.{Lose, TellLoss}
use Rattle.fw_model_run.specs.Afterwards.{after_loss, stage_of}
use Rattle.fw_model_run.specs.Carrying.{loses}
use Rattle.fw_model_run.proofs.Apart.{all_lose}
use Rattle.fw_bus_engine.proofs.Doings.{Follows, GoesOn, acts_follow}
use Rattle.fw_bus_engine.proofs.OneAction.{one_step}
use Rattle.fw_bus_engine.specs.Serving.{Sent, Serves}
use Rattle.fw_bus_engine.proofs.HalfHears.{takes_hears}
use Rattle.fw_bus_engine.proofs.HalfTurns.{table_with}
use Rattle.fw_bus_state.proofs.Heard.{at_same, lost_same}
use Rattle.fw_bus_state.proofs.Heard.{stands_request}
use Rattle.fw_bus_state.proofs.Living.{linked_within}
use Rattle.fw_bus_engine.proofs.Served.{served_within}
use Rattle.fw_bus_state.proofs.Tables.{states_set}

-- ---- the response is written

-- another table, and another number of bus resets that count, of a state that differs in what was lost alone
unheard_stands : (m : Machine) (t : State) (k : ControllerTable) (j r : ℕ) (o : ℕ → Option Stage) → j ≡ r → StandsFor m t
    → IsTable k (length t.declared.names) (λ e. controller_at (record t { lost = o; resets = r }) e) t.dead
    → StandsFor (record m { controllers = k; resets = j }) (record t { lost = o; resets = r })
unheard_stands m t k j r o same st table = record {
  devices = st.devices;
  clock = record { cycle = st.clock.cycle; reclaiming = st.clock.reclaiming; half_steps = st.clock.half_steps; written = st.clock.written; resets = same };
  table = table;
  directory = st.directory;
  wire = st.wire;
  streams = st.streams;
  answered = st.answered;
  unsent = st.unsent;
  election = st.election;
  bids = st.bids;
  reel = st.reel;
  around = st.around;
}

-- the machine whose controller would have heard it
abbrev heard_table : Machine → ℕ → Reply → ControllerTable
heard_table m d r = record m.controllers { list = slice_set m.controllers.list d (after_answer (states_of m.controllers d) r) }

heard_table_is : (m : Machine) (d : ℕ) (r : Reply) → d < count_of m.controllers
    → IsTable (heard_table m d r) (count_of m.controllers) (update (states_of m.controllers) d (after_answer (states_of m.controllers d) r)) (dead_of m.controllers)
heard_table_is m d r within = record {
  count_is = length-set m.controllers.list d (after_answer (states_of m.controllers d) r);
  states_are = states_set m.controllers d (after_answer (states_of m.controllers d) r) within;
  dead_are = refl;
}

pub loses_turns : (m : Machine) (n : Network) (k : ControllerTable) (d : ℕ) (a : Access) (to device own : ℕ) (packet response : Packet) (r : Reply)
    → IsTrue (is_living_in m d) → Awaits (states_of m.controllers d) → m.resets < MOST_RESETS → Sent m d a to device own packet response
    → n ≡ record m.devices { nodes = nodes_after m.devices.nodes device packet } → Some r ≡ reply_in response
    → IsTable k (count_of m.controllers) (update (states_of m.controllers) d (unheard (states_of m.controllers d))) (dead_of m.controllers)
    → TakesAction (Lose d) m (record m { devices = n; controllers = k; wire = without own m.wire; streams = looked_at device n.nodes m.streams; resets = m.resets + 1 }) m.cycle (Some (Async response))
loses_turns m n k d a to device own packet response r lives standing few sent registers heard table = record {
  shown = λ s g st.
      let living : IsTrue (is_living s d) = sym (living_same m s d g st) ∙ lives in
      let within : d < count_of m.controllers = linked_within m s d g st (living_linked s d living) in
      let x = takes_hears m n (heard_table m d r) d a to device own packet response r lives standing sent registers heard (heard_table_is m d r within) s g st in
      let request : IsTrue (has_request (s.controllers d).current) = stands_request (s.controllers d).current (stands_here m s d st standing) in
      let resets = st.clock.resets in
      let low : s.resets < MOST_RESETS = omega (arith, resets, few) in
      let said = x.0 in
      let out : at_most m.cycle (Some (Async response)) ≡ at_most s.clock.cycle (half s d).says = (λ i. at_most (st.clock.cycle i) (said i)) in
      let all = table_with m s (after_loss s d) k d (unheard (states_of m.controllers d)) (unheard (controller_at s d)) st (ap unheard (at_same m s d st)) (all_lose s d g living request) table in (
        after_loss s d,
        record { found = tt; waits = st.answered; may = record { request = record { lives = living; stands = request }; counts = low }; out_is = out; state_is = refl },
        unheard_stands (record m { devices = n; controllers = heard_table m d r; wire = without own m.wire; streams = looked_at device n.nodes m.streams }) (after_half s d) k (m.resets + 1)
            (s.resets + 1)
            (after_loss s d).lost (ap (λ n. n + 1) st.clock.resets) x.1 all,
      );
}

-- it has lost it then
pub unheard_there : (m : Machine) (k : ControllerTable) (d : ℕ) → d < count_of m.controllers
    → IsTable k (count_of m.controllers) (update (states_of m.controllers) d (unheard (states_of m.controllers d))) (dead_of m.controllers) → IsTrue (states_of k d).lost
unheard_there m k d within table = ap (λ (c : ℕ → Listening). (c d).lost) table.states_are
    ∙ ap (λ (x : Listening). x.lost) (update_new (states_of m.controllers) d (unheard (states_of m.controllers d)))

-- what the machine did once the request was carried out
pub served_loses : (m now : Machine) (k : ControllerTable) (d : ℕ) (bytes : List ℕ) (r : Reply) → IsTrue (is_living_in m d) → Awaits (states_of m.controllers d) → m.resets < MOST_RESETS
    → (s : Serves m now d bytes r) → IsTable k (count_of now.controllers) (update (states_of now.controllers) d (unheard (states_of now.controllers d))) (dead_of now.controllers)
    → TakesAction (Lose d) m (record now { controllers = k; resets = now.resets + 1 }) now.cycle (Some (Async s.response))
served_loses m now k d bytes r lives stands few s table =
    let P : Machine → Type 0 = λ v.
    IsTable k (count_of v.controllers) (update (states_of v.controllers) d (unheard (states_of v.controllers d))) (dead_of v.controllers)
    → TakesAction (Lose d) m (record v { controllers = k; resets = v.resets + 1 }) v.cycle (Some (Async s.response)) in
    subst P (sym s.after) (λ t. loses_turns m _ k d s.access s.to s.device s.own s.packet s.response r lives stands few s.sent refl (sym s.carries) t) table

pub served_unheard : (m now : Machine) (k : ControllerTable) (d : ℕ) (bytes : List ℕ) (r : Reply) → IsReady m → IsTrue (is_living_in m d) → Serves m now d bytes r
    → IsTable k (count_of now.controllers) (update (states_of now.controllers) d (unheard (states_of now.controllers d))) (dead_of now.controllers) → IsTrue (states_of k d).lost
served_unheard m now k d bytes r ready lives s table = unheard_there now k d (served_within m now d bytes r ready lives s) table

-- ---- and the event

pub tells_turns : (m : Machine) (d : ℕ) → IsTrue (states_of m.controllers d).lost → TakesAction (TellLoss d) m m m.cycle (Some (lost d))
tells_turns m d deaf = record {
  shown = λ s g st. (
    record s { account = entered s.account (lost d) },
    record { found = tt; waits = st.answered; may = sym (lost_same m s d st) ∙ deaf; out_is = ap (λ c. at_most c (Some (lost d))) st.clock.cycle; state_is = refl },
    st,
  );
}

-- one after the other is the order
pub loses_follows : (m : Machine) (d : ℕ) → Follows m (Performs (Lose d ∷ [])) (Performs (TellLoss d ∷ [])) (λ s. Carries s (Orders.Lose d))
loses_follows m d s mid t xs ys a b good st f p g q =
    let both = acts_follow {m = m} (Lose d ∷ []) (TellLoss d ∷ []) s mid t xs ys a b good st f p g q in
    subst (λ z. Carries s (Orders.Lose d) z (a ++ b) t) (sym both.0) (loses both.1)

-- the event can be told once the response is written
request_stage : (c : Current) → IsTrue (has_request c) → is_some (stage_of c) ≡ true
request_stage Nothing on = absurd (grind (arith, on))
request_stage (Asking j stage) on = absurd (grind (arith, on))
request_stage (Hearing j stage) on = refl
request_stage (Overtaken i o) on = absurd (grind (arith, on))

pub loses_goes : (m : Machine) (d : ℕ) → GoesOn m (Performs (Lose d ∷ [])) (λ s. Carries s (Orders.Lose d))
loses_goes m d s u xs a g st f p =
    let is : u ≡ after_loss s d = f.1.5.1 ∙ f.1.3.state_is in
    let kept : is_deaf (after_loss s d) d ≡ true = ap is_some (update_new s.lost d (stage_of (s.controllers d).current)) ∙ request_stage (s.controllers d).current f.1.3.may.request.stands in
    let deaf : IsTrue (is_deaf u d) = ap (λ (z : State). is_deaf z d) is ∙ kept in
    let quiet : u.transaction ≡ None = ap (λ (z : State). z.transaction) is ∙ st.answered in
    let told : State = record u { account = entered u.account (lost d) } in
    let step = one_step u told (TellLoss d) (at_most u.clock.cycle (Some (lost d))) (record { found = tt; waits = quiet; may = deaf; out_is = refl; state_is = refl }) in (
      TellLoss d ∷ [],
      at_most u.clock.cycle (Some (lost d)),
      told,
      loses_follows m d s u told xs (TellLoss d ∷ []) a (at_most u.clock.cycle (Some (lost d))) g st f p (refl, step) step,
      step,
    )
