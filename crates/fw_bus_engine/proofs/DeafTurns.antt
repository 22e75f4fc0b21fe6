-- Half steps of a controller that has lost a response: it waits, or forces a bus reset.
use Rattle.fw_bus_engine.proofs.Common.{◌≡◌, ◌≢◌, ℕ, ◌+◌, ◌<◌, ◌&&◌, Bool, true, false, cond, List, [], Option, None}
use Rattle.fw_bus_engine.proofs.Common.{Some, refl, ap, sym, ◌∙◌, arith, IsTrue, update, Entry, Reset, Timed, Directory}
use Rattle.fw_bus_engine.proofs.Common.{Listening, turn_of, after_turn, after_next, is_node, kind_at, kinds_of, has_link}
use Rattle.fw_bus_engine.proofs.Common.{MOST_HALF_STEPS, MOST_RESETS, at_most, State, is_deaf, is_living, HalfStep, Transition}
use Rattle.fw_bus_engine.proofs.Common.{Resets, counted, IsGood, Machine, TakesAction, BeginsReset, IsReady, StandsFor}
use Rattle.fw_bus_engine.proofs.Common.{is_living_in, ControllerTable, IsTable, count_of, states_of, dead_of, living_same}
use Rattle.fw_cmp.specs.declared.outcome.Next.TheVariants.{Deaf, Force}
use Rattle.fw_cmp.specs.Losses.{deaf_turn, deaf_until, asked_by, split_timeout}
use Rattle.fw_cmp.specs.Turns.{next}
use Rattle.fw_model_run.specs.HalfSteps.{is_waiting}
use Rattle.fw_model_run.specs.ControllerDeeds.{stepping_as}
use Rattle.fw_model_run.proofs.Done.{Done}
use Rattle.fw_model_run.proofs.Others.{same_table}
use Rattle.fw_bus_engine.proofs.Began.{MayBegin}
use Rattle.fw_bus_engine.proofs.Halves.{half_leaves, steps_deaf}
use Rattle.fw_bus_state.proofs.Heard.{at_same, lost_same}
use Rattle.fw_bus_state.proofs.Living.{living_in_linked}
use Rattle.fw_bus_engine.proofs.ResetTurns.{reset_of, some_nodes}
use Rattle.fw_bus_state.proofs.Standing.{counted_stands}

-- ---- the table stays

after_deaf : (now : ℕ) (d : Directory) (x : Listening) → IsTrue x.lost → after_turn now d x ≡ x
after_deaf now d x lost = ap (λ b. cond b x (record x { state = after_next now d x.state; asked_at = asked_by now x.asked_at (next now d x.state) })) lost

pub deaf_table : (m : Machine) (k : ControllerTable) (d : ℕ) → IsTrue (states_of m.controllers d).lost
    → IsTable k (count_of m.controllers) (update (states_of m.controllers) d (after_turn m.cycle m.directory (states_of m.controllers d))) (dead_of m.controllers)
    → IsTable k (count_of m.controllers) (states_of m.controllers) (dead_of m.controllers)
deaf_table m k d lost h = record {
  count_is = h.count_is;
  states_are = h.states_are ∙ same_table (states_of m.controllers) d _ (sym (after_deaf m.cycle m.directory (states_of m.controllers d) lost));
  dead_are = h.dead_are;
}

-- the machine with a table that says the same
pub same_controllers : (m : Machine) (s : State) (k : ControllerTable) → StandsFor m s
    → IsTable k (count_of m.controllers) (states_of m.controllers) (dead_of m.controllers) → StandsFor (record m { controllers = k }) s
same_controllers m s k st h = record {
  devices = st.devices;
  clock = st.clock;
  table = record {
    count_is = h.count_is ∙ st.table.count_is;
    states_are = h.states_are ∙ st.table.states_are;
    dead_are = h.dead_are ∙ st.table.dead_are;
  };
  directory = st.directory;
  wire = st.wire;
  streams = st.streams;
  answered = st.answered;
  unsent = st.unsent;
  election = st.election;
  bids = st.bids;
  reel = st.reel;
  around = st.around;
}

-- ---- what it says

deaf_here : (m : Machine) (s : State) (d : ℕ) → StandsFor m s → IsTrue (states_of m.controllers d).lost → IsTrue (is_deaf s d)
deaf_here m s d st lost = sym (lost_same m s d st) ∙ lost

says_here : (m : Machine) (s : State) (d : ℕ) → StandsFor m s → IsTrue (states_of m.controllers d).lost
    → turn_of m.cycle m.directory (states_of m.controllers d) ≡ deaf_turn s.clock.cycle (s.asked_at d + split_timeout)
says_here m s d st lost =
    let x : Listening = states_of m.controllers d in
    let cycle = st.clock.cycle in
    let same = at_same m s d st in
    ap (λ b. cond b (deaf_turn m.cycle (deaf_until x)) (next m.cycle m.directory x.state)) lost ∙ (λ i. deaf_turn (cycle i) (deaf_until (same i)))

waits_or_forces : (s : State) (d : ℕ) (b : Bool) → is_waiting s d ≡ b → deaf_turn s.clock.cycle (s.asked_at d + split_timeout) ≡ cond b (Deaf (s.asked_at d + split_timeout)) Force
waits_or_forces s d b e = ap (λ x. cond x (Deaf (s.asked_at d + split_timeout)) Force) e

is_over : (m : Machine) (s : State) (d : ℕ) → StandsFor m s → IsTrue (states_of m.controllers d).lost
    → turn_of m.cycle m.directory (states_of m.controllers d) ≡ Force → is_waiting s d ≡ false
is_over m s d st lost force = go (is_waiting s d) refl
  where
    go : (b : Bool) → is_waiting s d ≡ b → b ≡ false
    go false e = refl
    go true e = let wrong : Deaf (s.asked_at d + split_timeout) ≡ Force = sym (says_here m s d st lost ∙ waits_or_forces s d true e) ∙ force in let no : ⊥ = cc in absurd no

is_early : (m : Machine) (s : State) (d : ℕ) → StandsFor m s → IsTrue (states_of m.controllers d).lost
    → turn_of m.cycle m.directory (states_of m.controllers d) ≢ Force → is_waiting s d ≡ true
is_early m s d st lost quiet = go (is_waiting s d) refl
  where
    go : (b : Bool) → is_waiting s d ≡ b → b ≡ true
    go true e = refl
    go false e = absurd (quiet (says_here m s d st lost ∙ waits_or_forces s d false e))

-- ---- it waits

pub deaf_waits : (m : Machine) (k : ControllerTable) (d : ℕ) → IsTrue (is_living_in m d) → IsTrue (states_of m.controllers d).lost → m.half_steps < MOST_HALF_STEPS
    → turn_of m.cycle m.directory (states_of m.controllers d) ≢ Force
    → IsTable k (count_of m.controllers) (update (states_of m.controllers) d (after_turn m.cycle m.directory (states_of m.controllers d))) (dead_of m.controllers)
    → TakesAction (HalfStep d) m (record m { controllers = k; half_steps = m.half_steps + 1 }) m.cycle None
deaf_waits m k d lives lost few quiet table = record {
  shown = λ s g st.
      let living : IsTrue (is_living s d) = sym (living_same m s d g st) ∙ lives in
      let count = st.clock.half_steps in
      let low : s.half_steps < MOST_HALF_STEPS = omega (arith, few, count) in
      let waits : Done (stepping_as true true s d) [] (counted s 1) = record { found = tt; may = record { lives = living; few = low }; out_is = refl; state_is = refl } in (
        counted s 1,
        steps_deaf s d true [] (counted s 1) (deaf_here m s d st lost) (is_early m s d st lost quiet) st.answered waits,
        counted_stands (record m { controllers = k }) s 1 (same_controllers m s k st (deaf_table m k d lost table)),
      );
}

-- ---- it forces a bus reset

-- fewer bus resets came than may
pub forced_few : (m : Machine) (s : State) (d : ℕ) → IsGood s → StandsFor m s → IsTrue (states_of m.controllers d).lost → m.devices.epoch < MOST_RESETS
forced_few m s d g st lost =
    let counted = g.losses.counted d (deaf_here m s d st lost) in
    let few = g.losses.few in
    let epoch = st.devices.epoch in
    omega (arith, counted, few, epoch)

pub living_node : (m : Machine) (d : ℕ) → IsTrue (is_living_in m d) → IsTrue (is_node m.devices.nodes d)
living_node m d lives = first (is_node m.devices.nodes d) (has_link (kind_at (kinds_of m.devices.nodes) d)) (living_in_linked m d lives)
  where
    first : (a b : Bool) → IsTrue (a && b) → IsTrue a
    first true b e = refl
    first false b e = e

-- what the bus reset of the machine is in the run
pub deaf_forces : (m now : Machine) (k : ControllerTable) (d : ℕ) → IsTrue (is_living_in m d) → IsTrue (states_of m.controllers d).lost → m.half_steps < MOST_HALF_STEPS
    → turn_of m.cycle m.directory (states_of m.controllers d) ≡ Force
    → IsTable k (count_of m.controllers) (update (states_of m.controllers) d (after_turn m.cycle m.directory (states_of m.controllers d))) (dead_of m.controllers)
    → BeginsReset (record m { controllers = k; half_steps = m.half_steps + 1 }) now d
    → TakesAction (HalfStep d) m now m.cycle (Some (Reset now.devices.latest))
deaf_forces m now k d lives lost few force table b = record { shown = shown_ }
  where
    new : Machine
    new = record m { controllers = k; half_steps = m.half_steps + 1 }

    shown_ : (s : State) → IsGood s → StandsFor m s → (t : State) × Transition s (HalfStep d) (at_most m.cycle (Some (Reset now.devices.latest))) t × StandsFor now t
    shown_ s g st =
        let living : IsTrue (is_living s d) = sym (living_same m s d g st) ∙ lives in
        let count = st.clock.half_steps in
        let low : s.half_steps < MOST_HALF_STEPS = omega (arith, few, count) in
        let begins : (out : List Timed) (t : State) → Resets (counted s 1) d out t → Transition s (HalfStep d) out t
        = λ out t r. steps_deaf s d false out t (deaf_here m s d st lost) (is_over m s d st lost force) st.answered (record {
          found = r.entry;
          may = record { step = record { lives = living; few = low }; reset = record { is_entry = r.is_entry; few = r.few } };
          out_is = r.out_is;
          state_is = r.state_is;
        }) in
        let may : MayBegin new s (counted s 1) d = record {
          is_good = g;
          around = st.around;
          dub = refl;
          action = HalfStep d;
          begins = begins;
          extends = record { account = refl; cycle = refl; decks = refl; streams = refl; kinds = λ d lt. refl };
          stands = counted_stands (record m { controllers = k }) s 1 (same_controllers m s k st (deaf_table m k d lost table));
          declared = g.declared;
          some = some_nodes m s d g st (living_node m d lives);
          more = omega arith;
          walks = λ c on. on;
        } in
        let r = reset_of new now s (counted s 1) d may b (forced_few m s d g st lost) in
        (r.state, begins (at_most m.cycle (Some (Reset now.devices.latest))) r.state r.resets, r.stands)

-- ---- who lives

-- after any half step the same controllers live
pub living_half : (m now : Machine) (d : ℕ) (e : Option Entry) → IsReady m → TakesAction (HalfStep d) m now m.cycle e → (k : ℕ) → is_living_in now k ≡ is_living_in m k
living_half m now d e r turns k =
    let s = r.state in
    let x = turns.shown s r.good r.stands in
    let after = half_leaves s d (at_most m.cycle e) x.0 r.good x.1 in
    living_same now x.0 k after.good x.2 ∙ (after.lives k ∙ sym (living_same m s k r.good r.stands))
