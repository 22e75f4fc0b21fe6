-- Half steps of the machine and of the run.
use Rattle.fw_bus_engine.proofs.Common.{◌≡◌, ℕ, ◌+◌, ◌<◌, Option, None, refl, ap, sym, subst, ◌∙◌, arith, IsTrue, IsFalse, Entry, MOST_HALF_STEPS, at_most, State, is_living, is_deaf, half, after_half}
use Rattle.fw_bus_engine.proofs.Common.{HalfStep, counted, Machine, TakesHalf, TakesAction, StandsFor, is_living_in, living_same, states_of, quiet_here, IsAtRest}
use Rattle.fw_model_run.specs.HalfSteps.{HalfStep as Half, is_waiting}
use Rattle.fw_model_run.specs.ControllerDeeds.{MayStep, stepping_as}
use Rattle.fw_model_run.proofs.Done.{Done}
use Rattle.fw_bus_state.proofs.Idles.{rest_busy, rest_quiet}
use Rattle.fw_model_run.proofs.Idle.{half_idle, half_stays}
use Rattle.fw_bus_state.proofs.Standing.{counted_stands}

-- what one that has lost no response does
listens_takes : (s : State) (d : ℕ) (e : Option Entry) (cycle : ℕ) → IsFalse (is_deaf s d) → cycle ≡ s.clock.cycle → e ≡ (half s d).says
    → MayStep s d → Done (stepping_as (is_deaf s d) (is_waiting s d) s d) (at_most cycle e) (counted (after_half s d) 1)
listens_takes s d e cycle quiet time says may =
    subst (λ b. Done (stepping_as b (is_waiting s d) s d) (at_most cycle e) (counted (after_half s d) 1)) (sym quiet)
    (record { found = tt; may = may; out_is = λ i. at_most (time i) (says i); state_is = refl })

-- a half step is counted
pub step_turns : (m now : Machine) (d : ℕ) (e : Option Entry) → IsTrue (is_living_in m d) → m.half_steps < MOST_HALF_STEPS → now.cycle ≡ m.cycle → IsFalse (states_of m.controllers d).lost
    → TakesHalf half m now d e
    → TakesAction (HalfStep d) m (record now { half_steps = now.half_steps + 1 }) now.cycle e
step_turns m now d e lives few time quiet takes = record {
  shown = λ s g st.
      let x = takes s g st in
      let living : IsTrue (is_living s d) = sym (living_same m s d g st) ∙ lives in
      let count = st.clock.half_steps in
      let low : s.half_steps < MOST_HALF_STEPS = omega (arith, few, count) in
      let z = listens_takes s d e now.cycle (quiet_here m s d st quiet) (time ∙ st.clock.cycle) x.0 (record { lives = living; few = low }) in (
        counted (after_half s d) 1,
        record { found = z.found; waits = st.answered; may = z.may; out_is = z.out_is; state_is = z.state_is },
        counted_stands now (after_half s d) 1 x.1,
      );
}

-- the half step of one that has nothing to do changes nothing, and writes nothing
pub takes_idle : (m : Machine) (d : ℕ) → IsAtRest (states_of m.controllers d).state → TakesHalf half m m d None
takes_idle m d rests = λ s g st.
    let idle = rest_busy m s d g st rests in
    (ap (λ (h : Half). h.says) (sym (half_idle s d g idle)), subst (λ (t : State). StandsFor m t) (sym (half_stays s d g idle)) st)

-- the half step of one that has nothing to do
pub idle_turns : (m : Machine) (d : ℕ) → IsTrue (is_living_in m d) → m.half_steps < MOST_HALF_STEPS → IsAtRest (states_of m.controllers d).state
    → TakesAction (HalfStep d) m (record m { half_steps = m.half_steps + 1 }) m.cycle None
idle_turns m d lives few rests = record {
  shown = λ s g st. (step_turns m m d None lives few refl (rest_quiet m s d g st rests) (takes_idle m d rests)).shown s g st;
}
