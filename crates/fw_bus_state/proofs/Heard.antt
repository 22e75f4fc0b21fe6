-- A controller that has lost no response is by the machine as the run has it.
use Rattle.fw_bus_state.proofs.Common.{◌≡◌, inl, inr, ℕ, Bool, true, false, refl, ap, sym, subst, ◌∙◌, arith, IsTrue, IsFalse, ControllerState, Listening, next, Current, Nothing, Asking, Hearing}
use Rattle.fw_bus_state.proofs.Common.{Overtaken, State, directory_of, Machine, StandsFor, IsGood, states_of}
use Rattle.fw_cmp.specs.Controllers.{IsHeard, IsStanding}
use Rattle.fw_cmp.specs.Losses.{MayTurn, Awaits, turn_of}
use Rattle.fw_model_run.specs.HalfSteps.{has_request}
use Rattle.fw_model_run.specs.State.{is_deaf}
use Rattle.fw_model_run.specs.Truth.{controller_at}
use Rattle.fw_model_run.proofs.Truth.{quiet_at}
use Rattle.fw_cmp.specs.Holdings.{CanGoOn}
use Rattle.fw_cmp_jobs.specs.declared.directory.Directory.{Directory}
use Rattle.fw_model_run.specs.Good.{Asks}
use Rattle.fw_bus_state.specs.Tables.{Listens}

pub at_same : (m : Machine) (s : State) (d : ℕ) → StandsFor m s → states_of m.controllers d ≡ controller_at s d
at_same m s d st = ap (λ (c : ℕ → Listening). c d) st.table.states_are

pub lost_same : (m : Machine) (s : State) (d : ℕ) → StandsFor m s → (states_of m.controllers d).lost ≡ is_deaf s d
lost_same m s d st = ap (λ (x : Listening). x.lost) (at_same m s d st)

pub quiet_here : (m : Machine) (s : State) (d : ℕ) → StandsFor m s → IsFalse (states_of m.controllers d).lost → IsFalse (is_deaf s d)
quiet_here m s d st quiet = sym (lost_same m s d st) ∙ quiet

pub whole_same : (m : Machine) (s : State) (d : ℕ) → StandsFor m s → IsFalse (states_of m.controllers d).lost
    → states_of m.controllers d ≡ record { state = s.controllers d; asked_at = s.asked_at d; lost = false }
whole_same m s d st quiet = at_same m s d st ∙ quiet_at s d (quiet_here m s d st quiet)

pub state_same : (m : Machine) (s : State) (d : ℕ) → StandsFor m s → IsFalse (states_of m.controllers d).lost → (states_of m.controllers d).state ≡ s.controllers d
state_same m s d st quiet = ap (λ (x : Listening). x.state) (whole_same m s d st quiet)

-- no request of it is outstanding
pub heard_here : (m : Machine) (s : State) (d : ℕ) → StandsFor m s → Listens (states_of m.controllers d) → IsHeard (s.controllers d).current
heard_here m s d st h = subst (λ (c : ControllerState). IsHeard c.current) (state_same m s d st h.0) h.1

-- one does
pub stands_here : (m : Machine) (s : State) (d : ℕ) → StandsFor m s → Awaits (states_of m.controllers d) → IsStanding (s.controllers d).current
stands_here m s d st h = subst (λ (c : ControllerState). IsStanding c.current) (state_same m s d st h.0) h.1

-- what it does next is the same
pub next_same : (m : Machine) (s : State) (d : ℕ) → StandsFor m s → IsFalse (states_of m.controllers d).lost
    → turn_of m.cycle m.directory (states_of m.controllers d) ≡ next s.clock.cycle (directory_of s) (s.controllers d)
next_same m s d st quiet = λ i. turn_of (st.clock.cycle i) (st.directory i) (whole_same m s d st quiet i)

-- its request goes to a device of the bus
pub reached_here : (m : Machine) (s : State) (d : ℕ) → IsGood s → StandsFor m s → IsFalse (states_of m.controllers d).lost → CanGoOn m.directory (states_of m.controllers d).state
reached_here m s d g st quiet =
    subst (λ (dir : Directory). CanGoOn dir (states_of m.controllers d).state) (sym st.directory)
    (subst (CanGoOn (directory_of s)) (sym (state_same m s d st quiet)) (g.reclaims.step.goes_on d))

-- of one that may turn, by whether it has lost a response
pub listens_of : (x : Listening) → MayTurn x → IsFalse x.lost → Listens x
listens_of x (inl lost) quiet = absurd (grind (arith, lost, quiet))
listens_of x (inr heard) quiet = (quiet, heard)

-- ---- the outstanding request

pub stands_request : (x : Current) → IsStanding x → IsTrue (has_request x)
stands_request Nothing h = absurd h
stands_request (Asking j stage) h = absurd h
stands_request (Hearing j stage) h = refl
stands_request (Overtaken i o) h = absurd h

pub heard_request : (x : Current) → IsHeard x → IsFalse (has_request x)
heard_request Nothing h = refl
heard_request (Asking j stage) h = refl
heard_request (Hearing j stage) h = absurd h
heard_request (Overtaken i o) h = refl

-- none stands of one that may turn
pub may_rest : (m : Machine) (s : State) (d : ℕ) → IsGood s → StandsFor m s → MayTurn (states_of m.controllers d) → IsFalse (has_request (s.controllers d).current)
may_rest m s d g st may = go (states_of m.controllers d).lost refl
  where
    asking : (c : Current) → Asks c → IsFalse (has_request c)
    asking Nothing h = refl
    asking (Asking j stage) h = refl
    asking (Hearing j stage) h = absurd h
    asking (Overtaken i o) h = refl

    go : (b : Bool) → (states_of m.controllers d).lost ≡ b → IsFalse (has_request (s.controllers d).current)
    go true e = asking (s.controllers d).current (g.losses.asks d (sym (lost_same m s d st) ∙ e))
    go false e = heard_request (s.controllers d).current (heard_here m s d st (listens_of (states_of m.controllers d) may e))
