-- A half step of a controller that has nothing to do.
use Rattle.fw_bus_state.proofs.Common.{◌≡◌, ℕ, ◌||◌, Bool, true, false, Option, None, Some, refl, ap, sym}
use Rattle.fw_bus_state.proofs.Common.{subst, ◌∙◌, IsTrue, IsFalse, Current, IsAtRest, Nothing, Asking, Hearing, Overtaken, Listening}
use Rattle.fw_bus_state.proofs.Common.{next, State, directory_of, IsGood, is_busy_at, Machine, StandsFor, states_of}
use Rattle.fw_cmp_jobs.specs.declared.stage.Stage.{Stage}
use Rattle.fw_cmp.specs.Losses.{MayTurn, Awaits, turn_of}
use Rattle.fw_cmp.specs.Turns.{is_busy}
use Rattle.fw_cmp.proofs.Resting.{rest_idles}
use Rattle.fw_model_run.specs.State.{is_deaf}
use Rattle.fw_model_run.specs.Good.{Asks}
use Rattle.fw_model_run.specs.Truth.{standing}
use Rattle.fw_model_run.specs.HalfSteps.{has_request}
use Rattle.fw_bus_state.proofs.Living.{busy_same}
use Rattle.fw_bus_state.proofs.Heard.{at_same, lost_same, state_same}

-- such a controller is not busy
pub not_busy : (s : State) (d : ℕ) → IsAtRest (s.controllers d) → is_busy_at s d ≡ false
not_busy s d rests =
    let turn : is_busy (next s.clock.cycle (directory_of s) (s.controllers d)) ≡ false = ap is_busy (rest_idles s.clock.cycle (directory_of s) (s.controllers d) rests) in
    ap (λ (x : Current). has_request x || is_busy (next s.clock.cycle (directory_of s) (s.controllers d))) rests.no_job.current ∙ turn

-- one that has nothing to do has lost no response
pub rest_quiet : (m : Machine) (s : State) (d : ℕ) → IsGood s → StandsFor m s → IsAtRest (states_of m.controllers d).state → IsFalse (states_of m.controllers d).lost
rest_quiet m s d g st rests = go (is_deaf s d) refl
  where
    clash : (o : Option Stage) (c : Current) → Asks c → standing c o ≡ Nothing → ⊥
    clash o Nothing asks e = asks
    clash None (Asking j stage) asks e = let no : ⊥ = cc in no
    clash (Some stage) (Asking j after) asks e = let no : ⊥ = cc in no
    clash o (Hearing j stage) asks e = asks
    clash o (Overtaken k x) asks e = asks

    go : (b : Bool) → is_deaf s d ≡ b → (states_of m.controllers d).lost ≡ false
    go false e = lost_same m s d st ∙ e
    go true e = absurd (clash (s.lost d) (s.controllers d).current (g.losses.asks d e) (sym (ap (λ (x : Listening). x.state.current) (at_same m s d st)) ∙ rests.no_job.current))

pub rest_busy : (m : Machine) (s : State) (d : ℕ) → IsGood s → StandsFor m s → IsAtRest (states_of m.controllers d).state → is_busy_at s d ≡ false
rest_busy m s d g st rests = not_busy s d (subst IsAtRest (state_same m s d st (rest_quiet m s d g st rests)) rests)

-- what is said of the controller that was found
pub says_busy : (m : Machine) (s : State) (d : ℕ) (x : Listening) (r : Bool) → IsGood s → StandsFor m s → x ≡ states_of m.controllers d
    → (MayTurn x → r ≡ is_busy (turn_of m.cycle m.directory x)) → (Awaits x → IsTrue r) → r ≡ is_busy_at s d
says_busy m s d x r g st is turns awaits =
    let Turns : Listening → Type 0 = λ y. MayTurn y → r ≡ is_busy (turn_of m.cycle m.directory y) in
    let Waits : Listening → Type 0 = λ y. Awaits y → IsTrue r in
    busy_same m s d r g st (subst Turns is turns) (subst Waits is awaits)
