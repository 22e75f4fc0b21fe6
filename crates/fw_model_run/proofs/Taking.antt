-- What a half step is: of a controller that hears, of one that has lost a response and waits, or of one that forces a bus reset.
use Rattle.fw_model_run.proofs.Common.{◌≡◌, ℕ, ◌+◌, List, [], Bool, true, false, refl, IsTrue, IsFalse, Timed, HalfStep, Resets, Transition, counted, at_most, half, after_half, State, is_deaf}
use Rattle.fw_model_run.specs.ControllerDeeds.{MayStep, stepping, stepping_as}
use Rattle.fw_model_run.specs.Found.{Found, FoundInHalf}
use Rattle.fw_model_run.specs.HalfSteps.{is_waiting}
use Rattle.fw_model_run.proofs.Done.{Done, done}
use Rattle.fw_model_run.proofs.Resets.{resets_by}

pub data Taken (s : State) (d : ℕ) (out : List Timed) (t : State) : Type 0 where
  listens : IsFalse (is_deaf s d) → out ≡ at_most s.clock.cycle (half s d).says → t ≡ counted (after_half s d) 1 → Taken s d out t
  keeps_deaf : IsTrue (is_deaf s d) → out ≡ [] → t ≡ counted s 1 → Taken s d out t
  forces_reset : IsTrue (is_deaf s d) → Resets (counted s 1) d out t → Taken s d out t

pub taken_as : (s : State) (d : ℕ) (out : List Timed) (t : State) → Transition s (HalfStep d) out t → Taken s d out t
taken_as s d out t x = go (is_deaf s d) (is_waiting s d) refl (done s (HalfStep d) out t x)
  where
    go : (b w : Bool) → is_deaf s d ≡ b → Done (stepping_as b w s d) out t → Taken s d out t
    go false w e x = listens e x.out_is x.state_is
    go true true e x = keeps_deaf e x.out_is x.state_is
    go true false e x = forces_reset e (resets_by s.resets (s.half_steps + 1) x.may.reset x.out_is x.state_is)

-- in each case it may be taken
pub may_step : (s : State) (d : ℕ) (found : Found s (HalfStep d)) → (stepping s d found).may → MayStep s d
may_step s d = go (is_deaf s d) (is_waiting s d)
  where
    go : (b w : Bool) → (found : FoundInHalf b w) → (stepping_as b w s d found).may → MayStep s d
    go false w found may = may
    go true true found may = may
    go true false found may = may.step
