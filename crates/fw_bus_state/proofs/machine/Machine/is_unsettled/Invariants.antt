use Rattle.fw_bus_state.proofs.Common.{◌≡◌, ◌<◌, ◌&&◌, ℕ, false, State, IsGood, is_busy_at, StandsFor}
use Rattle.fw_model_run.specs.State.{is_living}
use Rattle.fw_bus_state.proofs.machine.Machine.is_unsettled.Given as goal

-- none of the controllers so far has something to do
abbrev pub invariant-loop-device : goal.invariant-loop-device
invariant-loop-device l = (s : State) → IsGood s → StandsFor l.self s → (d : ℕ) → d < l.device → (is_living s d && is_busy_at s d) ≡ false
