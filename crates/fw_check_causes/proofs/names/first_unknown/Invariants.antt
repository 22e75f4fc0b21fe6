use Rattle.std.proofs.Common.{◌≡◌, ◌+◌, drop}
use Rattle.fw_bus_state.specs.Stands.{StandsFor}
use Rattle.fw_model_run.specs.Good.{IsGood}
use Rattle.fw_model_run.specs.State.{State}
use Rattle.fw_check_causes.specs.Causes.{first_unknown}
use Rattle.fw_check_causes.proofs.names.first_unknown.Given as goal

abbrev pub invariant-loop-name : goal.invariant-loop-name
invariant-loop-name l = record {
  number : l.number ≡ l.name-index + 2;
  rest : (s : State) → IsGood s → StandsFor l.machine s → first_unknown s 2 l.names ≡ first_unknown s l.number (drop l.name-index l.names);
}
