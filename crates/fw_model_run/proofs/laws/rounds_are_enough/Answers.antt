-- Each clause is a lemma.
use Rattle.fw_model_run.proofs.EnoughRounds.{enough}
use Rattle.fw_model_run.proofs.Suffice.{rounds_suffice}
use Rattle.fw_model_run.proofs.laws.rounds_are_enough.Goals as goal

pub returns-clause-laws : goal.returns-clause-laws
returns-clause-laws c = enough

pub returns-clause-runs : goal.returns-clause-runs
returns-clause-runs c = rounds_suffice
