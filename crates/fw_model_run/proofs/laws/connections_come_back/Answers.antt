-- Each clause is a lemma.
use Rattle.fw_model_run.proofs.Reclaiming.{run_reclaims, restores_in_second}
use Rattle.fw_model_run.proofs.Seconds.{ends_are_seconds}
use Rattle.fw_model_run.proofs.ComesBack.{comes_back}
use Rattle.fw_model_run.proofs.laws.connections_come_back.Goals as goal

pub returns-clause-seconds : goal.returns-clause-seconds
returns-clause-seconds c = run_reclaims

pub returns-clause-outcomes : goal.returns-clause-outcomes
returns-clause-outcomes c = restores_in_second

pub returns-clause-ends : goal.returns-clause-ends
returns-clause-ends c = ends_are_seconds

pub returns-clause-runs : goal.returns-clause-runs
returns-clause-runs c = comes_back
