use Rattle.fw_watch_runs.proofs.RunsLabelled.{run_orderly, whole_orderly}
use Rattle.fw_watch_runs.proofs.laws.run_logs_are_orderly.Goals as goal

pub returns-clause-open : goal.returns-clause-open
returns-clause-open c = run_orderly

pub returns-clause-whole : goal.returns-clause-whole
returns-clause-whole c = whole_orderly
