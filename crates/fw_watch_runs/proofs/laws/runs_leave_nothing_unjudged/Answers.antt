use Rattle.fw_watch_runs.proofs.Judged.{none_left}
use Rattle.fw_watch_runs.proofs.RunsLabelled.{run_orderly, whole_orderly}
use Rattle.fw_watch_runs.proofs.laws.runs_leave_nothing_unjudged.Goals as goal

pub returns-clause-open : goal.returns-clause-open
returns-clause-open c = λ commands actions log s r n. none_left log (run_orderly commands actions log s r n)

pub returns-clause-whole : goal.returns-clause-whole
returns-clause-whole c = λ commands actions log s r n. none_left log (whole_orderly commands actions log s r n)
