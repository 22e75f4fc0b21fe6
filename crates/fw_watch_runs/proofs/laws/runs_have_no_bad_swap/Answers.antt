use Rattle.fw_watch_runs.proofs.RunsLabelled.{run_swaps, whole_swaps}
use Rattle.fw_watch_runs.proofs.laws.runs_have_no_bad_swap.Goals as goal

pub returns-clause-open : goal.returns-clause-open
returns-clause-open c = run_swaps

pub returns-clause-whole : goal.returns-clause-whole
returns-clause-whole c = whole_swaps
