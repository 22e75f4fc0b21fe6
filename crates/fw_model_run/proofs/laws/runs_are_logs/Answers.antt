use Rattle.fw_model_run.proofs.Logs.{run_opens, run_spells, cut_opens, opens_prefix}
use Rattle.fw_model_run.proofs.laws.runs_are_logs.Goals as goal

pub returns-clause-opens : goal.returns-clause-opens
returns-clause-opens c = run_opens

pub returns-clause-whole : goal.returns-clause-whole
returns-clause-whole c = run_spells

pub returns-clause-cut : goal.returns-clause-cut
returns-clause-cut c = cut_opens

pub returns-clause-fronts : goal.returns-clause-fronts
returns-clause-fronts c = opens_prefix
