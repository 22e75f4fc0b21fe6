-- Each clause is a lemma.
use Rattle.fw_model_run.proofs.Counting.{counts_step, resets_keep, deaths_keep}
use Rattle.fw_model_run.proofs.streams.counts_follow_who_talks.Goals as goal

pub returns-clause-actions : goal.returns-clause-actions
returns-clause-actions c = counts_step

pub returns-clause-resets : goal.returns-clause-resets
returns-clause-resets c = resets_keep

pub returns-clause-deaths : goal.returns-clause-deaths
returns-clause-deaths c = deaths_keep
