-- Each clause is a lemma.
use Rattle.fw_model_run.proofs.Lingers.{step_lingers, half_lingers, talks_by_word, off_talks}
use Rattle.fw_model_run.proofs.lingering.plugs_linger_through_runs.Goals as goal

pub returns-clause-actions : goal.returns-clause-actions
returns-clause-actions c = step_lingers

pub returns-clause-half_steps : goal.returns-clause-half_steps
returns-clause-half_steps c = half_lingers

pub returns-clause-talks : goal.returns-clause-talks
returns-clause-talks c = talks_by_word

pub returns-clause-off : goal.returns-clause-off
returns-clause-off c = off_talks
