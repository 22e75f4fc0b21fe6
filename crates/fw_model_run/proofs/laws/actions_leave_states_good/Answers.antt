-- Each clause is a lemma.
use Rattle.fw_model_run.proofs.Times.{first_good}
use Rattle.fw_model_run.proofs.Steps.{step_good}
use Rattle.fw_model_run.proofs.laws.actions_leave_states_good.Goals as goal

pub returns-clause-first : goal.returns-clause-first
returns-clause-first c = first_good

pub returns-clause-actions : goal.returns-clause-actions
returns-clause-actions c = step_good
