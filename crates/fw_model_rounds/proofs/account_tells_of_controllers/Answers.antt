-- Each clause is a lemma.
use Rattle.fw_model_rounds.proofs.Carried.{answer_is_half_step, next_is_half_step}
use Rattle.fw_model_rounds.proofs.Knows.{account_says}
use Rattle.fw_model_rounds.proofs.account_tells_of_controllers.Goals as goal

pub returns-clause-holders : goal.returns-clause-holders
returns-clause-holders c = account_says

pub returns-clause-answers : goal.returns-clause-answers
returns-clause-answers c = answer_is_half_step

pub returns-clause-next : goal.returns-clause-next
returns-clause-next c = next_is_half_step
