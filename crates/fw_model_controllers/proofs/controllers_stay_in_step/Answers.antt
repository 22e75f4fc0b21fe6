-- Each clause is a lemma.
use Rattle.fw_model_controllers.proofs.Nexts.{turn_in_step}
use Rattle.fw_model_controllers.proofs.Together.{first_step, holds_all, restoring, stay_in_step}
use Rattle.fw_model_controllers.proofs.controllers_stay_in_step.Goals as goal

pub returns-clause-first : goal.returns-clause-first
returns-clause-first c = first_step

pub returns-clause-holding : goal.returns-clause-holding
returns-clause-holding c = holds_all

pub returns-clause-turn : goal.returns-clause-turn
returns-clause-turn c = turn_in_step

pub returns-clause-together : goal.returns-clause-together
returns-clause-together c = stay_in_step

pub returns-clause-restoring : goal.returns-clause-restoring
returns-clause-restoring c = restoring
