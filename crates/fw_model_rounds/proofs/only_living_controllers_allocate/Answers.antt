-- Each clause is a lemma.
use Rattle.fw_model_rounds.proofs.Living.{living_after_reset, living_after}
use Rattle.fw_model_rounds.proofs.only_living_controllers_allocate.Goals as goal

pub returns-clause-reset : goal.returns-clause-reset
returns-clause-reset c = living_after_reset

pub returns-clause-moves : goal.returns-clause-moves
returns-clause-moves c = living_after
