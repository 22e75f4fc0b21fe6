-- The clause is a lemma.
use Rattle.fw_model_controllers.proofs.Together.{goes_on}
use Rattle.fw_model_controllers.proofs.controllers_can_go_on.Goals as goal

pub returns : goal.returns
returns c = goes_on
