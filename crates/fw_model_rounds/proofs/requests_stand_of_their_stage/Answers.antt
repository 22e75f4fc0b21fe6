-- Each clause is a lemma.
use Rattle.fw_model_rounds.proofs.Stands.{next_stands, reset_stands}
use Rattle.fw_model_rounds.proofs.requests_stand_of_their_stage.Goals as goal

pub returns-clause-next : goal.returns-clause-next
returns-clause-next c = next_stands

pub returns-clause-reset : goal.returns-clause-reset
returns-clause-reset c = reset_stands
