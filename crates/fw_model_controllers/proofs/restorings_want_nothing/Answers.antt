-- Each clause is a lemma.
use Rattle.fw_model_controllers.proofs.Finds.{never_wants}
use Rattle.fw_model_controllers.proofs.Contents.{own_outcome}
use Rattle.fw_model_controllers.proofs.Contented.{stay_content}
use Rattle.fw_model_controllers.proofs.restorings_want_nothing.Goals as goal

pub returns-clause-answer : goal.returns-clause-answer
returns-clause-answer c = λ l c j s others t r sound fits x runs. never_wants l c j s others t r sound fits x (λ p e. runs)

pub returns-clause-together : goal.returns-clause-together
returns-clause-together c = stay_content

pub returns-clause-outcome : goal.returns-clause-outcome
returns-clause-outcome c = own_outcome
