-- Each clause is a lemma.
use Rattle.fw_model_rounds.proofs.Table.{falls, success_is_two}
use Rattle.fw_model_rounds.proofs.TableBound.{at_most_six}
use Rattle.fw_model_rounds.proofs.distances_fall.Goals as goal

pub returns-clause-few : goal.returns-clause-few
returns-clause-few c = at_most_six

pub returns-clause-success : goal.returns-clause-success
returns-clause-success c = success_is_two

pub returns-clause-falls : goal.returns-clause-falls
returns-clause-falls c = falls
