-- The clause is a lemma.
use Rattle.fw_model_run.proofs.Answers.{nodes_answer}
use Rattle.fw_model_run.proofs.laws.nodes_answer_by_the_account.Goals as goal

pub returns : goal.returns
returns c = nodes_answer
