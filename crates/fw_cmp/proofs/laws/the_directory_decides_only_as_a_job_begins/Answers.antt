use Rattle.fw_cmp.proofs.OfAnswers.{next_decides, hear_decides, state_decides}
use Rattle.fw_cmp.proofs.laws.the_directory_decides_only_as_a_job_begins.Goals as goal

pub returns-clause-turn : goal.returns-clause-turn
returns-clause-turn c = next_decides

pub returns-clause-answer : goal.returns-clause-answer
returns-clause-answer c = hear_decides

pub returns-clause-reset : goal.returns-clause-reset
returns-clause-reset c = state_decides
