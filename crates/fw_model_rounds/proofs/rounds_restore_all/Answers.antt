-- Each clause is a lemma.
use Rattle.fw_model_rounds.proofs.Enough.{enough, enough_after_reset}
use Rattle.fw_model_rounds.proofs.rounds_restore_all.Goals as goal

pub returns-clause-enough : goal.returns-clause-enough
returns-clause-enough c = enough

pub returns-clause-after_reset : goal.returns-clause-after_reset
returns-clause-after_reset c = enough_after_reset
