-- The clause is a lemma.
use Rattle.fw_model_rounds.proofs.EightRounds.{eight_rounds}
use Rattle.fw_model_rounds.proofs.eight_rounds_make_progress.Goals as goal

pub returns : goal.returns
returns c = eight_rounds
