-- Each clause is a lemma.
use Rattle.fw_model_run.proofs.Recovery.{loses_nothing, recovers}
use Rattle.fw_model_run.proofs.losses.lost_swaps_come_right.Goals as goal

pub returns-clause-states : goal.returns-clause-states
returns-clause-states c = loses_nothing

pub returns-clause-throughout : goal.returns-clause-throughout
returns-clause-throughout c = recovers
