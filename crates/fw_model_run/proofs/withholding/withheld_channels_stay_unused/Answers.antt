-- Each clause is a lemma.
use Rattle.fw_model_run.proofs.Avoids.{run_leaves, run_withholds, withholds}
use Rattle.fw_model_run.proofs.withholding.withheld_channels_stay_unused.Goals as goal

pub returns-clause-unused : goal.returns-clause-unused
returns-clause-unused c = run_leaves

pub returns-clause-ever : goal.returns-clause-ever
returns-clause-ever c = run_withholds

pub returns-clause-throughout : goal.returns-clause-throughout
returns-clause-throughout c = withholds
