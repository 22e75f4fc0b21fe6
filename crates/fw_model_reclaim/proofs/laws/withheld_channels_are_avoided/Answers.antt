-- Each clause is a lemma.
use Rattle.fw_model_reclaim.proofs.Avoiding.{first_avoided, avoids_after, stays_withheld}
use Rattle.fw_model_reclaim.proofs.laws.withheld_channels_are_avoided.Goals as goal

pub returns-clause-first : goal.returns-clause-first
returns-clause-first c = first_avoided

pub returns-clause-changes : goal.returns-clause-changes
returns-clause-changes c = avoids_after

pub returns-clause-stays : goal.returns-clause-stays
returns-clause-stays c = stays_withheld
