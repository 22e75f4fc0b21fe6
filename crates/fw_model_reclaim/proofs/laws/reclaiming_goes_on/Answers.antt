-- Each clause is a lemma.
use Rattle.fw_model_reclaim.proofs.Together.{goes_on_reclaiming, first_reclaims}
use Rattle.fw_model_reclaim.proofs.laws.reclaiming_goes_on.Goals as goal

pub returns-clause-first : goal.returns-clause-first
returns-clause-first c = first_reclaims

pub returns-clause-changes : goal.returns-clause-changes
returns-clause-changes c = goes_on_reclaiming
