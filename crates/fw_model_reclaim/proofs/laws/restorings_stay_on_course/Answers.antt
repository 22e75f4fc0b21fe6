-- Each clause is a lemma.
use Rattle.fw_model_reclaim.proofs.Heard.{heard}
use Rattle.fw_model_reclaim.proofs.laws.restorings_stay_on_course.Goals as goal

pub returns : goal.returns
returns c = heard
