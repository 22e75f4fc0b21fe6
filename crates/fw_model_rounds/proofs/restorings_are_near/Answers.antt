-- Each clause is a lemma.
use Rattle.fw_model_rounds.proofs.Near.{near}
use Rattle.fw_model_rounds.proofs.Lowers.{lowers}
use Rattle.fw_model_rounds.proofs.restorings_are_near.Goals as goal

pub returns-clause-near : goal.returns-clause-near
returns-clause-near c = near

pub returns-clause-fewer : goal.returns-clause-fewer
returns-clause-fewer c = lowers
