-- Each clause is a lemma.
use Rattle.fw_model_reclaim.proofs.Reclaim.{reclaims}
use Rattle.fw_model_reclaim.proofs.laws.connections_come_back.Goals as goal

pub returns : goal.returns
returns c = reclaims
