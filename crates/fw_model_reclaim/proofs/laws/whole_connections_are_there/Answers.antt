-- The clause is a lemma.
use Rattle.fw_model_reclaim.proofs.Wholes.{whole_connected}
use Rattle.fw_model_reclaim.proofs.laws.whole_connections_are_there.Goals as goal

pub returns : goal.returns
returns c = whole_connected
