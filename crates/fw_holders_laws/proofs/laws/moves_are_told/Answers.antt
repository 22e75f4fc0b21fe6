use Rattle.fw_holders_laws.proofs.Told.{move_told_is}
use Rattle.fw_holders_laws.proofs.laws.moves_are_told.Goals as goal

pub returns : goal.returns
returns c = move_told_is
