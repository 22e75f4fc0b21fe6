use Rattle.fw_watch_laws.proofs.Told.{two_told}
use Rattle.fw_watch_laws.proofs.laws.two_senders_are_told.Goals as goal

pub returns : goal.returns
returns c = two_told
