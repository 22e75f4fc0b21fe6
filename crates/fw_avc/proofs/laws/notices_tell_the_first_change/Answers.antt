use Rattle.fw_avc.proofs.TellLaws.{tells}
use Rattle.fw_avc.proofs.laws.notices_tell_the_first_change.Goals as goal

pub returns : goal.returns
returns c = tells
