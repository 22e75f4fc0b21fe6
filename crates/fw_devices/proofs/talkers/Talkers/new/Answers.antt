use Rattle.fw_devices.proofs.Common.{refl, arith}
use Rattle.fw_devices.proofs.TalkLaws.{none_silent}
use Rattle.fw_devices.proofs.talkers.Talkers.new.Goals as goal

pub invariant_of-result : goal.invariant_of-result
invariant_of-result c = (refl, omega arith, none_silent)
