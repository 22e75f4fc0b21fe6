use Rattle.fw_devices.proofs.NameLaws.{always}
use Rattle.fw_devices.proofs.names.no_places.Goals as goal

pub returns : goal.returns
returns c = λ key. always 256 key 255
