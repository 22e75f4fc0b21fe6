use Rattle.fw_devices.proofs.Common.{◌≡◌, take}
use Rattle.fw_devices.proofs.names.Names.copy_from.Given as goal

abbrev pub invariant-loop-name : goal.invariant-loop-name
invariant-loop-name l = l.self ≡ take l.name-index l.other
