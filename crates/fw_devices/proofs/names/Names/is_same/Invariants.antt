use Rattle.fw_devices.proofs.Common.{◌≡◌, take}
use Rattle.fw_devices.proofs.names.Names.is_same.Given as goal

abbrev pub invariant-loop-n : goal.invariant-loop-n
invariant-loop-n l = take l.n l.self ≡ take l.n l.other
