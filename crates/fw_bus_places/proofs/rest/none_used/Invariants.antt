use Rattle.std.proofs.Common.{◌≡◌, IsFalse, take}
use Rattle.fw_bus_places.proofs.rest.none_used.Given as goal

abbrev pub invariant-loop-device : goal.invariant-loop-device
invariant-loop-device l = IsFalse l.used → take l.from l.nodes ≡ take l.from l.others → take l.device l.nodes ≡ take l.device l.others
