use Rattle.std.proofs.Common.{◌≡◌, IsFalse, take}
use Rattle.fw_bus_places.proofs.rest.same_flags.Given as goal

abbrev pub invariant-loop-device : goal.invariant-loop-device
invariant-loop-device l = IsFalse l.differ → take l.device l.flags ≡ take l.device l.others
