use Rattle.std.proofs.Common.{◌≡◌, take}
use Rattle.fw_bus_places.proofs.rest.same_first.Given as goal

abbrev pub invariant-loop-device : goal.invariant-loop-device
invariant-loop-device l = take l.device l.nodes ≡ take l.device l.others
