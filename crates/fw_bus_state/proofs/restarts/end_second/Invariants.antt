use Rattle.fw_bus_state.proofs.Common.{◌≡◌, ◌++◌, map, take, drop}
use Rattle.fw_cmp.specs.Losses.{after_end}
use Rattle.fw_bus_state.proofs.restarts.end_second.Given as goal

abbrev pub invariant-loop-device : goal.invariant-loop-device
invariant-loop-device l = l.list ≡ map after_end (take l.device l.initial.list) ++ drop l.device l.initial.list
