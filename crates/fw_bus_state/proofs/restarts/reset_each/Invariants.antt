use Rattle.fw_bus_state.proofs.Common.{◌≡◌, ◌++◌, map, take, drop}
use Rattle.fw_cmp.specs.Losses.{after_bus_reset}
use Rattle.fw_bus_state.proofs.restarts.reset_each.Given as goal

abbrev pub invariant-loop-device : goal.invariant-loop-device
invariant-loop-device l = l.list ≡ map (after_bus_reset l.epoch) (take l.device l.initial.list) ++ drop l.device l.initial.list
