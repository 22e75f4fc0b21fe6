use Rattle.fw_bus_state.proofs.Common.{◌≡◌, ◌≤◌, length, numbers_to, is_living_in}
use Rattle.fw_bus_state.proofs.machine.Machine.living.Given as goal

abbrev pub invariant-loop-device : goal.invariant-loop-device
invariant-loop-device l = record { counted : l.count ≡ length (numbers_to l.device (is_living_in l.self)); most : l.count ≤ l.device }
