use Rattle.fw_explore.proofs.Common.{◌≡◌, ◌≤◌, take, length}
use Rattle.fw_explore.proofs.word.device_names.Given as goal

abbrev pub invariant-loop-device : goal.invariant-loop-device
invariant-loop-device l = l.names.items ≡ take l.device l.machine.devices.names
