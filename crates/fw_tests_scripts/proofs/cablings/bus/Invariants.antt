use Rattle.std.proofs.Common.{◌≡◌, ◌<◌, length}
use Rattle.fw_tests_scripts.proofs.cablings.bus.Given as goal

abbrev pub invariant-loop-device : goal.invariant-loop-device
invariant-loop-device g l = length l.cabling.devices ≡ l.device-index

abbrev pub invariant-loop-a : goal.invariant-loop-a
invariant-loop-a g l = 0 < length l.cabling.devices
