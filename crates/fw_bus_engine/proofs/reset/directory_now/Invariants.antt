use Rattle.fw_bus_engine.proofs.Told.{IsFilled}
use Rattle.fw_bus_engine.proofs.reset.directory_now.Given as goal

abbrev pub invariant-loop-device : goal.invariant-loop-device
invariant-loop-device l = IsFilled l.machine.devices l.device l.node
