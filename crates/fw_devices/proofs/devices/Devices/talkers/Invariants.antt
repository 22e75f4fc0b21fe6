use Rattle.fw_devices.specs.Streams.{AreTalkers}
use Rattle.fw_devices.proofs.devices.Devices.talkers.Given as goal

abbrev pub invariant-loop-device : goal.invariant-loop-device
invariant-loop-device l = AreTalkers l.device l.self.nodes l.talkers
