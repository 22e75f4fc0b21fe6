use Rattle.std.proofs.Common.{◌≡◌, ◌+◌, drop}
use Rattle.fw_log_entry.specs.Network.{node_of_device}
use Rattle.fw_holders_text.proofs.names.node_of_device.Given as goal

abbrev pub invariant-loop-n : goal.invariant-loop-n
invariant-loop-n l = l.n + node_of_device (drop l.n l.nodes) l.device ≡ node_of_device l.nodes l.device
