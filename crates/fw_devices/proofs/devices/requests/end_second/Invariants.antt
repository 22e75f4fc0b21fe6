use Rattle.fw_devices.proofs.Common.{◌≡◌, ◌++◌, map, take, after_second}
use Rattle.std.proofs.Common.{drop}
use Rattle.fw_devices.proofs.devices.requests.end_second.Given as goal

abbrev pub invariant-loop-node : goal.invariant-loop-node
invariant-loop-node l = l.nodes ≡ map after_second (take l.node-index l.initial.nodes) ++ drop l.node-index l.initial.nodes
