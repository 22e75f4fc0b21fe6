use Rattle.fw_bus_state.proofs.Common.{◌≡◌, ◌++◌, drop, map, take, passed, counted_on}
use Rattle.fw_bus_state.proofs.streams.Streams.pass_to.Given as goal

abbrev pub invariant-loop-device : goal.invariant-loop-device
invariant-loop-device l = record {
  counts : l.self-inside.counts ≡ counted_on l.cycles (take l.device l.initial.devices.nodes) l.initial.self-inside.counts;
  tapes : l.devices ≡ record l.initial.devices { nodes = map (passed l.cycles) (take l.device l.initial.devices.nodes) ++ drop l.device l.initial.devices.nodes };
}
