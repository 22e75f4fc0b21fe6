use Rattle.fw_bus_state.proofs.Common.{◌≤◌, ◌<◌, ℕ, length, node_at, count_at}
use Rattle.fw_bus_state.specs.Streaming.{IsStill}
use Rattle.fw_bus_state.proofs.streams.Streams.end.Given as goal

-- of the devices so far those from the end on are still
abbrev pub invariant-loop-device : goal.invariant-loop-device
invariant-loop-device l = record {
  few : l.end ≤ length l.devices.nodes;
  still : (d : ℕ) → d < l.device → l.end ≤ d → IsStill (node_at l.devices.nodes d) (count_at l.self d);
}
