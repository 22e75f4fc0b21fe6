use Rattle.fw_devices.proofs.Common.{◌≡◌, ◌<◌, ◌≤◌, ℕ, number_at, node_at}
use Rattle.fw_devices.specs.Resets.{numbered}
use Rattle.fw_devices.proofs.devices.resets.reset_nodes.Given as goal

abbrev pub invariant-loop-d : goal.invariant-loop-d
invariant-loop-d l = record {
  done : (d : ℕ) → d < l.d → node_at l.nodes d ≡ numbered (number_at l.numbering.number d) l.manager (node_at l.initial.nodes d);
  left : (d : ℕ) → l.d ≤ d → node_at l.nodes d ≡ node_at l.initial.nodes d;
}
