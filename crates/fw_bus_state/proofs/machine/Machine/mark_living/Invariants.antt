use Rattle.fw_bus_state.proofs.Common.{◌≡◌, ◌≤◌, ◌<◌, ℕ, false, length, slice_index_or, numbers_to, is_living_in}
use Rattle.fw_bus_state.proofs.machine.Machine.mark_living.Given as goal

abbrev pub invariant-loop-device : goal.invariant-loop-device
invariant-loop-device l = record {
  size : length l.marks ≡ 63;
  each : (d : ℕ) → d < l.device → slice_index_or l.marks d false ≡ is_living_in l.self d;
  counted : l.count ≡ length (numbers_to l.device (is_living_in l.self));
  most : l.count ≤ l.device;
}
