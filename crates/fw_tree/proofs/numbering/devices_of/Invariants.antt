use Rattle.fw_tree.proofs.Common.{◌≡◌, ◌<◌, ℕ, Some, length, device_at, number_at}
use Rattle.fw_tree.proofs.numbering.devices_of.Given as goal

abbrev pub invariant-loop-d : goal.invariant-loop-d
invariant-loop-d l = record {
  size : length l.devices ≡ 63;
  devices : (d n : ℕ) → d < l.d → number_at l.number d ≡ Some n → device_at l.devices n ≡ d;
}
