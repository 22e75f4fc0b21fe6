use Rattle.fw_devices.proofs.Common.{◌≡◌, ◌<◌, ℕ, Some, length, slice_get, number_at, kinds_of, kind_at, row_of}
use Rattle.fw_devices.proofs.bus.rows_of.Given as goal

abbrev pub invariant-loop-n : goal.invariant-loop-n
invariant-loop-n l = record {
  size : length l.rows ≡ l.n;
  rows : (d k : ℕ) → number_at l.numbering.number d ≡ Some k → k < l.n → slice_get l.rows k ≡ Some (row_of d (kind_at (kinds_of l.nodes) d));
}
