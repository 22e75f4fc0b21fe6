use Rattle.fw_holders.proofs.Common.{◌≡◌, ◌++◌, slice_index, length, counts_below}
use Rattle.fw_holders.proofs.owners.put_counts.Given as goal

abbrev pub invariant-loop-device : goal.invariant-loop-device
invariant-loop-device l = length l.fn.text.items ≡ l.from → l.text.items ≡ l.fn.text.items ++ counts_below l.device l.nodes (slice_index l.counts)
