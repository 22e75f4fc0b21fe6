use Rattle.fw_ledger.proofs.Common.{◌<◌, ◌≤◌, ℕ, slice_index}
use Rattle.fw_ledger.proofs.counts.gains_plugs.Given as goal

abbrev pub invariant-loop-device : goal.invariant-loop-device
invariant-loop-device l = (d : ℕ) → d < l.device → slice_index l.now d ≤ slice_index l.before d
