use Rattle.std.proofs.Common.{◌≡◌}
use Rattle.fw_watch.specs.Swaps.{changes_to}
use Rattle.fw_watch.proofs.swap.changes.Given as goal

abbrev pub invariant-loop-at : goal.invariant-loop-at
invariant-loop-at l = l.count ≡ changes_to l.at l.old l.new
