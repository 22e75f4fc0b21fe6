use Rattle.std.proofs.Common.{◌≡◌}
use Rattle.fw_watch_remarks.specs.Remarks.{told}
use Rattle.fw_watch.specs.Swaps.{changes_remarks}
use Rattle.fw_watch.proofs.tell_swap.tell_changes.Given as goal

abbrev pub invariant-loop-at : goal.invariant-loop-at
invariant-loop-at l = l.journal ≡ told l.fn.journal (changes_remarks l.at l.state l.m l.first)
