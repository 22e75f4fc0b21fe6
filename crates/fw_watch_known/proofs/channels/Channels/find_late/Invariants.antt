use Rattle.std.proofs.Common.{◌≡◌, ◌+◌, ◌≤◌, IfSome}
use Rattle.fw_watch_known.specs.Channels.{late_to}
use Rattle.fw_watch_known.proofs.channels.Channels.find_late.Given as goal

abbrev pub invariant-loop-channel : goal.invariant-loop-channel
invariant-loop-channel l = record {
  value : l.best ≡ late_to l.channel l.self l.cycle;
  past : IfSome l.best (λ late. late.due.since + 8000 ≤ l.cycle);
}
