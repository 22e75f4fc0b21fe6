use Rattle.std.proofs.Common.{◌≤◌, ◌<◌, IfSome, ℕ}
use Rattle.fw_watch_known.specs.Channels.{channel_at}
use Rattle.fw_watch_known.proofs.channels.Channels.first_due.Given as goal

abbrev pub invariant-loop-i : goal.invariant-loop-i
invariant-loop-i l = (k : ℕ) → k < l.i → IfSome (channel_at l.self k).due (λ due. l.first ≤ due.since)
