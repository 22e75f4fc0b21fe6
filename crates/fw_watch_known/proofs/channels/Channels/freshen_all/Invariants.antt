use Rattle.std.proofs.Common.{◌≡◌}
use Rattle.fw_watch_known.specs.Channels.{freshened}
use Rattle.fw_watch_known.proofs.channels.Channels.freshen_all.Given as goal

abbrev pub invariant-loop-at : goal.invariant-loop-at
invariant-loop-at l = l.self ≡ freshened l.at l.first l.old l.now l.fn.self
