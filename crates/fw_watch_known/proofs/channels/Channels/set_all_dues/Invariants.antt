use Rattle.std.proofs.Common.{◌≡◌}
use Rattle.fw_watch_known.specs.Channels.{with_dues}
use Rattle.fw_watch_known.proofs.channels.Channels.set_all_dues.Given as goal

abbrev pub invariant-loop-at : goal.invariant-loop-at
invariant-loop-at l = l.self ≡ with_dues l.at l.first l.old l.new l.due l.plugs l.fn.self
