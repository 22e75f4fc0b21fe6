use Rattle.std.proofs.Common.{◌≡◌}
use Rattle.fw_watch_known.specs.Channels.{owners_to}
use Rattle.fw_watch_known.proofs.plugs.Plugs.owners.Given as goal

abbrev pub invariant-loop-node : goal.invariant-loop-node
invariant-loop-node l = l.owners ≡ owners_to l.node l.self l.channel
