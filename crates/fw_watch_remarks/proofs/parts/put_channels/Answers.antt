use Rattle.fw_watch_remarks.proofs.PartLaws.{no_channels, next_channel, stepped, begun}
use Rattle.fw_watch_remarks.proofs.parts.put_channels.Goals as goal

pub loop-at-init : goal.loop-at-init
loop-at-init c = begun _ _ (no_channels c.args.first c.args.set)

pub loop-at-preserved : goal.loop-at-preserved
loop-at-preserved c = stepped _ _ _ _ _ _ c.loop-at.invariant c.in_ok-put_channel.ensures (next_channel c.loop-at.at c.args.first c.args.set)
