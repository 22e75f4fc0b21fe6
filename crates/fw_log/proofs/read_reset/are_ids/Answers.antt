use Rattle.fw_log.proofs.Common.{◌+◌, None, drop, are_ids}
use Rattle.std.proofs.lemmas.List.{get_or_default}
use Rattle.fw_log.proofs.ResetLaws.{ids_stop}
use Rattle.fw_log.proofs.read_reset.are_ids.Goals as goal

pub returns-in-None : goal.returns-in-None
returns-in-None c = ids_stop c.args.ids.now c.loop-packet.packet-index c.loop-packet.node c.args.count c.loop-packet.next _ (are_ids 0 None c.args.ids.now c.args.count) c.loop-packet-test.true
    (get_or_default c.args.ids.now c.loop-packet.packet-index _ _ c.loop-packet-test.true)
    (c.in-None.ensures (drop (c.loop-packet.packet-index + 1) c.args.ids.now) c.args.count) c.loop-packet.invariant
