use Rattle.fw_log.proofs.Common.{◌≡◌, None, drop, are_ids}
use Rattle.fw_log.proofs.read_reset.are_ids.Given as goal

abbrev pub invariant-loop-packet : goal.invariant-loop-packet
invariant-loop-packet l = are_ids l.node l.next (drop l.packet-index l.ids) l.count ≡ are_ids 0 None l.ids l.count
