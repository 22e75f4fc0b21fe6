use Rattle.fw_map.proofs.Common.{◌≡◌, drop, speed_of}
use Rattle.fw_map.proofs.fields.speed_of.Given as goal

abbrev pub invariant-loop-packet : goal.invariant-loop-packet
invariant-loop-packet l = speed_of l.node l.ids ≡ speed_of l.node (drop l.packet-index l.ids)
