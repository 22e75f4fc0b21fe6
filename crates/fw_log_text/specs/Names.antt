-- The names of packets (own).
use Rattle.std.specs.Prelude.{ℕ, List, codes}
use Rattle.fw_async.specs.declared.packet.Packet.{Packet}
use Rattle.fw_async.specs.declared.packet.Packet.TheVariants.{WriteQuadlet, WriteBlock, WriteReply, ReadQuadlet, ReadBlock, ReadQuadletReply, ReadBlockReply, CycleStart, Lock, LockReply}

-- the name of a packet, by its transaction code
abbrev pub packet_name : Packet → List ℕ
packet_name (WriteQuadlet h offset value) = codes "write-quadlet"
packet_name (WriteBlock h offset bytes) = codes "write-block"
packet_name (WriteReply h rcode) = codes "write-reply"
packet_name (ReadQuadlet h offset) = codes "read-quadlet"
packet_name (ReadBlock h offset len) = codes "read-block"
packet_name (ReadQuadletReply h rcode value) = codes "read-quadlet-reply"
packet_name (ReadBlockReply h rcode bytes) = codes "read-block-reply"
packet_name (CycleStart h offset time) = codes "cycle-start"
packet_name (Lock h offset function bytes) = codes "lock"
packet_name (LockReply h rcode function bytes) = codes "lock-reply"
