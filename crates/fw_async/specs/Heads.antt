-- What each packet begins with.
use Rattle.fw_async.specs.declared.packet.Head.{Head}
use Rattle.fw_async.specs.declared.packet.Packet.{Packet}
use Rattle.fw_async.specs.declared.packet.Packet.TheVariants.{WriteQuadlet, WriteBlock, WriteReply, ReadQuadlet, ReadBlock, ReadQuadletReply, ReadBlockReply, CycleStart, Lock, LockReply}

-- the head of a packet
abbrev pub head_of : Packet → Head
head_of (WriteQuadlet h offset value) = h
head_of (WriteBlock h offset bytes) = h
head_of (WriteReply h rcode) = h
head_of (ReadQuadlet h offset) = h
head_of (ReadBlock h offset len) = h
head_of (ReadQuadletReply h rcode value) = h
head_of (ReadBlockReply h rcode bytes) = h
head_of (CycleStart h offset time) = h
head_of (Lock h offset function bytes) = h
head_of (LockReply h rcode function bytes) = h
