-- The members of packets (own), in this order.
use Rattle.std.specs.Prelude.{ℕ, List, [], ◌++◌, length, codes, decimal, Some}
use Rattle.fw_async.specs.Heads.{head_of}
use Rattle.fw_async.specs.declared.packet.Packet.{Packet}
use Rattle.fw_async.specs.declared.packet.Packet.TheVariants.{WriteQuadlet, WriteBlock, WriteReply, ReadQuadlet, ReadBlock, ReadQuadletReply, ReadBlockReply, CycleStart, Lock, LockReply}
use Rattle.fw_async.specs.declared.packet.Head.{Head}
use Rattle.fw_cip.specs.Iso.{bit, block_bytes, data_length}
use Rattle.fw_cip.specs.declared.packet.CipHeader.{CipHeader}
use Rattle.fw_cip.specs.declared.packet.IsoPacket.{IsoPacket}
use Rattle.fw_text.specs.Texts.{hex, hex_bytes}
use Rattle.fw_log_names.specs.Names.{tcode, tcode_name, rcode_name, function_name, retry_name, format_name}
use Rattle.fw_log_json_packets.specs.Values.{field, quoted, code, name_value}

-- what each packet begins with
abbrev pub head_fields : Head → List ℕ
head_fields h =
    field (codes ",\"dst_id\":") (quoted (hex 4 h.destination)) ++ field (codes ",\"tlabel\":") (decimal h.tl)
    ++ code (codes ",\"retry\":") h.rt (codes ",\"retry_name\":") (retry_name h.rt)
    ++ field (codes ",\"priority\":") (decimal h.pri) ++ field (codes ",\"src_id\":") (quoted (hex 4 h.source))

-- where a request goes
abbrev pub place_fields : ℕ → List ℕ
place_fields offset = field (codes ",\"offset\":") (quoted (hex 12 offset))

-- how a response ends the transaction
abbrev pub rcode_fields : ℕ → List ℕ
rcode_fields rcode = code (codes ",\"rcode\":") rcode (codes ",\"rcode_name\":") (rcode_name rcode)

-- the offset of a request, or the response code of a response
abbrev pub target_fields : Packet → List ℕ
target_fields (WriteQuadlet h offset value) = place_fields offset
target_fields (WriteBlock h offset bytes) = place_fields offset
target_fields (WriteReply h rcode) = rcode_fields rcode
target_fields (ReadQuadlet h offset) = place_fields offset
target_fields (ReadBlock h offset len) = place_fields offset
target_fields (ReadQuadletReply h rcode value) = rcode_fields rcode
target_fields (ReadBlockReply h rcode bytes) = rcode_fields rcode
target_fields (CycleStart h offset time) = place_fields offset
target_fields (Lock h offset function bytes) = place_fields offset
target_fields (LockReply h rcode function bytes) = rcode_fields rcode

-- a quadlet of data
abbrev pub quadlet_field : ℕ → List ℕ
quadlet_field value = field (codes ",\"data\":") (quoted (hex 8 value))

-- a block of data, without its padding
abbrev pub block_fields : List ℕ → List ℕ
block_fields bytes = field (codes ",\"data_length\":") (decimal (length bytes)) ++ field (codes ",\"data\":") (quoted (hex_bytes bytes))

-- the data of a lock, and its function
abbrev pub lock_fields : ℕ → List ℕ → List ℕ
lock_fields function bytes =
    field (codes ",\"data_length\":") (decimal (length bytes))
    ++ code (codes ",\"extended_tcode\":") function (codes ",\"extended_tcode_name\":") (function_name function)
    ++ field (codes ",\"data\":") (quoted (hex_bytes bytes))

-- the data of a packet
abbrev pub data_fields : Packet → List ℕ
data_fields (WriteQuadlet h offset value) = quadlet_field value
data_fields (WriteBlock h offset bytes) = block_fields bytes
data_fields (WriteReply h rcode) = []
data_fields (ReadQuadlet h offset) = []
data_fields (ReadBlock h offset len) = field (codes ",\"data_length\":") (decimal len)
data_fields (ReadQuadletReply h rcode value) = quadlet_field value
data_fields (ReadBlockReply h rcode bytes) = block_fields bytes
data_fields (CycleStart h offset time) = quadlet_field time
data_fields (Lock h offset function bytes) = lock_fields function bytes
data_fields (LockReply h rcode function bytes) = lock_fields function bytes

-- an asynchronous packet
abbrev pub packet_fields : Packet → List ℕ
packet_fields p =
    code (codes ",\"tcode\":") (tcode p) (codes ",\"tcode_name\":") (Some (tcode_name p)) ++ head_fields (head_of p) ++ target_fields p ++ data_fields p

-- the CIP header of an isochronous packet
abbrev pub cip_fields : CipHeader → List ℕ
cip_fields c =
    field (codes ",\"sid\":") (decimal c.sid) ++ field (codes ",\"dbs\":") (decimal c.dbs) ++ field (codes ",\"fn\":") (decimal c.fraction)
    ++ field (codes ",\"qpc\":") (decimal c.qpc) ++ field (codes ",\"sph\":") (decimal (bit c.sph)) ++ field (codes ",\"dbc\":") (decimal c.dbc)
    ++ field (codes ",\"fmt\":") (decimal c.fmt) ++ field (codes ",\"fdf\":") (quoted (hex 6 c.fdf))
    ++ field (codes ",\"format_name\":") (name_value (format_name c))

-- an isochronous packet: its tag says CIP, and its transaction code is that of all isochronous packets
abbrev pub iso_fields : IsoPacket → List ℕ
iso_fields p =
    field (codes ",\"data_length\":") (decimal (data_length p.block)) ++ field (codes ",\"tag\":") (decimal 1)
    ++ field (codes ",\"channel\":") (decimal p.channel) ++ code (codes ",\"tcode\":") 10 (codes ",\"tcode_name\":") (Some (codes "iso_data"))
    ++ field (codes ",\"sy\":") (decimal p.sy) ++ cip_fields p.cip ++ field (codes ",\"data\":") (quoted (hex_bytes (block_bytes p.block)))
