-- Request packets and the packets that answer them (IEEE 1394-1995, transactions; retry code 01 and priority 0 are own).
use Rattle.std.specs.Prelude.{◌≡◌, ℕ, ◌%◌, ◌^◌, ◌<◌, ◌≤◌, ◌==◌, IsTrue, IsSome, List, [], length, Option, Some, None, if◌then◌else◌}
use Rattle.std.specs.Int.{to_be_bytes, w32}
use Rattle.fw_terms.specs.declared.label.Label.{Label}
use Rattle.fw_terms.specs.Labels.{label_code}
use Rattle.fw_words.specs.Quadlet.{quadlet_at}
use Rattle.fw_async_fields.specs.Data.{AreBytes, is_lock_size}
use Rattle.fw_async.specs.Reader.{Spells}
use Rattle.fw_async.specs.declared.packet.Head.{Head}
use Rattle.fw_async.specs.declared.packet.Packet.{Packet}
use Rattle.fw_async.specs.declared.packet.Packet.TheVariants.{WriteQuadlet, WriteBlock, WriteReply, ReadQuadlet, ReadBlock, ReadQuadletReply, ReadBlockReply, Lock, LockReply}
use Rattle.fw_csr.specs.declared.request.Request.{Request}
use Rattle.fw_csr.specs.declared.request.Request.TheVariants as Asks
use Rattle.fw_csr.specs.declared.reply.Reply.{Reply}
use Rattle.fw_node.specs.Contents.{node_id}
use Rattle.fw_node.specs.Space.{Space, answer_of}

-- what a request packet asks; other packets ask nothing
abbrev pub request_in : Packet → Option Request
request_in (WriteQuadlet h offset value) = Some (Asks.Write offset value)
request_in (WriteBlock h offset bytes) = Some (Asks.WriteBlock offset bytes)
request_in (ReadQuadlet h offset) = Some (Asks.Read offset)
request_in (ReadBlock h offset len) = Some (Asks.ReadBlock offset len)
request_in (Lock h offset function bytes) = Some (Asks.Lock offset function bytes)
request_in _ = None

-- the packet that asks this
abbrev pub packet_of : Head → Request → Packet
packet_of h (Asks.Read offset) = ReadQuadlet h offset
packet_of h (Asks.ReadBlock offset len) = ReadBlock h offset len
packet_of h (Asks.Write offset value) = WriteQuadlet h offset value
packet_of h (Asks.WriteBlock offset bytes) = WriteBlock h offset bytes
packet_of h (Asks.Lock offset function bytes) = Lock h offset function bytes

-- from one node of the local bus to another, under a transaction label
abbrev pub request_head : ℕ → ℕ → Label → Head
request_head from to label = record { destination = node_id to; tl = label_code label; rt = 1; pri = 0; source = node_id from }

-- the packet that asks this has a spelling
abbrev pub RequestFits : Request → Type 0
RequestFits (Asks.Read offset) = offset < 2 ^ 48
RequestFits (Asks.ReadBlock offset len) = (offset < 2 ^ 48) × (len ≤ 512)
RequestFits (Asks.Write offset value) = (offset < 2 ^ 48) × (value < 2 ^ 32)
RequestFits (Asks.WriteBlock offset bytes) = (offset < 2 ^ 48) × (length bytes ≤ 512) × AreBytes bytes
RequestFits (Asks.Lock offset function bytes) = (offset < 2 ^ 48) × (0 < function) × (function < 8) × IsTrue (is_lock_size function (length bytes)) × AreBytes bytes

-- the number of the node that a request packet comes from: the last six bits of its source
abbrev pub requester : Packet → ℕ
requester (WriteQuadlet h offset value) = h.source % 64
requester (WriteBlock h offset bytes) = h.source % 64
requester (ReadQuadlet h offset) = h.source % 64
requester (ReadBlock h offset len) = h.source % 64
requester (Lock h offset function bytes) = h.source % 64
requester _ = 0

-- from node n to the requester, under the request's transaction label
abbrev pub response_head : ℕ → Head → Head
response_head n h = record { destination = h.source; tl = h.tl; rt = 1; pri = 0; source = node_id n }

-- a lock response has the old value if the lock was carried out, and no data else
abbrev pub old_bytes : Reply → List ℕ
old_bytes a = if a.rcode == 0 then to_be_bytes w32 a.value else []

-- the packet by which node n answers a request packet with a reply
abbrev pub response_to : ℕ → Packet → Reply → Option Packet
response_to n (WriteQuadlet h offset value) a = Some (WriteReply (response_head n h) a.rcode)
response_to n (WriteBlock h offset bytes) a = Some (WriteReply (response_head n h) a.rcode)
response_to n (ReadQuadlet h offset) a = Some (ReadQuadletReply (response_head n h) a.rcode a.value)
response_to n (ReadBlock h offset len) a = Some (ReadBlockReply (response_head n h) a.rcode [])
response_to n (Lock h offset function bytes) a = Some (LockReply (response_head n h) a.rcode function (old_bytes a))
response_to n _ a = None

-- a reply with data is one with a quadlet, or with none; a reply to a register has no other data
abbrev pub old_value : ℕ → List ℕ → Option Reply
old_value rcode bytes =
    if length bytes == 0 then Some (record { rcode = rcode; value = 0 })
    else if length bytes == 4 then Some (record { rcode = rcode; value = quadlet_at bytes 0 })
    else None

-- the reply that a response packet carries; other packets carry none
abbrev pub reply_in : Packet → Option Reply
reply_in (WriteReply h rcode) = Some (record { rcode = rcode; value = 0 })
reply_in (ReadQuadletReply h rcode value) = Some (record { rcode = rcode; value = value })
reply_in (ReadBlockReply h rcode bytes) = old_value rcode bytes
reply_in (LockReply h rcode function bytes) = old_value rcode bytes
reply_in _ = None

-- the packet that answers what a packet asks, if anything
abbrev pub response_with : Space → Packet → Option Request → Option Packet
response_with s p None = None
response_with s p (Some r) = response_to s.number p (answer_of s r).reply

-- the packet that answers a request packet to the node of this space
abbrev pub response_of : Space → Packet → Option Packet
response_of s p = response_with s p (request_in p)

-- the bytes are a request packet
pub record IsRequest (bytes : List ℕ) : Type 0 where
  pub packet : Packet
  pub spells : Spells packet bytes
  pub asks : IsSome (request_in packet)

-- The bytes are the packet that answers a request packet to the node of this space, and this is the reply that it carries.
pub record IsServed (s : Space) (p : Packet) (bytes : List ℕ) (reply : Reply) : Type 0 where
  pub packet : Packet
  pub answers : response_of s p ≡ Some packet
  pub spells : Spells packet bytes
  pub carries : reply_in packet ≡ Some reply

-- the bytes are the packet that answers a request packet to the node of this space
pub record IsAnswer (s : Space) (p : Packet) (bytes : List ℕ) : Type 0 where
  pub packet : Packet
  pub answers : response_of s p ≡ Some packet
  pub spells : Spells packet bytes
