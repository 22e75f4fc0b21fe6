-- Asynchronous packets and the bytes that they are (IEEE 1394-1995, clause 6.2, without the CRCs).
use Rattle.std.specs.Prelude.{ℕ, ◌/◌, ◌%◌, ◌^◌, ◌≤◌, ◌<◌, List, [], ◌∷◌, ◌++◌, length, replicate, flat_map, IsTrue}
use Rattle.std.specs.Int.{to_be_bytes, w32}
use Rattle.fw_words.specs.Layout.{packed}
use Rattle.fw_async_fields.specs.Data.{AreBytes, is_lock_size, is_reply_size, padding}
use Rattle.fw_async.specs.declared.packet.Head.{Head}
use Rattle.fw_async.specs.declared.packet.Packet.{Packet}
use Rattle.fw_async.specs.declared.packet.Packet.TheVariants.{WriteQuadlet, WriteBlock, WriteReply, ReadQuadlet, ReadBlock, ReadQuadletReply, ReadBlockReply, CycleStart, Lock, LockReply}

-- quadlet 0: destination_ID 16, tl 6, rt 2, tcode 4, pri 4
abbrev pub head_fields : ℕ → Head → List (ℕ × ℕ)
head_fields tcode h = (16, h.destination) ∷ (6, h.tl) ∷ (2, h.rt) ∷ (4, tcode) ∷ (4, h.pri) ∷ []

-- the quadlets of a packet, and the bytes after them
pub record Parts : Type 0 where
  pub quadlets : List ℕ
  pub bytes : List ℕ

-- A request has source_ID 16 and destination_offset 48 in quadlets 1 and 2; a response has source_ID 16, rcode 4
-- and 44 zeros there.
abbrev pub request : ℕ → Head → ℕ → List ℕ → List ℕ → Parts
request tcode h offset more bytes =
    record { quadlets = packed (head_fields tcode h) 0 ∷ packed ((16, h.source) ∷ (16, offset / 2 ^ 32) ∷ []) 0 ∷ offset % 2 ^ 32 ∷ more; bytes = bytes }

-- the parts of a response packet: its header with the response code, and its data
abbrev pub response : ℕ → Head → ℕ → List ℕ → List ℕ → Parts
response tcode h rcode more bytes =
    record { quadlets = packed (head_fields tcode h) 0 ∷ packed ((16, h.source) ∷ (4, rcode) ∷ (12, 0) ∷ []) 0 ∷ 0 ∷ more; bytes = bytes }

-- quadlet 3 of blocks and locks: data_length 16, then 16 zeros or extended_tcode 16
abbrev pub size : ℕ → ℕ → ℕ
size len low = packed ((16, len) ∷ (16, low) ∷ []) 0

-- each packet by its transaction code: its quadlets, and its data
abbrev pub parts : Packet → Parts
parts (WriteQuadlet h offset value) = request 0 h offset (value ∷ []) []
parts (WriteBlock h offset bytes) = request 1 h offset (size (length bytes) 0 ∷ []) bytes
parts (WriteReply h rcode) = response 2 h rcode [] []
parts (ReadQuadlet h offset) = request 4 h offset [] []
parts (ReadBlock h offset len) = request 5 h offset (size len 0 ∷ []) []
parts (ReadQuadletReply h rcode value) = response 6 h rcode (value ∷ []) []
parts (ReadBlockReply h rcode bytes) = response 7 h rcode (size (length bytes) 0 ∷ []) bytes
parts (CycleStart h offset time) = request 8 h offset (time ∷ []) []
parts (Lock h offset function bytes) = request 9 h offset (size (length bytes) function ∷ []) bytes
parts (LockReply h rcode function bytes) = response 11 h rcode (size (length bytes) function ∷ []) bytes

-- data and its padding
abbrev pub padded : List ℕ → List ℕ
padded bytes = bytes ++ replicate (padding (length bytes)) 0

-- quadlets are big-endian, and the data stands after them
abbrev pub bytes_of : Parts → List ℕ
bytes_of p = flat_map (to_be_bytes w32) p.quadlets ++ padded p.bytes

-- the one list of bytes that the packet is
abbrev pub spelling : Packet → List ℕ
spelling p = bytes_of (parts p)

-- the numbers of a head fit their fields
abbrev pub HeadFits : Head → Type 0
HeadFits h = (h.destination < 2 ^ 16) × (h.tl < 2 ^ 6) × (h.rt < 2 ^ 2) × (h.pri < 2 ^ 4) × (h.source < 2 ^ 16)

-- The packet has a spelling: its numbers fit their fields, and its data is as long as its kind may have. That a block
-- has at most 512 bytes is own.
abbrev pub Fits : Packet → Type 0
Fits (WriteQuadlet h offset value) = HeadFits h × (offset < 2 ^ 48) × (value < 2 ^ 32)
Fits (WriteBlock h offset bytes) = HeadFits h × (offset < 2 ^ 48) × (length bytes ≤ 512) × AreBytes bytes
Fits (WriteReply h rcode) = HeadFits h × (rcode < 2 ^ 4)
Fits (ReadQuadlet h offset) = HeadFits h × (offset < 2 ^ 48)
Fits (ReadBlock h offset len) = HeadFits h × (offset < 2 ^ 48) × (len ≤ 512)
Fits (ReadQuadletReply h rcode value) = HeadFits h × (rcode < 2 ^ 4) × (value < 2 ^ 32)
Fits (ReadBlockReply h rcode bytes) = HeadFits h × (rcode < 2 ^ 4) × (length bytes ≤ 512) × AreBytes bytes
Fits (CycleStart h offset time) = HeadFits h × (offset < 2 ^ 48) × (time < 2 ^ 32)
Fits (Lock h offset function bytes) = HeadFits h × (offset < 2 ^ 48) × (0 < function) × (function < 8) × IsTrue (is_lock_size function (length bytes)) × AreBytes bytes
Fits (LockReply h rcode function bytes) = HeadFits h × (rcode < 2 ^ 4) × (0 < function) × (function < 8) × IsTrue (is_reply_size (length bytes)) × AreBytes bytes
