-- Isochronous packets with a CIP header (IEEE 1394-1995, isochronous data block; IEC 61883-1, two-quadlet CIP header).
use Rattle.std.specs.Prelude.{◌≡◌, ℕ, ◌+◌, ◌<◌, ◌==◌, ◌&&◌, ◌||◌, not, nat_lt, List, [], ◌∷◌, ◌++◌, Bool, Option, Some, None, IfSome, length, slice_index, if◌then◌else◌}
use Rattle.std.specs.Int.{to_be_bytes, w32}
use Rattle.fw_words.specs.Quadlet.{field, first_set, quadlet_at}
use Rattle.fw_words.specs.Layout.{packed, FitWidths}
use Rattle.fw_cip.specs.declared.IsoFault.{IsoFault}
use Rattle.fw_cip.specs.declared.IsoFault.TheVariants.{Short, NotCip, Reserved, BadSize}
use Rattle.fw_cip.specs.declared.packet.CipHeader.{CipHeader}
use Rattle.fw_cip.specs.declared.packet.IsoPacket.{IsoPacket}

-- a flag as a field of one bit
abbrev pub bit : Bool → ℕ
bit b = if b then 1 else 0

-- the bytes after the headers
abbrev pub block_bytes : Option (List ℕ) → List ℕ
block_bytes None = []
block_bytes (Some block) = block

-- data_length: the bytes after the isochronous header
abbrev pub data_length : Option (List ℕ) → ℕ
data_length None = 8
data_length (Some block) = 488

-- the isochronous header: data_length, tag, channel, tcode, sy
abbrev pub header_layout : IsoPacket → List (ℕ × ℕ)
header_layout p = (16, data_length p.block) ∷ (2, 1) ∷ (6, p.channel) ∷ (4, 10) ∷ (4, p.sy) ∷ []

-- the first CIP quadlet: 00, SID, DBS, FN, QPC, SPH, two reserved bits, DBC
abbrev pub first_layout : CipHeader → List (ℕ × ℕ)
first_layout c = (2, 0) ∷ (6, c.sid) ∷ (8, c.dbs) ∷ (2, c.fraction) ∷ (3, c.qpc) ∷ (1, bit c.sph) ∷ (2, 0) ∷ (8, c.dbc) ∷ []

-- the second CIP quadlet: 10, FMT, FDF
abbrev pub second_layout : CipHeader → List (ℕ × ℕ)
second_layout c = (2, 2) ∷ (6, c.fmt) ∷ (24, c.fdf) ∷ []

-- the bytes of three quadlets
unfoldable pub three : ℕ → ℕ → ℕ → List ℕ
three a b c = to_be_bytes w32 a ++ to_be_bytes w32 b ++ to_be_bytes w32 c

-- the three quadlets of headers
abbrev pub head_bytes : IsoPacket → List ℕ
head_bytes p = three (packed (header_layout p) 0) (packed (first_layout p.cip) 0) (packed (second_layout p.cip) 0)

-- the one list of bytes that the packet is
abbrev pub spelling : IsoPacket → List ℕ
spelling p = head_bytes p ++ block_bytes p.block

-- each element is a byte
abbrev pub AreBytes : List ℕ → Type 0
AreBytes bytes = (i : ℕ) → slice_index bytes i < 256

-- an SD-DVCR block has 480 bytes
pub record IsBlock (block : List ℕ) : Type 0 where
  pub size : length block ≡ 480
  pub bytes : AreBytes block

-- The packet has a spelling: its numbers fit their fields.
pub record Fits (p : IsoPacket) : Type 0 where
  pub header : FitWidths (header_layout p)
  pub first : FitWidths (first_layout p.cip)
  pub second : FitWidths (second_layout p.cip)
  pub block : IfSome p.block IsBlock

-- the bytes are those of some packet
pub record IsSpelled (bytes : List ℕ) : Type 0 where
  pub packet : IsoPacket
  pub fits : Fits packet
  pub same : spelling packet ≡ bytes

-- the tag, the tcode and the first two bits of the CIP quadlets are those of a CIP packet
abbrev pub is_cip : ℕ → ℕ → ℕ → Bool
is_cip header first second = (field header 16 17 == 1) && (field header 24 27 == 10) && (field first 0 1 == 0) && (field second 0 1 == 2)

-- data_length is that of a packet with a block or without one, and as many bytes are there
abbrev pub is_size : ℕ → ℕ → Bool
is_size size count = ((size == 8) || (size == 488)) && (count == size + 4)

-- the first reserved bit of the CIP header that is 1, or what follows
abbrev pub reserved_or : Option ℕ → Option IsoFault → Option IsoFault
reserved_or None rest = rest
reserved_or (Some at) rest = Some (Reserved (32 + at))

-- the first fault that holds of the bytes
abbrev pub iso_fault : List ℕ → Option IsoFault
iso_fault bytes =
    if nat_lt (length bytes) 12 then Some Short
    else if not (is_cip (quadlet_at bytes 0) (quadlet_at bytes 4) (quadlet_at bytes 8)) then Some NotCip
    else reserved_or (first_set (quadlet_at bytes 4) 22 2)
    (if is_size (field (quadlet_at bytes 0) 0 15) (length bytes) then None else Some (BadSize (field (quadlet_at bytes 0) 0 15)))
