-- A stream: what one output plug sends on its channel, and what a listener makes of it (IEC 61883-1, DBC).
use Rattle.std.specs.Prelude.{◌≡◌, ℕ, ◌+◌, ◌%◌, ◌==◌, Bool, false, List, [], ◌∷◌, ◌++◌, Option, Some, None, if◌then◌else◌}
use Rattle.std.specs.Option.{is_some}
use Rattle.fw_words.specs.Layout.{packed}
use Rattle.fw_cip.specs.declared.packet.IsoPacket.{IsoPacket}
use Rattle.fw_cip.specs.declared.listener.Heard.{Heard}
use Rattle.fw_cip.specs.declared.listener.Heard.TheVariants.{Block, Empty, Gap}
use Rattle.fw_cip.specs.Iso.{bit}

-- What a talker keeps: its channel, and the DBC of its next packet.
pub record Stream : Type 0 where
  pub channel : ℕ
  pub dbc : ℕ

-- The talker has sent this many blocks since it began.
abbrev pub HasSent : ℕ → Stream → Type 0
HasSent blocks s = s.dbc ≡ blocks % 256

-- how many blocks a packet has
abbrev pub count_of : Option (List ℕ) → ℕ
count_of None = 0
count_of (Some block) = 1

-- FDF: the 50/60 flag, STYPE, two zeros, and an SYT without information
abbrev pub fdf_of : Bool → ℕ
fdf_of fifty = packed ((1, bit fifty) ∷ (5, 0) ∷ (2, 0) ∷ (16, 65535) ∷ []) 0

-- the packet of a stream with this DBC: data blocks of 120 quadlets, FMT 0
abbrev pub packet_with : ℕ → ℕ → ℕ → Bool → Option (List ℕ) → IsoPacket
packet_with channel dbc sid fifty block =
    record {
      channel = channel;
      sy = 0;
      cip = record { sid = sid; dbs = 120; fraction = 0; qpc = 0; sph = false; dbc = dbc; fmt = 0; fdf = fdf_of fifty };
      block = block;
    }

-- The packet that a talker sends after this many blocks: its DBC counts them.
abbrev pub packet_after : ℕ → ℕ → ℕ → Bool → Option (List ℕ) → IsoPacket
packet_after channel blocks sid fifty block = packet_with channel (blocks % 256) sid fifty block

-- A cycle in which a talker sends: the node's number, whether the tape is of 625-50, and the block that is due, if one is.
pub record Cycle : Type 0 where
  pub sid : ℕ
  pub fifty : Bool
  pub block : Option (List ℕ)

-- the packets that a talker sends in these cycles, after this many blocks
abbrev pub stream : ℕ → ℕ → List Cycle → List IsoPacket
stream channel blocks [] = []
stream channel blocks (c ∷ cs) = packet_after channel blocks c.sid c.fifty c.block ∷ stream channel (blocks + count_of c.block) cs

-- the second, if there is no first
abbrev pub or_else : Option IsoPacket → Option IsoPacket → Option IsoPacket
or_else None other = other
or_else (Some p) other = Some p

-- the latest packet with a block
abbrev pub latest_block : List IsoPacket → Option IsoPacket
latest_block [] = None
latest_block (p ∷ ps) = or_else (latest_block ps) (if is_some p.block then Some p else None)

-- the count after a packet's block, or this one if there is no packet
abbrev pub dbc_after : ℕ → Option IsoPacket → ℕ
dbc_after first None = first
dbc_after first (Some p) = (p.cip.dbc + 1) % 256

-- The DBC that is expected after these packets: the one after the latest block, or the first packet's if none had a block.
abbrev pub expected_of : List IsoPacket → Option ℕ
expected_of [] = None
expected_of (p ∷ ps) = Some (dbc_after p.cip.dbc (latest_block (p ∷ ps)))

-- a block, or none
abbrev pub kind_of : Option (List ℕ) → Heard
kind_of None = Empty
kind_of (Some block) = Block

-- What a packet is if this DBC is expected: a gap exactly if its own is another.
abbrev pub heard : Option ℕ → IsoPacket → Heard
heard None p = kind_of p.block
heard (Some expected) p = if p.cip.dbc == expected then kind_of p.block else Gap expected p.cip.dbc

-- Each packet of these, heard after those before it, is a block or empty and no gap.
abbrev pub IsHeardWhole : List IsoPacket → Type 0
IsHeardWhole packets = (before following : List IsoPacket) (p : IsoPacket) → packets ≡ before ++ p ∷ following → heard (expected_of before) p ≡ kind_of p.block
