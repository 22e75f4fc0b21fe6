-- PHY packets (IEEE 1394-1995, PHY packets): one quadlet, and its logical inverse.
use Rattle.std.specs.Prelude.{◌≡◌, ℕ, ◌+◌, ◌-◌, ◌/◌, ◌^◌, ◌≤◌, ◌<◌, ◌==◌, nat_le, nat_lt, List, [], ◌∷◌, ◌++◌, Bool, Option, Some, None, length, slice_index, if◌then◌else◌}
use Rattle.std.specs.Int.{to_be_bytes, w32}
use Rattle.std.specs.Option.{option_map}
use Rattle.fw_words.specs.Quadlet.{field, first_set, quadlet_at}
use Rattle.fw_words.specs.Layout.{packed, FitWidths}
use Rattle.fw_phy.specs.declared.PhyFault.{PhyFault}
use Rattle.fw_phy.specs.declared.PhyFault.TheVariants.{Short, NotInverse, Reserved}
use Rattle.fw_phy.specs.declared.packet.PhyPacket.{PhyPacket}
use Rattle.fw_phy.specs.declared.packet.PhyPacket.TheVariants.{SelfId, SelfIdMore, Config, LinkOn}

-- a flag as a field of one bit
abbrev pub bit : Bool → ℕ
bit b = if b then 1 else 0

-- the fields of the first quadlet, from bit 0 on
abbrev pub layout : PhyPacket → List (ℕ × ℕ)
layout (SelfId s) = (2, 2) ∷ (6, s.phy) ∷ (1, 0) ∷ (1, bit s.link) ∷ (6, s.gap) ∷ (2, s.speed) ∷ (2, s.delay) ∷ (1, bit s.contender) ∷ (3, s.power)
    ∷ (2, slice_index s.ports 0) ∷ (2, slice_index s.ports 1) ∷ (2, slice_index s.ports 2) ∷ (1, bit s.initiator) ∷ (1, bit s.more) ∷ []
layout (SelfIdMore s) = (2, 2) ∷ (6, s.phy) ∷ (1, 1) ∷ (3, s.number) ∷ (2, 0)
    ∷ (2, slice_index s.ports 0) ∷ (2, slice_index s.ports 1) ∷ (2, slice_index s.ports 2) ∷ (2, slice_index s.ports 3)
    ∷ (2, slice_index s.ports 4) ∷ (2, slice_index s.ports 5) ∷ (2, slice_index s.ports 6) ∷ (2, slice_index s.ports 7) ∷ (1, 0) ∷ (1, bit s.more) ∷ []
layout (Config root force_root set_gap gap) = (2, 0) ∷ (6, root) ∷ (1, bit force_root) ∷ (1, bit set_gap) ∷ (6, gap) ∷ (16, 0) ∷ []
layout (LinkOn phy) = (2, 1) ∷ (6, phy) ∷ (24, 0) ∷ []

-- the packet after a bus reset that the node began
abbrev pub begun_by : ℕ → PhyPacket → PhyPacket
begun_by phy (SelfId s) = SelfId (record s { initiator = s.phy == phy })
begun_by phy (SelfIdMore s) = SelfIdMore s
begun_by phy (Config root force_root set_gap gap) = Config root force_root set_gap gap
begun_by phy (LinkOn node) = LinkOn node

-- as many ports as the packet has, and a number of 0, 1 or 2
abbrev pub HasShape : PhyPacket → Type 0
HasShape (SelfId s) = length s.ports ≡ 3
HasShape (SelfIdMore s) = (length s.ports ≡ 8) × (s.number ≤ 2)
HasShape (Config root force_root set_gap gap) = Unit {0}
HasShape (LinkOn phy) = Unit {0}

-- the packet has a spelling
pub record Fits (p : PhyPacket) : Type 0 where
  pub fields : FitWidths (layout p)
  pub shape : HasShape p

-- the quadlet of a packet
abbrev pub quadlet_of : PhyPacket → ℕ
quadlet_of p = packed (layout p) 0

-- a quadlet and its inverse
abbrev pub twice : ℕ → List ℕ
twice q = to_be_bytes w32 q ++ to_be_bytes w32 (2 ^ 32 - 1 - q)

-- the eight bytes of a packet
abbrev pub spelling : PhyPacket → List ℕ
spelling p = twice (quadlet_of p)

-- the first bit at which no packet goes on, if the quadlet is none
abbrev pub reserved_bit : ℕ → Option ℕ
reserved_bit q =
    if field q 0 1 == 3 then Some 1
    else if field q 0 1 == 0 then first_set q 16 16
    else if field q 0 1 == 1 then first_set q 8 24
    else if field q 8 8 == 0 then None
    else if nat_le 4 (field q 9 11) then Some 9
    else if field q 9 11 == 3 then Some 11
    else if field q 12 12 == 1 then Some 12
    else if field q 13 13 == 1 then Some 13
    else if field q 30 30 == 1 then Some 30
    else None

-- the first n bits of a quadlet
abbrev pub prefix : ℕ → ℕ → ℕ
prefix q n = q / 2 ^ (32 - n)

-- some packet's quadlet begins with the first n bits of this one
pub record GoesOn (q n : ℕ) : Type 0 where
  pub packet : PhyPacket
  pub fits : Fits packet
  pub alike : prefix (quadlet_of packet) n ≡ prefix q n

-- some packet begins with the bits before this one, and none with this one too
pub record StopsAt (q at : ℕ) : Type 0 where
  pub within : at < 32
  pub before : GoesOn q at
  pub stops : GoesOn q (at + 1) → ⊥

-- eight bytes are there, and the second quadlet is the inverse of the first
pub record IsTwice (bytes : List ℕ) : Type 0 where
  pub enough : 8 ≤ length bytes
  pub inverse : quadlet_at bytes 4 ≡ 2 ^ 32 - 1 - quadlet_at bytes 0

-- the first fault that holds of the bytes
abbrev pub phy_fault : List ℕ → Option PhyFault
phy_fault bytes =
    if nat_lt (length bytes) 8 then Some Short
    else if quadlet_at bytes 4 == 2 ^ 32 - 1 - quadlet_at bytes 0 then option_map Reserved (reserved_bit (quadlet_at bytes 0))
    else Some NotInverse
