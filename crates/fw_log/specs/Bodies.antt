-- What a body is: an entry of its kind, or why it is none.
use Rattle.std.specs.Prelude.{◌≡◌, ℕ, zero, suc, ◌+◌, ◌*◌, ◌≤◌, ◌==◌, ◌&&◌, nat_le, List, [], Bool, Option, Some, None, Result, Ok, Err, length, drop, if◌then◌else◌, flat_map, IsTrue}
use Rattle.std.specs.List.{All}
use Rattle.fw_words.specs.Quadlet.{field, quadlet_at}
use Rattle.fw_phy.specs.Phy.{phy_fault, Fits as PhyFits, spelling as phy_spelling}
use Rattle.fw_phy.specs.declared.packet.PhyPacket.{PhyPacket}
use Rattle.fw_phy.specs.declared.PhyFault.{PhyFault}
use Rattle.fw_async.specs.Reader as Packets
use Rattle.fw_cip.specs.Iso.{iso_fault}
use Rattle.fw_async_fields.specs.declared.PacketFault.{PacketFault}
use Rattle.fw_async.specs.declared.packet.Packet.{Packet as AsyncPacket}
use Rattle.fw_log_entry.specs.Log.{Fits, ResetFits, kind_of, body}
use Rattle.fw_log_entry.specs.declared.codes.kind.TheConstants as Kinds
use Rattle.fw_log_entry.specs.declared.entry.Entry.{Entry}
use Rattle.fw_log_entry.specs.declared.entry.Entry.TheVariants.{Reset}
use Rattle.fw_log_entry.specs.declared.entry.ResetEntry.{ResetEntry}
use Rattle.fw_log.specs.declared.BodyFault.{BodyFault}
use Rattle.fw_log.specs.declared.BodyFault.TheVariants.{Phy, Packet, Iso, Fields}

-- the body of an entry
pub record IsBody (k : ℕ) (bytes : List ℕ) (e : Entry) : Type 0 where
  pub fits : Fits e
  pub kind : kind_of e ≡ k
  pub same : body e ≡ bytes

-- The reader of packets refuses the body at one of its bytes.
pub record PacketRefuses (bytes : List ℕ) (f : PacketFault) : Type 0 where
  pub at : ℕ
  pub shown : Packets.ShowsFault [] bytes at f

-- how many nodes the body of a reset names
abbrev pub count_of : List ℕ → ℕ
count_of bytes = field (quadlet_at bytes 4) 24 31

-- where the self-ID packets begin in the body of a reset
abbrev pub ids_at : List ℕ → ℕ
ids_at bytes = 8 + 4 * count_of bytes

-- The nodes are 1 to 63, and their quadlets are there.
abbrev pub has_nodes : List ℕ → Bool
has_nodes bytes = nat_le 1 (count_of bytes) && nat_le (count_of bytes) 63 && nat_le (ids_at bytes) (length bytes)

-- the first of two
abbrev pub or_else : Option PhyFault → Option PhyFault → Option PhyFault
or_else None y = y
or_else (Some x) y = Some x

-- the first refusal of bytes that are read eight at a time, at most n times
abbrev pub refusal : ℕ → List ℕ → Option PhyFault
refusal zero bytes = None
refusal (suc n) bytes = if length bytes == 0 then None else or_else (phy_fault bytes) (refusal n (drop 8 bytes))

-- The reader of PHY packets refuses what stands after the nodes.
pub record PhyRefuses (bytes : List ℕ) (f : PhyFault) : Type 0 where
  pub nodes : IsTrue (has_nodes bytes)
  pub here : refusal (length (drop (ids_at bytes) bytes)) (drop (ids_at bytes) bytes) ≡ Some f

-- a lower reader refuses
abbrev pub Refuses : ℕ → List ℕ → BodyFault → Type 0
Refuses kind bytes (Phy f) = (kind ≡ Kinds.RESET) × PhyRefuses bytes f
Refuses kind bytes (Packet f) = (kind ≡ Kinds.ASYNC) × PacketRefuses bytes f
Refuses kind bytes (Iso f) = (kind ≡ Kinds.ISO) × (iso_fault bytes ≡ Some f)
Refuses kind bytes Fields = ⊥

-- A lower fault if a lower reader refuses, and Fields if none does and the body is of no entry of its kind.
abbrev pub BodyRefused : ℕ → List ℕ → BodyFault → Type 0
BodyRefused kind bytes (Phy f) = Refuses kind bytes (Phy f)
BodyRefused kind bytes (Packet f) = Refuses kind bytes (Packet f)
BodyRefused kind bytes (Iso f) = Refuses kind bytes (Iso f)
BodyRefused kind bytes Fields = ((e : Entry) → IsBody kind bytes e → ⊥) × ((g : BodyFault) → Refuses kind bytes g → ⊥)

-- the self-ID packets, eight bytes each
pub record AreIds (ids : List PhyPacket) (bytes : List ℕ) : Type 0 where
  pub fits : All PhyFits ids
  pub same : flat_map phy_spelling ids ≡ bytes

-- the packets that the bytes are, the first refusal, or that they are too many
abbrev pub IdsJudges : List ℕ → Result (List PhyPacket) BodyFault → Type 0
IdsJudges bytes (Ok ids) = AreIds ids bytes × (length ids ≤ 252)
IdsJudges bytes (Err (Phy f)) = refusal (length bytes) bytes ≡ Some f
IdsJudges bytes (Err (Packet f)) = ⊥
IdsJudges bytes (Err (Iso f)) = ⊥
IdsJudges bytes (Err Fields) = (refusal (length bytes) bytes ≡ None) × ((ids : List PhyPacket) → length ids ≤ 252 → AreIds ids bytes → ⊥)

-- a reset that the body is, or why it is none
abbrev pub ResetJudges : List ℕ → Result ResetEntry BodyFault → Type 0
ResetJudges bytes (Ok r) = ResetFits r × (body (Reset r) ≡ bytes)
ResetJudges bytes (Err g) = BodyRefused Kinds.RESET bytes g

-- a packet that the body is, or why it is none
abbrev pub PacketJudges : List ℕ → Result AsyncPacket BodyFault → Type 0
PacketJudges bytes (Ok p) = Packets.Spells p bytes
PacketJudges bytes (Err g) = BodyRefused Kinds.ASYNC bytes g

-- an entry that the body is, or why it is none
abbrev pub BodyJudges : ℕ → List ℕ → Result Entry BodyFault → Type 0
BodyJudges kind bytes (Ok e) = IsBody kind bytes e
BodyJudges kind bytes (Err g) = BodyRefused kind bytes g
