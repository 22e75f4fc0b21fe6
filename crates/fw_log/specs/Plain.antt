-- Bodies that are right at the first look.
use Rattle.std.specs.Prelude.{◌≡◌, ℕ, zero, suc, ◌+◌, ◌*◌, ◌≤◌, ◌==◌, ◌||◌, ◌&&◌, nat_lt}
use Rattle.std.specs.Prelude.{List, ◌∷◌, Bool, Option, Some, None, drop, length, IsTrue}
use Rattle.fw_words.specs.Quadlet.{field}
use Rattle.fw_phy.specs.Phy.{Fits as PhyFits, quadlet_of}
use Rattle.fw_phy.specs.declared.packet.PhyPacket.{PhyPacket}
use Rattle.fw_log_entry.specs.Log.{are_ids, ResetFits, body}
use Rattle.fw_log_entry.specs.declared.entry.Entry.TheVariants.{Reset}
use Rattle.fw_log_entry.specs.declared.entry.ResetEntry.{ResetEntry}
use Rattle.fw_log.specs.Bodies.{AreIds}
use Rattle.fw_log.specs.declared.plain_reset.Turn.{Turn}

-- the number of the node's further packet that comes next, after so many packets
abbrev pub next_by : ℕ → Option ℕ
next_by zero = None
next_by (suc n) = Some n

-- The quadlet is that of the self-ID packet that comes next, and then comes another.
pub record GoesOnBy (q : ℕ) (turn next : Turn) : Type 0 where
  pub packet : PhyPacket
  pub fits : PhyFits packet
  pub same : quadlet_of packet ≡ q
  pub goes : (ps : List PhyPacket) (n : ℕ) → are_ids turn.node (next_by turn.met) (packet ∷ ps) n ≡ are_ids next.node (next_by next.met) ps n
  pub few : 4 * turn.node + turn.met + 1 ≤ 4 * next.node + next.met

-- the bytes are the self-ID packets of so many nodes
pub record AreIdsOf (count : ℕ) (bytes : List ℕ) : Type 0 where
  pub ids : List PhyPacket
  pub are : AreIds ids bytes
  pub few : length ids ≤ 252
  pub order : IsTrue (are_ids 0 None ids count)

-- root, manager, if any, and initiator are nodes
abbrev pub are_of_nodes : ℕ → ℕ → Bool
are_of_nodes q count =
    nat_lt (field q 0 7) count && ((field q 8 15 == 255) || nat_lt (field q 8 15) count) && nat_lt (field q 16 23) count

-- the bytes are the body of some reset
pub record IsReset (bytes : List ℕ) : Type 0 where
  pub reset : ResetEntry
  pub fits : ResetFits reset
  pub same : body (Reset reset) ≡ bytes

-- after the epoch, of four bytes, the body of some reset is these bytes
pub record EndsReset (later : List ℕ) : Type 0 where
  pub reset : ResetEntry
  pub fits : ResetFits reset
  pub same : drop 4 (body (Reset reset)) ≡ later
