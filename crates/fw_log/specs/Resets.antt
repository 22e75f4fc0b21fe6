-- What bytes make of a reset entry before its rules are tested.
use Rattle.std.specs.Prelude.{ℕ, ◌^◌, ◌<◌, ◌≤◌, List, Bool, false, Option, Some, None, length, IfSome}
use Rattle.std.specs.List.{All}
use Rattle.fw_phy.specs.Phy.{Fits as PhyFits}
use Rattle.fw_phy.specs.declared.packet.PhyPacket.{PhyPacket}
use Rattle.fw_log_entry.specs.Log.{are_ids}
use Rattle.fw_log_entry.specs.declared.nodes.NodeRow.{NodeRow}
use Rattle.fw_log_entry.specs.declared.entry.ResetEntry.{ResetEntry}

-- what the packets after one make of it
abbrev pub goes_on : Option (ℕ × Option ℕ) → List PhyPacket → ℕ → Bool
goes_on None ps n = false
goes_on (Some s) ps n = are_ids s.0 s.1 ps n

-- the fields of a node fit their bytes
pub record RowShape (r : NodeRow) : Type 0 where
  pub device : r.device < 256
  pub outs : r.outs < 256
  pub ins : r.ins < 256
  pub kind : r.kind < 256

-- The fields of a reset fit their bytes, and its packets are PHY packets.
pub record ResetShape (r : ResetEntry) : Type 0 where
  pub epoch : r.epoch < 2 ^ 32
  pub root : r.root < 256
  pub manager : IfSome r.manager (λ m. m < 255)
  pub initiator : r.initiator < 256
  pub some : 1 ≤ length r.nodes
  pub few : length r.nodes ≤ 63
  pub rows : All RowShape r.nodes
  pub packets : All PhyFits r.ids
  pub few_packets : length r.ids ≤ 252
