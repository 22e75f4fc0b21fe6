-- Which devices a reset entry says are on the bus, under which numbers, and how fast they are.
use Rattle.fw_log_entry.specs.declared.entry.ResetEntry.{ResetEntry}
use Rattle.fw_log_entry.specs.declared.nodes.NodeRow.{NodeRow}
use Rattle.fw_phy.specs.declared.packet.PhyPacket.{PhyPacket}
use Rattle.fw_phy.specs.declared.packet.PhyPacket.TheVariants.{SelfId, SelfIdMore, Config, LinkOn}
use Rattle.std.specs.Prelude.{◌≡◌, ℕ, ◌-◌, ◌<◌, ◌≤◌, ◌==◌, nat_le, if◌then◌else◌, Option, Some, None, List, [], ◌∷◌, slice_get, option_map}
use Rattle.std.specs.List.{position_or_len}

-- node n of the local bus has the node ID FFC0 + n (IEEE 1394-1995, node_ID)
abbrev pub first_id : ℕ
first_id = 0xffc0

-- the row of the node with this number
abbrev pub row_of_node : Option ResetEntry → ℕ → Option NodeRow
row_of_node None n = None
row_of_node (Some r) n = slice_get r.nodes n

-- the row of the node with this node ID
abbrev pub row_of_id : Option ResetEntry → ℕ → Option NodeRow
row_of_id latest id = if nat_le first_id id then row_of_node latest (id - first_id) else None

-- the device that has this node ID
abbrev pub device_of_id : Option ResetEntry → ℕ → Option ℕ
device_of_id latest id = option_map (λ (row : NodeRow). row.device) (row_of_id latest id)

-- sp of the self-ID packet zero of node n (IEEE 1394-1995, self-ID packets)
abbrev pub speed_of : ℕ → List PhyPacket → ℕ
speed_of n [] = 0
speed_of n (SelfId s ∷ ps) = if s.phy == n then s.speed else speed_of n ps
speed_of n (SelfIdMore s ∷ ps) = speed_of n ps
speed_of n (Config root force_root set_gap gap ∷ ps) = speed_of n ps
speed_of n (LinkOn phy ∷ ps) = speed_of n ps

-- the number of the node that a device is, or how many nodes there are
abbrev pub node_of_device : List NodeRow → ℕ → ℕ
node_of_device rows d = position_or_len (λ (row : NodeRow). row.device == d) rows

-- devices have numbers below 63, and their plugs numbers below 31
abbrev pub HasRange : Option ResetEntry → Type 0
HasRange latest = (n : ℕ) (row : NodeRow) → row_of_node latest n ≡ Some row → (row.device < 63) × (row.outs ≤ 31) × (row.ins ≤ 31)

-- the numbers of a reset entry are in range, and each speed fits a plug register
pub record IsNetwork (r : ResetEntry) : Type 0 where
  pub range : HasRange (Some r)
  pub speeds : (n : ℕ) → speed_of n r.ids < 4
