-- The entry of a bus reset: the network as tree identification and self-identification see it (IEEE 1394-1995).
use Rattle.std.specs.Prelude.{◌≡◌, ℕ, ◌+◌, map, ◌==◌, nat_lt, List, [], ◌∷◌, Bool, false, Option, Some, None, length, slice_get, if◌then◌else◌}
use Rattle.std.specs.Option.{option_map}
use Rattle.fw_terms.specs.declared.device.DeviceKind.{DeviceKind}
use Rattle.fw_terms.specs.declared.device.DeviceKind.TheVariants.{Deck}
use Rattle.fw_terms.specs.Devices.{code_of, output_plugs_of, input_plugs_of}
use Rattle.fw_phy.specs.declared.packet.PhyPacket.{PhyPacket}
use Rattle.fw_phy.specs.Phy.{begun_by}
use Rattle.fw_log_entry.specs.declared.entry.ResetEntry.{ResetEntry}
use Rattle.fw_log_entry.specs.declared.nodes.NodeRow.{NodeRow}
use Rattle.fw_tree.specs.declared.numbering.Numbering.{Numbering}
use Rattle.fw_tree.specs.Numbering.{IsNumbering, IsManager}
use Rattle.fw_tree.specs.Numbers.{number_at}
use Rattle.fw_tree.specs.SelfIds.{ArePackets}
use Rattle.fw_tree.specs.Topology.{Topology}
use Rattle.fw_log_entry.specs.Network.{node_of_device}
use Rattle.fw_devices.specs.Network.{kind_at}

-- what an entry says of a node: its device, that device's plugs, and its kind
abbrev pub row_of : ℕ → DeviceKind → NodeRow
row_of d kind = record { device = d; outs = output_plugs_of kind; ins = input_plugs_of kind; kind = code_of kind }

-- the node number of a device, if there is one
abbrev pub number_of : List (Option ℕ) → Option ℕ → Option ℕ
number_of number None = None
number_of number (Some d) = number_at number d

-- the entry of the next bus reset, which a node begins, if nothing else has changed
abbrev pub begun : ℕ → ResetEntry → ResetEntry
begun node e = record e { epoch = e.epoch + 1; initiator = node; ids = map (begun_by node) e.ids }

-- The entry of the bus reset with this epoch that a device began: the numbers of the cabling's tree, the resource manager,
-- a row for each node, and the self-ID packets.
pub record IsResetEntry (t : Topology) (kinds : List DeviceKind) (epoch initiator : ℕ) (e : ResetEntry) : Type 0 where
  pub numbering : Numbering
  pub numbered : IsNumbering t numbering
  pub manager : Option ℕ
  pub manages : IsManager t.devices numbering.number manager
  pub epoch_is : e.epoch ≡ epoch
  pub root : number_at numbering.number numbering.root ≡ Some e.root
  pub manager_is : e.manager ≡ number_of numbering.number manager
  pub began : number_at numbering.number initiator ≡ Some e.initiator
  pub size : length e.nodes ≡ numbering.count
  pub rows : (d n : ℕ) → number_at numbering.number d ≡ Some n → slice_get e.nodes n ≡ Some (row_of d (kind_at kinds d))
  pub ids : ArePackets t.devices t.cables numbering.number numbering.parent_port initiator numbering.count e.ids

-- the number of the node that a device is by an entry, if it is one
abbrev pub node_number : List NodeRow → ℕ → Option ℕ
node_number rows d = let n = node_of_device rows d in if nat_lt n (length rows) then Some n else None

-- the device that a node is by an entry
abbrev pub node_device : List NodeRow → ℕ → Option ℕ
node_device rows n = option_map (λ (r : NodeRow). r.device) (slice_get rows n)

-- the node is the resource manager
abbrev pub is_number : Option ℕ → ℕ → Bool
is_number None n = false
is_number (Some m) n = m == n

-- the device that is the resource manager by an entry
abbrev pub device_of : List NodeRow → Option ℕ → Option ℕ
device_of rows None = None
device_of rows (Some n) = node_device rows n

-- the entry of a bus of one deck, which is its only node, root, resource manager and initiator
abbrev pub lone_deck : ℕ → List PhyPacket → ResetEntry
lone_deck epoch ids = record { epoch = epoch; root = 0; manager = Some 0; initiator = 0; nodes = row_of 0 Deck ∷ []; ids = ids }
