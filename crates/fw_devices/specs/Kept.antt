-- What is kept of a network between bus resets.
use Rattle.std.specs.Prelude.{◌≡◌, ℕ, ◌≤◌, Bool, true, Option, Some, List, length, slice_get}
use Rattle.fw_terms.specs.declared.device.DeviceKind.{DeviceKind}
use Rattle.fw_log_entry.specs.declared.entry.ResetEntry.{ResetEntry}
use Rattle.fw_tree.specs.declared.numbering.Numbering.{Numbering}
use Rattle.fw_tree.specs.Numbering.{IsNumbering, IsManager}
use Rattle.fw_tree.specs.Numbers.{number_at}
use Rattle.fw_tree.specs.SelfIds.{ArePackets}
use Rattle.fw_tree.specs.Topology.{Topology}
use Rattle.fw_devices.specs.Network.{Network, IsNetwork, kinds_of, kind_at}
use Rattle.fw_devices.specs.Entries.{row_of, number_of}

-- The numbering and the manager are those of the cabling's tree, and the entry shows them; some device began its bus reset.
pub record IsFound (t : Topology) (kinds : List DeviceKind) (numbering : Numbering) (manager : Option ℕ) (e : ResetEntry) : Type 0 where
  pub numbered : IsNumbering t numbering
  pub manages : IsManager t.devices numbering.number manager
  pub root : number_at numbering.number numbering.root ≡ Some e.root
  pub manager_is : e.manager ≡ number_of numbering.number manager
  pub size : length e.nodes ≡ numbering.count
  pub rows : (d n : ℕ) → number_at numbering.number d ≡ Some n → slice_get e.nodes n ≡ Some (row_of d (kind_at kinds d))
  pub initiator : ℕ
  pub ids : ArePackets t.devices t.cables numbering.number numbering.parent_port initiator numbering.count e.ids

-- what is true of the fields of a network, of which there is room for 63 devices; what was found of it counts if it is current
pub record IsKept (n : Network) (nodes_capacity : ℕ) (current : Bool) (numbering : Numbering) : Type 0 where
  pub network : IsNetwork n
  pub few : length n.names ≤ 63
  pub same : length n.nodes ≡ length n.names
  pub nodes_room : 63 ≤ nodes_capacity
  pub found : current ≡ true → IsFound n.topology (kinds_of n.nodes) numbering n.manager n.latest
