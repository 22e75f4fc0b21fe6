-- What a bus reset makes of a network, and what its entry shows.
use Rattle.std.specs.Prelude.{◌≡◌, ◌↔◌, ℕ, ◌+◌, ◌<◌, List, Option, Some, None, is_some, IsTrue, length, slice_get}
use Rattle.fw_terms.specs.declared.device.DeviceKind.{DeviceKind}
use Rattle.fw_terms.specs.Devices.{has_link}
use Rattle.fw_log_entry.specs.declared.entry.ResetEntry.{ResetEntry}
use Rattle.fw_log_entry.specs.declared.nodes.NodeRow.{NodeRow}
use Rattle.fw_log_entry.specs.Network as Entry
use Rattle.fw_log_entry.specs.Network.{speed_of}
use Rattle.fw_tree.specs.Cables.{IsOnBus}
use Rattle.fw_tree.specs.SelfIds.{facts_at}
use Rattle.fw_tree.specs.Topology.{Topology}
use Rattle.fw_node.specs.State.{NodeState, after_reset}
use Rattle.fw_devices.specs.Network.{Network, kinds_of, kind_at, node_at}
use Rattle.fw_devices.specs.Entries.{IsResetEntry, node_number, is_number, device_of, row_of}

-- a node after a bus reset in which it has this number, and a device that is no node
abbrev pub numbered : Option ℕ → Option ℕ → NodeState → NodeState
numbered None manager n = n
numbered (Some k) manager n = after_reset k (is_number manager k) n

-- The devices of the entry are nodes by their numbers in it, and the manager among them; all else stays.
pub record IsReset (old new : Network) (initiator : ℕ) (e : ResetEntry) : Type 0 where
  pub entry : IsResetEntry old.topology (kinds_of old.nodes) (old.epoch + 1) initiator e
  pub topology : new.topology ≡ old.topology
  pub names : new.names ≡ old.names
  pub withheld : new.withheld ≡ old.withheld
  pub withhold : (d : ℕ) → d < length old.nodes → (node_at old.nodes d).withheld ≡ old.withheld  -- each node's registers
  pub epoch : new.epoch ≡ old.epoch + 1
  pub manager : new.manager ≡ device_of e.nodes e.manager
  pub size : length new.nodes ≡ length old.nodes
  pub nodes : (d : ℕ) → d < length old.nodes → node_at new.nodes d ≡ numbered (node_number e.nodes d) e.manager (node_at old.nodes d)

-- What the entry of a bus reset shows of the devices: exactly those of the bus are nodes, each under one number, with the
-- row of its kind and the speed of its PHY; and the manager is a node with a link.
pub record Shows (t : Topology) (kinds : List DeviceKind) (e : ResetEntry) : Type 0 where
  pub network : Entry.IsNetwork e
  pub declared : (n : ℕ) (row : NodeRow) → slice_get e.nodes n ≡ Some row → row.device < length t.devices
  pub rows : (n : ℕ) (row : NodeRow) → slice_get e.nodes n ≡ Some row → (row ≡ row_of row.device (kind_at kinds row.device)) × (node_number e.nodes row.device ≡ Some n)
  pub numbers : (d n : ℕ) → node_number e.nodes d ≡ Some n → slice_get e.nodes n ≡ Some (row_of d (kind_at kinds d))
  pub nodes : (d : ℕ) → d < length t.devices → IsTrue (is_some (node_number e.nodes d)) ↔ IsOnBus t.cables d
  pub speeds : (d n : ℕ) → node_number e.nodes d ≡ Some n → speed_of n e.ids ≡ (facts_at t.devices d).speed
  pub manager : (n : ℕ) → e.manager ≡ Some n → (d : ℕ) × (node_number e.nodes d ≡ Some n) × IsTrue (has_link (kind_at kinds d))
