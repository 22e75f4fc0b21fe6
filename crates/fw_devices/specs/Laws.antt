-- What holds of every bus of devices: laws that the functions of this crate promise.
use Rattle.std.specs.Prelude.{◌≡◌, ◌↔◌, ◌<◌, ◌^◌, ℕ, List, length}
use Rattle.fw_terms.specs.declared.device.DeviceKind.{DeviceKind}
use Rattle.fw_terms.specs.declared.device.DeviceKind.TheVariants.{Deck}
use Rattle.fw_log_entry.specs.Log.{ResetFits}
use Rattle.fw_log_entry.specs.declared.entry.ResetEntry.{ResetEntry}
use Rattle.fw_tree.specs.declared.facts.End.{End}
use Rattle.fw_tree.specs.Cables.{IsOnBus}
use Rattle.fw_tree.specs.Topology.{Topology, Made, IsJoined}
use Rattle.fw_devices.specs.Network.{AreKinds, kind_at}
use Rattle.fw_devices.specs.Entries.{IsResetEntry, lone_deck}
use Rattle.fw_devices.specs.Resets.{Shows}

-- the entry of a bus reset shows exactly the devices of the bus with their numbers, kinds and speeds
abbrev pub ResetEntriesShowTheBus : Type 0
ResetEntriesShowTheBus =
    (t : Topology) (kinds : List DeviceKind) (epoch initiator : ℕ) (e : ResetEntry) → Made t → AreKinds t.devices kinds
    → IsResetEntry t kinds epoch initiator e → Shows t kinds e

-- the entry of a bus reset is in the grammar of the log
abbrev pub ResetEntriesFitTheLog : Type 0
ResetEntriesFitTheLog =
    (t : Topology) (kinds : List DeviceKind) (epoch initiator : ℕ) (e : ResetEntry) → Made t → AreKinds t.devices kinds
    → epoch < 2 ^ 32 → IsResetEntry t kinds epoch initiator e → ResetFits e

-- the entry of a bus of one deck has that deck as its one node, root and resource manager
abbrev pub LoneDeckIsRootAndManager : Type 0
LoneDeckIsRootAndManager =
    (t : Topology) (kinds : List DeviceKind) (epoch initiator : ℕ) (e : ResetEntry) → Made t → AreKinds t.devices kinds
    → length t.devices ≡ 1 → kind_at kinds 0 ≡ Deck → IsResetEntry t kinds epoch initiator e → e ≡ lone_deck epoch e.ids

-- the devices of the bus are declared
abbrev pub BusDevicesAreDeclared : Type 0
BusDevicesAreDeclared = (t : Topology) → Made t → 0 < length t.devices → (d : ℕ) → IsOnBus t.cables d → d < length t.devices

-- a cable takes no device off the bus
abbrev pub CablesTakeNoDeviceOff : Type 0
CablesTakeNoDeviceOff =
    (p q : Topology) (a b : End) → IsJoined p q a b → Made p → (d : ℕ) → IsOnBus p.cables d → IsOnBus q.cables d

-- a cable from a device of the bus takes what is at its second end onto the bus
abbrev pub CablesReachTheirSecondEnd : Type 0
CablesReachTheirSecondEnd =
    (p q : Topology) (a b : End) → IsJoined p q a b → Made p → IsOnBus p.cables a.device → IsOnBus q.cables b.device

-- a cable between two devices that are off leaves the bus as it was
abbrev pub CablesApartLeaveTheBus : Type 0
CablesApartLeaveTheBus =
    (p q : Topology) (a b : End) → IsJoined p q a b → Made p → (IsOnBus p.cables a.device → ⊥) → (IsOnBus p.cables b.device → ⊥)
    → (d : ℕ) → IsOnBus q.cables d ↔ IsOnBus p.cables d
