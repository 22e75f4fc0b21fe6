-- The devices that are declared, their cabling, and the node that each is.
use Rattle.std.specs.Prelude.{◌≡◌, ℕ, ◌<◌, ◌==◌, nat_lt, List, [], ◌∷◌, ◌++◌, Bool, true, false, ◌&&◌, Option, Some, None, is_some, length, map, slice_index_or, if◌then◌else◌}
use Rattle.std.specs.List.{position_or_len}
use Rattle.fw_terms.specs.declared.device.DeviceKind.{DeviceKind}
use Rattle.fw_terms.specs.declared.device.DeviceKind.TheVariants.{Relay}
use Rattle.fw_terms.specs.Devices.{has_link, is_contender}
use Rattle.fw_log_entry.specs.declared.entry.ResetEntry.{ResetEntry}
use Rattle.fw_tree.specs.declared.facts.PhyFacts.{PhyFacts}
use Rattle.fw_tree.specs.Topology.{Topology, Made, no_cables}
use Rattle.fw_tree.specs.SelfIds.{facts_at}
use Rattle.fw_node.specs.State.{NodeState, first_state}

-- The lists are by device, in order of declaration.
pub record Network : Type 0 where
  pub topology : Topology
  pub names : List (List ℕ)
  pub nodes : List NodeState
  pub epoch : ℕ  -- of the latest bus reset, 0 before the first
  pub manager : Option ℕ  -- the device that is the isochronous resource manager since the latest bus reset
  pub latest : ResetEntry  -- the entry of the latest bus reset
  pub withheld : Bool  -- whether the bus withholds channel 31

-- if no bus reset came yet
abbrev pub no_entry : ResetEntry
no_entry = record { epoch = 0; root = 0; manager = None; initiator = 0; nodes = []; ids = [] }

-- no device is declared
abbrev pub no_devices : Network
no_devices = record { topology = record { devices = []; cables = no_cables }; names = []; nodes = []; epoch = 0; manager = None; latest = no_entry; withheld = false }

-- the kind of each device
abbrev pub kinds_of : List NodeState → List DeviceKind
kinds_of nodes = map (λ (n : NodeState). n.kind) nodes

-- the kind of a device
abbrev pub kind_at : List DeviceKind → ℕ → DeviceKind
kind_at kinds d = slice_index_or kinds d Relay

-- what the PHY of a device of this kind says
abbrev pub facts_of : DeviceKind → ℕ → ℕ → PhyFacts
facts_of kind ports speed = record { ports = ports; speed = speed; link = has_link kind; contender = is_contender kind }

-- each device's PHY says what its kind has
pub record AreKinds (devices : List PhyFacts) (kinds : List DeviceKind) : Type 0 where
  pub size : length kinds ≡ length devices
  pub link : (d : ℕ) → d < length devices → (facts_at devices d).link ≡ has_link (kind_at kinds d)
  pub contender : (d : ℕ) → d < length devices → (facts_at devices d).contender ≡ is_contender (kind_at kinds d)

-- the device with a name, the first of that name
abbrev pub same_bytes : List ℕ → List ℕ → Bool
same_bytes [] [] = true
same_bytes [] (y ∷ ys) = false
same_bytes (x ∷ xs) [] = false
same_bytes (x ∷ xs) (y ∷ ys) = (x == y) && same_bytes xs ys

-- the number of the device with a name, or none
abbrev pub device_named : List (List ℕ) → List ℕ → Option ℕ
device_named names name = let d = position_or_len (same_bytes name) names in if nat_lt d (length names) then Some d else None

-- a device more, which has no cable and is no node yet
abbrev pub with_device : Network → List ℕ → DeviceKind → ℕ → ℕ → Network
with_device n name kind ports speed = record n {
  topology = record { devices = n.topology.devices ++ facts_of kind ports speed ∷ []; cables = n.topology.cables };
  names = n.names ++ name ∷ [];
  nodes = n.nodes ++ first_state kind (length n.names) speed n.withheld ∷ [];
}

-- what is kept of a device
abbrev pub node_at : List NodeState → ℕ → NodeState
node_at nodes d = slice_index_or nodes d (first_state Relay 0 0 false)

-- what is true of each network: the lists are of the same devices
pub record IsNetwork (n : Network) : Type 0 where
  pub made : Made n.topology
  pub names : length n.names ≡ length n.topology.devices
  pub kinds : AreKinds n.topology.devices (kinds_of n.nodes)
  pub numbers : (d : ℕ) → d < length n.nodes → (node_at n.nodes d).device ≡ d
  pub rates : (d : ℕ) → d < length n.nodes → (node_at n.nodes d).plugs.rate ≡ (facts_at n.topology.devices d).speed
  pub withhold : (d : ℕ) → d < length n.nodes → (node_at n.nodes d).withheld ≡ n.withheld

-- the device is a node since the latest bus reset
abbrev pub is_node : List NodeState → ℕ → Bool
is_node nodes d = nat_lt d (length nodes) && is_some (node_at nodes d).number
