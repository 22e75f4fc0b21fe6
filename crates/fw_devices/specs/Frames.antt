-- What only lines and bus resets change of a network, and the nodes beside it, by the numbers of kept ones.
use Rattle.std.specs.Prelude.{ℕ, ◌≡◌, ◌<◌, ◌≤◌, List, Bool, Option, length, map, slice_index}
use Rattle.fw_log_entry.specs.declared.entry.ResetEntry.{ResetEntry}
use Rattle.fw_tree.specs.Topology.{Topology}
use Rattle.fw_node.specs.State.{NodeState}
use Rattle.fw_devices.specs.Network.{Network, IsNetwork, node_at}

-- a network without its nodes
pub record NetworkFrame : Type 0 where
  pub topology : Topology
  pub names : List (List ℕ)
  pub epoch : ℕ
  pub manager : Option ℕ
  pub latest : ResetEntry
  pub withheld : Bool

abbrev pub frame_of : Network → NetworkFrame
frame_of n = record { topology = n.topology; names = n.names; epoch = n.epoch; manager = n.manager; latest = n.latest; withheld = n.withheld }

-- there is something under each number
abbrev pub AreWithin : List ℕ → ℕ → Type 0
AreWithin numbers count = (d : ℕ) → d < length numbers → slice_index numbers d < count

-- the nodes under these numbers
abbrev pub nodes_at : List NodeState → List ℕ → List NodeState
nodes_at kept numbers = map (node_at kept) numbers

-- a network with this frame and the nodes under these numbers
pub record IsOf (from : NetworkFrame) (kept : List NodeState) (numbers : List ℕ) (n : Network) : Type 0 where
  pub network : IsNetwork n
  pub few : length n.names ≤ 63
  pub same : length n.nodes ≡ length n.names
  pub frame : frame_of n ≡ from
  pub within : AreWithin numbers (length kept)
  pub nodes : n.nodes ≡ nodes_at kept numbers
