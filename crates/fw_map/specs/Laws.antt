-- What self-ID packets tell: the law that a function of this crate promises.
use Rattle.std.specs.Prelude.{◌≡◌, ℕ, Some, length}
use Rattle.fw_log_entry.specs.declared.entry.ResetEntry.{ResetEntry}
use Rattle.fw_tree.specs.declared.numbering.Numbering.{Numbering}
use Rattle.fw_tree.specs.Numbers.{number_at}
use Rattle.fw_tree.specs.Numbering.{IsNumbering}
use Rattle.fw_tree.specs.SelfIds.{ArePackets}
use Rattle.fw_tree.specs.Topology.{Topology, Made}
use Rattle.fw_map.specs.declared.tree.Tree.{Tree}
use Rattle.fw_map.specs.Trees.{HasPackets}
use Rattle.fw_map.specs.Identified.{IsTreeOf}

-- for each cabling with a device, the tree that identifying it finds has the self-ID packets of the cabling
abbrev pub SelfIdsTellTheTree : Type 0
SelfIdsTellTheTree =
    (p : Topology) (n : Numbering) (i : ℕ) (e : ResetEntry) → Made p → IsNumbering p n
    → ArePackets p.devices p.cables n.number n.parent_port i n.count e.ids → length e.nodes ≡ n.count
    → number_at n.number n.root ≡ Some e.root → (t : Tree) × IsTreeOf p n t × HasPackets e t
