-- The tree that has the packets of a reset entry, or the first fault, as a value: `rebuild` answers it.
use Rattle.std.specs.Prelude.{ℕ, zero, suc, ◌-◌, ◌==◌, ◌&&◌, nat_le, nat_lt, Bool, List, [], ◌∷◌, ◌++◌, length, Option, Some, None, is_some, Result, Ok, Err, if◌then◌else◌}
use Rattle.fw_phy.specs.declared.packet.PhyPacket.{PhyPacket}
use Rattle.fw_log_entry.specs.declared.entry.ResetEntry.{ResetEntry}
use Rattle.fw_log_entry.specs.Network.{speed_of}
use Rattle.fw_terms.specs.Tables.{find_to}
use Rattle.fw_tree.specs.Numbers.{counted}
use Rattle.fw_map.specs.declared.MapFault.{MapFault}
use Rattle.fw_map.specs.declared.MapWhy.{MapWhy}
use Rattle.fw_map.specs.declared.tree.Tree.{Tree}
use Rattle.fw_map.specs.Fields.{field_of, fields}
use Rattle.fw_map.specs.Faults.{branches, node_fault}

-- ---- the first fault

abbrev pub fault_at : ℕ → Option MapWhy → Option MapFault
fault_at node None = None
fault_at node (Some why) = Some (record { node = node; why = why })

abbrev pub fault_by : ResetEntry → Option ℕ → Option MapFault
fault_by e None = None
fault_by e (Some node) = fault_at node (node_fault e node)

-- the first node of which something is wrong, and what
abbrev pub fault_in : ResetEntry → Option MapFault
fault_in e = fault_by e (find_to (length e.nodes) (λ d. is_some (node_fault e d)))

-- ---- the tree

-- how many of the branches before a node are without a parent after it, but for its own: its place among them
abbrev pub place_in : List PhyPacket → ℕ → ℕ
place_in ids node = branches ids node - fields ids node 3

-- a node takes another one as a child: the first after it that leaves no branch at its place
abbrev pub takes : List PhyPacket → ℕ → ℕ → Bool
takes ids child node = nat_lt child node && nat_le (place_in ids node) (place_in ids child)

-- the parent of a node
abbrev pub parent_in : ResetEntry → ℕ → Option ℕ
parent_in e node = find_to (length e.nodes) (takes e.ids node)

-- the child port of a node after so many others
abbrev pub child_port : List PhyPacket → ℕ → ℕ → Option ℕ
child_port ids node following = find_to 27 (λ p. (field_of ids node p == 3) && (counted (λ q. field_of ids node q == 3) p == following))

abbrev pub port_by : ResetEntry → ℕ → Option ℕ → Option ℕ
port_by e node None = None
port_by e node (Some parent) = child_port e.ids parent (place_in e.ids node - place_in e.ids parent)

-- the port of its parent at which a node hangs
abbrev pub port_in : ResetEntry → ℕ → Option ℕ
port_in e node = port_by e node (parent_in e node)

-- its own port to the parent
abbrev pub own_in : ResetEntry → ℕ → Option ℕ
own_in e node = if nat_lt node (length e.nodes) then find_to 27 (λ p. field_of e.ids node p == 2) else None

-- its speed
abbrev pub speed_in : ResetEntry → ℕ → ℕ
speed_in e node = if nat_lt node (length e.nodes) then speed_of node e.ids else 0

-- a value for each number below n
unfoldable pub listed : {A : Type 0} → ℕ → (ℕ → A) → List A
listed zero f = []
listed (suc n) f = listed n f ++ f n ∷ []

-- the tree, if nothing is wrong
abbrev pub tree_of_packets : ResetEntry → Tree
tree_of_packets e = record {
  count = length e.nodes;
  parent = listed 63 (parent_in e);
  parent_port = listed 63 (port_in e);
  own_port = listed 63 (own_in e);
  sp = listed 63 (speed_in e);
}

abbrev pub rebuilt_by : ResetEntry → Option MapFault → Result Tree MapFault
rebuilt_by e None = Ok (tree_of_packets e)
rebuilt_by e (Some fault) = Err fault

-- the tree, or the first fault
abbrev pub rebuilt : ResetEntry → Result Tree MapFault
rebuilt e = rebuilt_by e (fault_in e)
