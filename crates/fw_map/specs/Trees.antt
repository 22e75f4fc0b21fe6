-- The tree of a bus, as its self-ID packets tell it.
use Rattle.std.specs.Prelude.{◌≡◌, ◌↔◌, ℕ, ◌<◌, ◌≤◌, ◌&&◌, nat_lt, List, [], ◌∷◌, ◌++◌, length, Some, None, slice_index_or}
use Rattle.fw_log_entry.specs.declared.entry.ResetEntry.{ResetEntry}
use Rattle.fw_log_entry.specs.Network.{speed_of}
use Rattle.fw_tree.specs.Numbers.{counted, number_at, is_there}
use Rattle.fw_tree.specs.Paths.{comes_before}
use Rattle.fw_map.specs.declared.tree.Tree.{Tree}
use Rattle.fw_map.specs.Fields.{field_of}

-- the node hangs on the other, at this port of it
pub record Hangs (t : Tree) (c d p : ℕ) : Type 0 where
  pub parent : number_at t.parent c ≡ Some d
  pub port : number_at t.parent_port c ≡ Some p

-- the path of ports leads down from the root to the node
pub data LeadsDown (t : Tree) (root : ℕ) : List ℕ → ℕ → Type 0 where
  at_root : LeadsDown t root [] root
  down_to : {k v : List ℕ} {c d : ℕ} → LeadsDown t root k d → (p : ℕ) → Hangs t c d p → v ≡ k ++ p ∷ [] → LeadsDown t root v c

-- each node has the count of the nodes that come before it by the paths that lead down to them (IEEE 1394-1995, self-identification)
pub record AreNumbers (t : Tree) (root : ℕ) : Type 0 where
  pub paths : ℕ → List ℕ
  pub lead : (d : ℕ) → d < t.count → LeadsDown t root (paths d) d
  pub places : (d : ℕ) → d < t.count → d ≡ counted (λ c. nat_lt c t.count && comes_before (paths c) (paths d)) 63

-- what a list by node says of speeds: 0 after its end
abbrev pub speed_at : List ℕ → ℕ → ℕ
speed_at sp d = slice_index_or sp d 0

-- the lists are as long as a bus has nodes at most
pub record HasSizes (t : Tree) : Type 0 where
  pub parent : length t.parent ≡ 63
  pub parent_port : length t.parent_port ≡ 63
  pub own_port : length t.own_port ≡ 63
  pub sp : length t.sp ≡ 63

-- each node's speed is that of its packet zero, and after the last node 0 stands
pub record HasSpeeds (e : ResetEntry) (t : Tree) : Type 0 where
  pub of : (d : ℕ) → d < t.count → speed_at t.sp d ≡ speed_of d e.ids
  pub following : (d : ℕ) → t.count ≤ d → speed_at t.sp d ≡ 0

-- The tree has the packets of the reset entry: its nodes are 0 to n - 1, and the root, which is the entry's, has no parent;
-- their numbers are those of self-identification; a node's child ports are exactly its fields 3, and its parent port is its
-- one field 2.
pub record HasPackets (e : ResetEntry) (t : Tree) : Type 0 where
  pub sizes : HasSizes t
  pub count : t.count ≡ length e.nodes
  pub nodes : (c d : ℕ) → number_at t.parent c ≡ Some d → (c < t.count) × (d < t.count)
  pub ports : (c : ℕ) → is_there (number_at t.parent_port c) ≡ is_there (number_at t.parent c)
  pub root : e.root < t.count
  pub top : number_at t.parent e.root ≡ None
  pub numbers : AreNumbers t e.root
  pub children : (d p : ℕ) → d < t.count → (field_of e.ids d p ≡ 3) ↔ ((c : ℕ) × Hangs t c d p)
  pub own : (d p : ℕ) → d < t.count → (field_of e.ids d p ≡ 2) ↔ (number_at t.own_port d ≡ Some p)
  pub own_ports : (c : ℕ) → is_there (number_at t.own_port c) ≡ is_there (number_at t.parent c)
  pub speeds : HasSpeeds e t
