-- A tree whose branches are joined node by node, from number 0 upwards.
use Rattle.std.specs.Prelude.{◌≡◌, ◌↔◌, ◌⊎◌, ℕ, ◌+◌, ◌<◌, ◌≤◌, ◌==◌, not, Bool, List, length, Some, None}
use Rattle.fw_phy.specs.declared.packet.PhyPacket.{PhyPacket}
use Rattle.fw_log_entry.specs.declared.entry.ResetEntry.{ResetEntry}
use Rattle.fw_log_entry.specs.Network.{speed_of}
use Rattle.fw_tree.specs.Numbers.{counted, number_at, is_there}
use Rattle.fw_map.specs.declared.tree.Tree.{Tree}
use Rattle.fw_map.specs.Fields.{field_of, fields}
use Rattle.fw_map.specs.Faults.{branches, is_last, joining_fault}
use Rattle.fw_map.specs.Trees.{Hangs, HasSizes, speed_at}

-- the port is one of a node below i, or of i itself from q on
abbrev pub IsDone : ℕ → ℕ → ℕ → ℕ → Type 0
IsDone i q d p = (d < i) ⊎ ((d ≡ i) × (q ≤ p))

-- What hangs at the ports that are done hangs there by its numbers: each child is below its parent, the children of a node
-- are in order of its ports, and what is between a node and its parent hangs on nodes up to the parent.
pub record Grown (ids : List PhyPacket) (i q : ℕ) (t : Tree) : Type 0 where
  pub up : (c d p : ℕ) → Hangs t c d p → c < d
  pub done : (c d p : ℕ) → Hangs t c d p → IsDone i q d p
  pub field : (c d p : ℕ) → Hangs t c d p → field_of ids d p ≡ 3
  pub ports : (c : ℕ) → is_there (number_at t.parent_port c) ≡ is_there (number_at t.parent c)
  pub child : (d p : ℕ) → IsDone i q d p → field_of ids d p ≡ 3 → (c : ℕ) × Hangs t c d p
  pub ordered : (x y d p r : ℕ) → Hangs t x d p → Hangs t y d r → x < y → p < r
  pub nested : (x y d p : ℕ) → Hangs t x d p → x < y → y < d → (e r : ℕ) × Hangs t y e r × (e ≤ d)

-- the node has no parent yet
abbrev pub is_open : Tree → ℕ → Bool
is_open t c = not (is_there (number_at t.parent c))

-- As many nodes below i are without a parent as branches are, less those that the ports of node i from q on have taken.
abbrev pub Counts : List PhyPacket → ℕ → ℕ → Tree → Type 0
Counts ids i q t = counted (is_open t) i + fields ids i 3 ≡ branches ids i + counted (λ p. field_of ids i p == 3) q

-- what holds of a tree holds of the other: each that hangs at a done port does so there, and no other hangs there
pub record Agrees (s t : Tree) (i q : ℕ) : Type 0 where
  pub there : (c d p : ℕ) → IsDone i q d p → Hangs s c d p → Hangs t c d p
  pub back : (c d p : ℕ) → Hangs t c d p → Hangs s c d p

-- the nodes below i have their own ports and speeds, and no others
pub record Noted (e : ResetEntry) (i : ℕ) (t : Tree) : Type 0 where
  pub own : (d p : ℕ) → d < i → (field_of e.ids d p ≡ 2) ↔ (number_at t.own_port d ≡ Some p)
  pub own_ports : (d : ℕ) → d < i → is_there (number_at t.own_port d) ≡ not (is_last e d)
  pub own_following : (d : ℕ) → i ≤ d → number_at t.own_port d ≡ None
  pub sp : (d : ℕ) → d < i → speed_at t.sp d ≡ speed_of d e.ids
  pub sp_after : (d : ℕ) → i ≤ d → speed_at t.sp d ≡ 0

-- no test fails at the nodes below i
abbrev pub AreJoined : ResetEntry → ℕ → Type 0
AreJoined e i = (d : ℕ) → d < i → joining_fault e d ≡ None

-- the nodes below i were joined, and no test failed
pub record Joining (e : ResetEntry) (i : ℕ) (t : Tree) : Type 0 where
  pub sizes : HasSizes t
  pub count : t.count ≡ length e.nodes
  pub grown : Grown e.ids i 27 t
  pub counts : counted (is_open t) i ≡ branches e.ids i
  pub noted : Noted e i t
  pub joined : AreJoined e i

-- in the tree nothing but who hangs on whom has changed
pub record KeepsRest (s t : Tree) : Type 0 where
  pub sizes : HasSizes t
  pub count : t.count ≡ s.count
  pub own_port : t.own_port ≡ s.own_port
  pub sp : t.sp ≡ s.sp
