-- The walks between the nodes of a tree, and the speeds along them.
use Rattle.std.specs.Prelude.{◌≡◌, ◌⊎◌, ℕ, ◌≤◌, List, [], ◌∷◌, Some}
use Rattle.fw_log_entry.specs.declared.entry.ResetEntry.{ResetEntry}
use Rattle.fw_log_entry.specs.Log.{ResetFits}
use Rattle.fw_tree.specs.Numbers.{number_at}
use Rattle.fw_map.specs.declared.tree.Tree.{Tree}
use Rattle.fw_map.specs.Trees.{HasPackets, speed_at}

-- the tree has the packets of some reset entry
pub record IsRebuilt (t : Tree) : Type 0 where
  pub entry : ResetEntry
  pub fits : ResetFits entry
  pub packets : HasPackets entry t

-- one of the two hangs on the other
abbrev pub AreJoined : Tree → ℕ → ℕ → Type 0
AreJoined t a b = (number_at t.parent a ≡ Some b) ⊎ (number_at t.parent b ≡ Some a)

-- the node is one of these
abbrev pub IsOn : List ℕ → ℕ → Type 0
IsOn [] x = ⊥
IsOn (y ∷ ys) x = (y ≡ x) ⊎ IsOn ys x

-- these are the nodes of a walk from the one node to the other, both ends included, that meets no node twice
pub data Walk (t : Tree) : ℕ → ℕ → List ℕ → Type 0 where
  here : {a : ℕ} → Walk t a a (a ∷ [])
  along : {a b c : ℕ} {nodes : List ℕ} → AreJoined t a b → Walk t b c nodes → (IsOn nodes a → ⊥) → Walk t a c (a ∷ nodes)

-- the speed is sp of one of the nodes, and none of them has less
pub record IsLeast (sp nodes : List ℕ) (speed : ℕ) : Type 0 where
  pub one : ℕ
  pub on : IsOn nodes one
  pub is : speed_at sp one ≡ speed
  pub least : (x : ℕ) → IsOn nodes x → speed ≤ speed_at sp x

-- what is left of the walk goes on between these two, and the speed is the least of what was passed and of them
pub record IsLeastSoFar (t : Tree) (nodes : List ℕ) (c d speed : ℕ) : Type 0 where
  pub rest : List ℕ
  pub walk : Walk t c d rest
  pub inside : (x : ℕ) → IsOn rest x → IsOn nodes x
  pub one : ℕ
  pub on : IsOn nodes one
  pub is : speed_at t.sp one ≡ speed
  pub passed : (x : ℕ) → IsOn nodes x → IsOn rest x ⊎ (speed ≤ speed_at t.sp x)
