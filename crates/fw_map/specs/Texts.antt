-- The text of a tree (own): a line for each node, and then a line of speeds for each node.
use Rattle.std.specs.Prelude.{◌≡◌, ℕ, zero, suc, List, [], ◌∷◌, ◌++◌, Option, Some, codes, decimal}
use Rattle.fw_tree.specs.Numbers.{number_at}
use Rattle.fw_map.specs.declared.tree.Tree.{Tree}
use Rattle.fw_map.specs.Walks.{Walk, IsLeast}

-- where a node hangs: parent, its port, and the own port
abbrev pub place_text : Option ℕ → Option ℕ → Option ℕ → List ℕ
place_text (Some parent) (Some port) (Some own) = codes " parent " ++ decimal parent ++ codes "." ++ decimal port ++ codes " port " ++ decimal own ++ 10 ∷ []
place_text _ _ _ = codes " root" ++ 10 ∷ []

-- the line of a node
abbrev pub node_line : Tree → ℕ → List ℕ
node_line t d = codes "node " ++ decimal d ++ place_text (number_at t.parent d) (number_at t.parent_port d) (number_at t.own_port d)

-- the lines of the nodes below this one
unfoldable pub node_lines : Tree → ℕ → List ℕ
node_lines t zero = []
node_lines t (suc d) = node_lines t d ++ node_line t d

-- the speed between two nodes: there is a walk between them, and the speed is the least sp of the nodes on it
pub record IsSpeed (t : Tree) (a b speed : ℕ) : Type 0 where
  pub walk : (nodes : List ℕ) × Walk t a b nodes
  pub least : (nodes : List ℕ) → Walk t a b nodes → IsLeast t.sp nodes speed

-- the text is the speeds from a node to those below the number
pub data IsRow (t : Tree) (a : ℕ) : ℕ → List ℕ → Type 0 where
  no_speed : IsRow t a 0 []
  speed : {b : ℕ} {text all : List ℕ} → IsRow t a b text → (s : ℕ) → IsSpeed t a b s → all ≡ text ++ decimal s → IsRow t a (suc b) all

-- the text is the lines of speeds of the nodes below the number, each to n nodes
pub data AreRows (t : Tree) (n : ℕ) : ℕ → List ℕ → Type 0 where
  no_row : AreRows t n 0 []
  row : {a : ℕ} {text line all : List ℕ} → AreRows t n a text → IsRow t a n line → all ≡ text ++ (line ++ 10 ∷ []) → AreRows t n (suc a) all

-- the text of a tree
pub record IsTreeText (t : Tree) (text : List ℕ) : Type 0 where
  pub rows : List ℕ
  pub are : AreRows t t.count t.count rows
  pub same : text ≡ node_lines t t.count ++ (codes "speeds" ++ 10 ∷ []) ++ rows
