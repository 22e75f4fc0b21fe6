use Rattle.fw_map.proofs.Common.{◌≡◌, ◌++◌, ◌∷◌, [], List, ℕ, string_bytes, codes}
use Rattle.fw_map.specs.Texts.{node_lines, AreRows}
use Rattle.fw_map.proofs.text.tree_text.Given as goal

abbrev pub invariant-loop-node : goal.invariant-loop-node
invariant-loop-node l = string_bytes l.text ≡ node_lines l.tree l.node

abbrev pub invariant-loop-node-2 : goal.invariant-loop-node-2
invariant-loop-node-2 l = (rows : List ℕ) × AreRows l.tree l.tree.count l.node rows × (string_bytes l.text ≡ node_lines l.tree l.tree.count ++ (codes "speeds" ++ 10 ∷ []) ++ rows)
