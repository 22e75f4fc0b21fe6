use Rattle.fw_map.proofs.Common.{◌≡◌, ◌++◌, ◌∷◌, [], string_bytes, codes}
use Rattle.fw_map.specs.Graphs.{box_lines, edge_lines}
use Rattle.fw_map.proofs.graph.tree_graph.Given as goal

abbrev pub invariant-loop-node : goal.invariant-loop-node
invariant-loop-node l = string_bytes l.text ≡ (codes "graph bus {" ++ 10 ∷ [] ++ codes "  node [shape=box];" ++ 10 ∷ []) ++ box_lines l.rows l.node

abbrev pub invariant-loop-node-2 : goal.invariant-loop-node-2
invariant-loop-node-2 l = string_bytes l.text ≡ (codes "graph bus {" ++ 10 ∷ [] ++ codes "  node [shape=box];" ++ 10 ∷ []) ++ box_lines l.rows l.tree.count ++ edge_lines l.tree l.node
