-- The graph of a tree, line by line.
use Rattle.fw_map.proofs.Common.{◌≡◌, ℕ, suc, ◌+◌, List, [], ◌++◌, slice_get, refl, ap, sym, ◌∙◌, append_assoc, arith, Tree}
use Rattle.fw_log_entry.specs.declared.nodes.NodeRow.{NodeRow}
use Rattle.fw_map.specs.Graphs.{box_line, box_lines, edge_line, edge_lines}

pub boxes_none : (rows : List NodeRow) → box_lines rows 0 ≡ []
unfolding box_lines
boxes_none rows = refl

pub boxes_more : (rows : List NodeRow) (n : ℕ) → box_lines rows (n + 1) ≡ box_lines rows n ++ box_line n (slice_get rows n)
unfolding box_lines
boxes_more rows n = let e : n + 1 ≡ suc n = omega arith in ap (box_lines rows) e

pub edges_none : (t : Tree) → edge_lines t 0 ≡ []
unfolding edge_lines
edges_none t = refl

pub edges_more : (t : Tree) (n : ℕ) → edge_lines t (n + 1) ≡ edge_lines t n ++ edge_line t n
unfolding edge_lines
edges_more t n = let e : n + 1 ≡ suc n = omega arith in ap (edge_lines t) e

-- a line more after a prefix and lines
pub line_more : (prefix lines line more now new : List ℕ) → now ≡ prefix ++ lines → new ≡ now ++ line → more ≡ lines ++ line → new ≡ prefix ++ more
line_more prefix lines line more now new a b c = b ∙ (ap (λ (x : List ℕ). x ++ line) a ∙ (append_assoc prefix lines line ∙ ap (λ (x : List ℕ). prefix ++ x) (sym c)))
