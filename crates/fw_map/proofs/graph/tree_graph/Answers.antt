use Rattle.fw_map.proofs.Common.{◌≡◌, ◌++◌, ◌∷◌, [], List, ℕ, string_bytes, codes, slice_get, sym, ap, arith, ◌∙◌}
use Rattle.std.proofs.lemmas.List.{append-nil}
use Rattle.fw_map.specs.Graphs.{box_line, box_lines, edge_line, edge_lines}
use Rattle.fw_map.proofs.GraphLaws.{boxes_none, boxes_more, edges_none, edges_more, line_more}
use Rattle.fw_map.proofs.graph.tree_graph.Goals as goal

abbrev head : List ℕ
head = codes "graph bus {" ++ 10 ∷ [] ++ codes "  node [shape=box];" ++ 10 ∷ []

pub loop-node-init : goal.loop-node-init
loop-node-init c = c.in_ok-push_str.ensures.bytes ∙ (ap (λ (x : List ℕ). x ++ head) c.new-text.ensures.bytes
    ∙ (sym (append-nil head) ∙ ap (λ (x : List ℕ). head ++ x) (sym (boxes_none c.args.rows.now))))

pub loop-node-preserved : goal.loop-node-preserved
loop-node-preserved c =
    line_more head (box_lines c.args.rows.now c.loop-node.node) (box_line c.loop-node.node (slice_get c.args.rows.now c.loop-node.node)) (box_lines c.args.rows.now _) (string_bytes c.loop-node.text)
    (string_bytes c.put_box.new.text)
    c.loop-node.invariant c.in_ok-put_box.ensures (boxes_more c.args.rows.now c.loop-node.node)

pub loop-node-2-init : goal.loop-node-2-init
loop-node-2-init c =
    let all : c.loop-node.node ≡ c.args.tree.now.count = omega (arith, c.loop-node.auto.node-end, c.loop-node-test.false) in
    let t = c.args.tree.now in
    let rows = c.args.rows.now in
    c.loop-node.invariant ∙ (ap (λ (n : ℕ). head ++ box_lines rows n) all
    ∙ (sym (append-nil (head ++ box_lines rows t.count)) ∙ ap (λ (x : List ℕ). (head ++ box_lines rows t.count) ++ x) (sym (edges_none t))))

pub loop-node-2-preserved : goal.loop-node-2-preserved
loop-node-2-preserved c =
    let t = c.args.tree.now in
    line_more (head ++ box_lines c.args.rows.now t.count) (edge_lines t c.loop-node-2.node) (edge_line t c.loop-node-2.node) (edge_lines t _) (string_bytes c.loop-node-2.text)
    (string_bytes c.put_edge.new.text)
    c.loop-node-2.invariant c.in_ok-put_edge.ensures (edges_more t c.loop-node-2.node)
