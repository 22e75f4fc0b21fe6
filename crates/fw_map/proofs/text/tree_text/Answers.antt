use Rattle.fw_map.proofs.Common.{◌≡◌, ◌++◌, ◌∷◌, [], List, ℕ, string_bytes, codes, sym, ap, arith, ◌∙◌}
use Rattle.std.proofs.lemmas.List.{append-nil}
use Rattle.fw_map.specs.Texts.{node_lines, node_line, no_row}
use Rattle.fw_map.proofs.TextLaws.{lines_none, lines_more, rows_more, goes_on}
use Rattle.fw_map.proofs.text.tree_text.Goals as goal

pub loop-node-init : goal.loop-node-init
loop-node-init c = c.new-text.ensures.bytes ∙ sym (lines_none c.args.tree.now)

pub loop-node-preserved : goal.loop-node-preserved
loop-node-preserved c = c.in_ok-put_node.ensures ∙ (ap (λ (x : List ℕ). x ++ node_line c.args.tree.now c.loop-node.node) c.loop-node.invariant ∙ sym (lines_more c.args.tree.now c.loop-node.node))

pub loop-node-2-init : goal.loop-node-2-init
loop-node-2-init c =
    let all : c.loop-node.node ≡ c.args.tree.now.count = omega (arith, c.loop-node.auto.node-end, c.loop-node-test.false) in
    let prefix : string_bytes c.loop-node.text ≡ node_lines c.args.tree.now c.args.tree.now.count = c.loop-node.invariant ∙ ap (node_lines c.args.tree.now) all in (
      [],
      no_row,
      c.in_ok-write.ensures.bytes ∙ (ap (λ (x : List ℕ). x ++ (codes "speeds" ++ 10 ∷ [])) prefix
          ∙ sym (append-nil (node_lines c.args.tree.now c.args.tree.now.count ++ (codes "speeds" ++ 10 ∷ [])))),
    )

pub loop-node-2-preserved : goal.loop-node-2-preserved
loop-node-2-preserved c =
    let i = c.loop-node-2.invariant in
    let t = c.args.tree.now in
    let w = c.in_ok-put_row.ensures in (
      i.0 ++ (w.0 ++ 10 ∷ []),
      rows_more t t.count c.loop-node-2.node i.0 w.0 i.1 w.1,
      goes_on (node_lines t t.count ++ (codes "speeds" ++ 10 ∷ [])) (string_bytes c.loop-node-2.text) (w.0 ++ 10 ∷ []) i.0 (string_bytes c.put_row.new.text) w.2 i.2,
    )
