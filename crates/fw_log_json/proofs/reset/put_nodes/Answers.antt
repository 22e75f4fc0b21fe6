use Rattle.fw_log_json.proofs.Common.{◌≡◌, ◌<◌, ◌++◌, ◌∙◌, List, [], ap, sym, arith, length, drop, on_ok_weaker, drop_of_length-le, node_objects, NodeRow}
use Rattle.fw_log_json.proofs.Rows.{row, node_next, closed}
use Rattle.fw_log_json.proofs.reset.put_nodes.Goals as goal

pub returns : goal.returns
returns c =
    let ended : drop c.loop-node.node c.args.rows.now ≡ [] =
    drop_of_length-le c.args.rows.now (omega (arith, c.loop-node-test.false, c.loop-node.auto.node-end)) in
    let rows = ap (λ (xs : List NodeRow). c.loop-node.text.items ++ row c.loop-node.node (node_objects c.loop-node.node xs)) (sym ended) ∙ c.loop-node.invariant in
    on_ok_weaker c.put_word-2.result (λ piece. closed _ _ _ _ (node_objects 0 c.args.rows.now) c.in_ok-put_word.ensures rows piece) c.put_word-2.ensures

pub loop-node-preserved : goal.loop-node-preserved
loop-node-preserved c =
    let within : c.loop-node.node < length c.args.rows.now = omega (arith, c.loop-node-test.true, c.loop-node.auto.node-end) in
    node_next c.args.rows.now c.loop-node.node _ _ _ _ within c.in_ok-put_comma.ensures c.in_ok-put_node_object.ensures ∙ c.loop-node.invariant
