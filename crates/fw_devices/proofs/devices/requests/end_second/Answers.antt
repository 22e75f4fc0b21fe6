use Rattle.fw_devices.proofs.Common.{ap, slice_set, sym, ◌∙◌, NodeState, after_second}
use Rattle.std.proofs.lemmas.List.Edits.{map_over_more}
use Rattle.fw_devices.proofs.devices.requests.end_second.Goals as goal

pub loop-node-preserved : goal.loop-node-preserved
loop-node-preserved c =
    let nodes = c.loop-node.nodes in
    let i = c.loop-node.node-index in
    let node = c.node-item.result in
    ap (slice_set nodes i) c.second_over.ensures ∙ ap (λ (n : NodeState). slice_set nodes i (after_second n)) (sym c.node-item.is)
    ∙ map_over_more after_second c.args.nodes.now nodes i node c.loop-node-test.true c.loop-node.invariant c.node-item.is
