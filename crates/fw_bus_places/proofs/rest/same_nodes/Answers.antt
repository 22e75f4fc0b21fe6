use Rattle.std.proofs.Common.{◌∙◌, arith, sym}
use Rattle.std.proofs.lemmas.List.{take_all}
use Rattle.fw_bus_places.proofs.rest.same_nodes.Goals as goal

pub returns-else-none_used : goal.returns-else-none_used
returns-else-none_used c = λ same.
    let nodes = c.args.nodes.now in
    let others = c.args.others.now in
    sym (take_all 63 nodes (omega (arith, c.told-nodes))) ∙ (c.same_first-else-none_used.ensures same ∙ take_all 63 others (omega (arith, c.told-others)))
