use Rattle.std.proofs.Common.{List, ℕ, ◌++◌, codes, decimal, take}
use Rattle.fw_log_explainer.proofs.JoinLaws.{after_row, one_more}
use Rattle.fw_log_explainer.proofs.prefix.write_prefix.Goals as goal

pub returns-clause-text : goal.returns-clause-text
returns-clause-text c =
    let row : List ℕ = take c.args.size c.args.row.now in
    let first : List ℕ = codes "node " ++ decimal c.args.nodes.0 in
    let second : List ℕ = codes " to node " ++ decimal c.args.nodes.1 in
    let third : List ℕ = codes " label " ++ decimal c.args.label in
    one_more row (first ++ second) third _ _
    (one_more row first second _ _ (after_row row first _ _ c.write_cycle-at.ensures.text c.write_part-at.ensures.text) c.write_part-at-2.ensures.text)
    c.write_part.ensures.text
