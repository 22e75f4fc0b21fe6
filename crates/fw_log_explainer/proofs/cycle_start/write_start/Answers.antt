use Rattle.std.proofs.Common.{List, ℕ, ◌++◌, codes, decimal, take}
use Rattle.fw_log_explainer.specs.Lines.{time_text}
use Rattle.fw_log_explainer.proofs.JoinLaws.{after_row, one_more}
use Rattle.fw_log_explainer.proofs.cycle_start.write_start.Goals as goal

pub returns-clause-text : goal.returns-clause-text
returns-clause-text c =
    let row : List ℕ = take c.args.size c.args.row.now in
    let first : List ℕ = codes "node " ++ decimal c.args.source in
    let second : List ℕ = codes " to broadcast label " ++ decimal c.args.label in
    let time : List ℕ = time_text c.args.time in
    one_more row (first ++ second ++ time) (codes "\n") _ _
    (one_more row (first ++ second) time _ _
    (one_more row first second _ _ (after_row row first _ _ c.write_cycle-at.ensures.text c.write_part-at.ensures.text) c.write_part-at-2.ensures.text)
    c.write_time-at.ensures.text)
    c.write_row.ensures.text
