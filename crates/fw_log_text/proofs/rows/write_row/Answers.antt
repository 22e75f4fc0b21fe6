use Rattle.std.proofs.Common.{◌++◌, ◌∙◌, List, ℕ, length, take, arith, ap}
use Rattle.fw_log_text.proofs.RowLaws.{row_written}
use Rattle.fw_log_text.proofs.rows.write_row.Goals as goal

pub returns-clause-text : goal.returns-clause-text
returns-clause-text c =
    let size : ℕ = c.row.inside.size in
    row_written c.args.at size 24 _ c.args.out.now c.copy_from_slice.new.self (omega (arith, c.requires)) (omega (arith, ap length c.copy_from_slice.ensures.after, c.copy_from_slice.ensures.len))
    (omega (arith, c.row.invariant))
    ∙ ap (λ (x : List ℕ). take c.args.at c.args.out.now ++ x) (ap (take size) c.copy_from_slice.ensures.after ∙ c.row.view_is)
