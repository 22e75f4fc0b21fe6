use Rattle.std.proofs.Common.{◌++◌, ◌∙◌, List, ℕ, length, take, arith, ap}
use Rattle.fw_holders_text.proofs.RowLaws.{row_written}
use Rattle.fw_holders_text.proofs.text_row.write_row.Goals as goal

pub returns-clause-text : goal.returns-clause-text
returns-clause-text g c =
    row_written c.args.at c.args.size g.row.N _ c.args.out.now c.copy_from_slice.new.self (omega (arith, c.requires.room))
    (omega (arith, ap length c.copy_from_slice.ensures.after, c.copy_from_slice.ensures.len)) c.requires.within
    ∙ ap (λ (x : List ℕ). take c.args.at c.args.out.now ++ take c.args.size x) c.copy_from_slice.ensures.after
