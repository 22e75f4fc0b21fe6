use Rattle.std.proofs.Common.{◌++◌, arith}
use Rattle.fw_explore_endings.specs.Texts.{rows_text}
use Rattle.fw_explore_endings.proofs.GrowLaws.{rows_more, rows_last}
use Rattle.fw_explore_endings.proofs.text.put_rows.Goals as goal

pub loop-at-preserved : goal.loop-at-preserved
loop-at-preserved c =
    rows_more c.args.explored.now c.args.rows.now c.loop-at.out.items c.put_row.new.out.items (c.args.out.now.items ++ rows_text c.args.explored.now 1 c.args.rows.now) c.loop-at.at
    c.index-rows-at.result (omega arith) c.index-rows-at.is c.in_ok-put_row.ensures c.loop-at.invariant

pub returns : goal.returns
returns c =
    rows_last c.args.explored.now c.args.rows.now c.loop-at.out.items (c.args.out.now.items ++ rows_text c.args.explored.now 1 c.args.rows.now) c.loop-at.at (omega arith) c.loop-at.invariant
