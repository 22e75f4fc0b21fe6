use Rattle.std.proofs.Common.{◌∙◌}
use Rattle.std.proofs.lemmas.List.{length-set}
use Rattle.fw_log_text.proofs.HexLaws.{numbers_more}
use Rattle.fw_log_text.proofs.numbers.Numbers.new.Goals as goal

pub loop-n-preserved : goal.loop-n-preserved
loop-n-preserved c = record {
  rows = length-set c.loop-n.rows c.loop-n.n _ ∙ c.loop-n.invariant.rows;
  sizes = length-set c.loop-n.sizes c.loop-n.n _ ∙ c.loop-n.invariant.sizes;
  table = numbers_more c.loop-n.n c.row_of-size.result.1 c.loop-n.rows c.loop-n.sizes c.row_of-size.result.0 c.loop-n-test.true c.loop-n.invariant.rows c.loop-n.invariant.sizes
      c.loop-n.invariant.table
      (record { within = c.row_of-size.ensures.within; digits = c.row_of-size.ensures.digits });
}
