use Rattle.fw_log.proofs.Common.{◌≡◌, ◌==◌, ℕ, true, arith, sym, ◌∙◌, length, nat_tests, position}
use Rattle.fw_log.proofs.FindLaws.{joins_none, joins_both}
use Rattle.fw_log.proofs.first.at_hand.Goals as goal

pub returns-then-is_empty : goal.returns-then-is_empty
returns-then-is_empty c = joins_none (position c.args.stand) c.args.taken.now c.args.piece.now (zero_by (length c.args.taken.now) (sym c.if-is_empty.ensures))
  where
    zero_by : (n : ℕ) → (n == 0) ≡ true → n ≡ 0
    zero_by n h = grind (arith, nat_tests)

pub returns : goal.returns
returns c =
    joins_both (position c.args.stand) c.args.taken.now c.args.piece.now c.as_slice.result.now c.whole_size.result c.whole_size.ensures.prefix c.whole_size.ensures.known
    (c.as_slice.ensures.value ∙ c.join.ensures)
