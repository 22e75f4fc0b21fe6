use Rattle.fw_cmp_jobs.proofs.Common.{arith, sym, ◌≡◌, nat_tests}
use Rattle.fw_terms.proofs.Finds.{find_none, find_more, find_here}
use Rattle.fw_cmp_jobs.specs.Plugs.{is_bit}
use Rattle.fw_cmp_jobs.proofs.words.first_free.Goals as goal

pub loop-i-init : goal.loop-i-init
loop-i-init c = find_none (is_bit c.args.word)

pub loop-i-preserved : goal.loop-i-preserved
loop-i-preserved c = find_more c.loop-i.i (is_bit c.args.word) c.loop-i.invariant (grind (arith, nat_tests, c.field.ensures))

pub returns-then-field-eq1-clause-first : goal.returns-then-field-eq1-clause-first
returns-then-field-eq1-clause-first c = sym (find_here 32 c.loop-i.i (is_bit c.args.word) c.loop-i.invariant (grind (arith, nat_tests, c.field.ensures)) (omega arith))

pub returns-clause-first : goal.returns-clause-first
returns-clause-first c = let e : c.loop-i.i ≡ 32 = omega arith in sym (rw e at c.loop-i.invariant)
