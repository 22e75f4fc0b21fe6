use Rattle.fw_account_tables.proofs.Common.{arith, sym, ◌≡◌, ◌==◌, not, nat_tests, field}
use Rattle.fw_terms.proofs.Finds.{find_none, find_more, find_here}
use Rattle.fw_account_tables.proofs.channel.changed_bit.Goals as goal

pub loop-i-init : goal.loop-i-init
loop-i-init c = find_none (λ j. not (field c.args.argument j j == field c.args.new j j))

pub loop-i-preserved : goal.loop-i-preserved
loop-i-preserved c = find_more c.loop-i.i (λ j. not (field c.args.argument j j == field c.args.new j j)) c.loop-i.invariant (grind (arith, nat_tests, c.field.ensures, c.field-in-loop-i.ensures))

pub returns-then-field-clause-first : goal.returns-then-field-clause-first
returns-then-field-clause-first c = sym (find_here 32 c.loop-i.i (λ j. not (field c.args.argument j j == field c.args.new j j)) c.loop-i.invariant
    (grind (arith, nat_tests, c.field.ensures, c.field-in-loop-i.ensures)) (omega arith))

pub returns-clause-first : goal.returns-clause-first
returns-clause-first c = let e : c.loop-i.i ≡ 32 = omega arith in sym (rw e at c.loop-i.invariant)
