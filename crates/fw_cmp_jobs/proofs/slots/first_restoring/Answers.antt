use Rattle.fw_cmp_jobs.proofs.Common.{arith, sym, ◌≡◌, ◌∙◌, get_or, is_restoring, Free}
use Rattle.fw_terms.proofs.Finds.{find_none, find_more, find_here}
use Rattle.fw_cmp_jobs.proofs.slots.first_restoring.Goals as goal

pub loop-i-init : goal.loop-i-init
loop-i-init c = find_none (λ i. is_restoring (get_or c.args.slots.now i Free))

pub loop-i-preserved : goal.loop-i-preserved
loop-i-preserved c = find_more c.loop-i.i (λ i. is_restoring (get_or c.args.slots.now i Free)) c.loop-i.invariant (sym c.is_restoring.ensures ∙ c.if-is_restoring.false)

pub returns-then-is_restoring-clause-first : goal.returns-then-is_restoring-clause-first
returns-then-is_restoring-clause-first c = sym (find_here 32 c.loop-i.i (λ i. is_restoring (get_or c.args.slots.now i Free)) c.loop-i.invariant
    (sym c.is_restoring.ensures ∙ c.if-is_restoring.true) c.loop-i-test.true)

pub returns-clause-first : goal.returns-clause-first
returns-clause-first c = let e : c.loop-i.i ≡ 32 = omega arith in sym (rw e at c.loop-i.invariant)
