use Rattle.fw_account_tables.proofs.Common.{arith, sym, ◌≡◌, ◌∙◌, is_pending, allocation_of, charge_at}
use Rattle.fw_terms.proofs.Finds.{find_none, find_more, find_here}
use Rattle.fw_account_tables.proofs.place.pending_channel.Goals as goal

pub loop-ch-init : goal.loop-ch-init
loop-ch-init c = find_none (λ ch. is_pending c.args.c (allocation_of (charge_at c.args.charges.now ch)))

pub loop-ch-preserved : goal.loop-ch-preserved
loop-ch-preserved c = find_more c.loop-ch.ch (λ ch. is_pending c.args.c (allocation_of (charge_at c.args.charges.now ch))) c.loop-ch.invariant (sym c.is_pending.ensures ∙ c.if-is_pending.false)

pub returns-then-is_pending-clause-first : goal.returns-then-is_pending-clause-first
returns-then-is_pending-clause-first c = sym (find_here c.args.end c.loop-ch.ch (λ ch. is_pending c.args.c (allocation_of (charge_at c.args.charges.now ch))) c.loop-ch.invariant
    (sym c.is_pending.ensures ∙ c.if-is_pending.true) c.loop-ch-test.true)

pub returns-clause-first : goal.returns-clause-first
returns-clause-first c = let e : c.loop-ch.ch ≡ c.args.end = omega arith in sym (rw e at c.loop-ch.invariant)
