use Rattle.fw_holders.proofs.Common.{arith, sym, ◌≡◌, ◌∙◌}
use Rattle.fw_terms.proofs.Finds.{find_none, find_more, find_here}
use Rattle.fw_model_account.specs.Account.{is_pending}
use Rattle.fw_account_tables.specs.Stands.{allocation_of, charge_at}
use Rattle.fw_holders.proofs.death.first_pending.Goals as goal

pub loop-ch-init : goal.loop-ch-init
loop-ch-init c = find_none (λ ch. is_pending c.args.controller (allocation_of (charge_at c.args.charges.now ch)))

pub loop-ch-preserved : goal.loop-ch-preserved
loop-ch-preserved c = find_more c.loop-ch.ch (λ ch. is_pending c.args.controller (allocation_of (charge_at c.args.charges.now ch))) c.loop-ch.invariant (sym c.is_pending.ensures
    ∙ c.if-is_pending.false)

pub returns-then-is_pending : goal.returns-then-is_pending
returns-then-is_pending c = sym (find_here 64 c.loop-ch.ch (λ ch. is_pending c.args.controller (allocation_of (charge_at c.args.charges.now ch))) c.loop-ch.invariant
    (sym c.is_pending.ensures ∙ c.if-is_pending.true) c.loop-ch-test.true)

pub returns : goal.returns
returns c = let e : c.loop-ch.ch ≡ 64 = omega arith in sym (rw e at c.loop-ch.invariant)
