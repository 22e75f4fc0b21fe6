use Rattle.fw_ledger.proofs.Common.{refl, ap}
use Rattle.fw_account_tables.specs.Swaps.{register_named}
use Rattle.fw_ledger.specs.declared.refused.Refused.TheVariants.{NoMove}
use Rattle.fw_ledger.proofs.Taking.{follows_goes, moved_none}
use Rattle.fw_ledger.proofs.swap.swap_at.Goals as goal

pub returns-in-None : goal.returns-in-None
returns-in-None c = λ l h. rw c.in-None.is (tt, h)

pub returns-then-not-swap : goal.returns-then-not-swap
returns-then-not-swap c = λ l h.
    let x = moved_none c.args.tables.now c.swap.new.self l c.args.c _ (c.if-not-swap.ensures l h) in
    rw c.in-Some.is (x.1, x.2, (register_named c.in-Some.register, c.args.swap, refl, refl, x.0, ap (λ word. NoMove c.args.swap word) (c.word-due.ensures l h)))

pub returns : goal.returns
returns c = λ l h. rw c.in-Some.is (tt, follows_goes c.args.tables.now _ _ (c.if-not-swap.ensures l h))
