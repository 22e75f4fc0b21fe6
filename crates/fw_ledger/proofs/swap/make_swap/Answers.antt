use Rattle.fw_ledger.proofs.swap.make_swap.Goals as goal

pub returns-in-Some : goal.returns-in-Some
returns-in-Some c = λ l h. rw c.in-Some.is (c.swap_at.ensures l h)

pub returns-in-None : goal.returns-in-None
returns-in-None c = λ l h. rw c.in-None.is (tt, h)
