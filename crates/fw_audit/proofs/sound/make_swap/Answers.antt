use Rattle.fw_audit.proofs.sound.make_swap.Goals as goal

pub returns-in-Some-clause-made : goal.returns-in-Some-clause-made
returns-in-Some-clause-made c = λ yes l h. rw c.in-Some.is (c.swap_at.ensures.made yes l h)

pub returns-in-None-clause-made : goal.returns-in-None-clause-made
returns-in-None-clause-made c = λ yes l h. rw c.in-None.is h
