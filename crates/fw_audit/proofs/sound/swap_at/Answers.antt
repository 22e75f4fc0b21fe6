use Rattle.fw_audit.proofs.SoundLaws.{swap_goes, swap_stays}
use Rattle.fw_audit.proofs.sound.swap_at.Goals as goal

pub returns-in-Some-clause-made : goal.returns-in-Some-clause-made
returns-in-Some-clause-made c = λ yes l h. rw c.in-Some.is (swap_goes _ c.args.ledger.now _ _ (c.swap.ensures l h) yes)

pub returns-in-Some-clause-kept : goal.returns-in-Some-clause-kept
returns-in-Some-clause-kept c = λ no. swap_stays _ c.args.ledger.now _ _ (c.swap.ensures c.requires.stands.0 c.requires.stands.1) no

pub returns-in-None-clause-made : goal.returns-in-None-clause-made
returns-in-None-clause-made c = λ yes l h. rw c.in-None.is h
