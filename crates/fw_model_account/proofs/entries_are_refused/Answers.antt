-- The clause is a lemma.
use Rattle.fw_model_account.proofs.Refused.{refused_exactly}
use Rattle.fw_model_account.proofs.entries_are_refused.Goals as goal

pub returns : goal.returns
returns c = refused_exactly
