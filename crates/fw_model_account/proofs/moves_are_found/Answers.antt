-- Both directions are lemmas.
use Rattle.fw_model_account.proofs.Decoded.{move_at_is, move_found}
use Rattle.fw_model_account.proofs.moves_are_found.Goals as goal

pub returns : goal.returns
returns c = λ d p m register arg new l lt s. (move_at_is l d register arg new p m s, move_found d p m register arg new l lt s)
