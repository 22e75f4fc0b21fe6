use Rattle.fw_model_account.proofs.InputWords.{input_move_shows}
use Rattle.fw_model_account.proofs.input_moves_show.Goals as goal

pub returns : goal.returns
returns c = input_move_shows
