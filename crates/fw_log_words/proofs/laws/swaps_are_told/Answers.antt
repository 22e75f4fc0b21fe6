use Rattle.fw_log_words.proofs.laws.swaps_are_told.Goals as goal
use Rattle.fw_log_words.proofs.SwapLaws.{swaps_are_told as told}

pub returns : goal.returns
returns c = told
