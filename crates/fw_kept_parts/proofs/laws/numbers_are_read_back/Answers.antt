use Rattle.fw_kept_parts.proofs.WordLaws.{words_back}
use Rattle.fw_kept_parts.proofs.laws.numbers_are_read_back.Goals as goal

pub returns : goal.returns
returns c = words_back
