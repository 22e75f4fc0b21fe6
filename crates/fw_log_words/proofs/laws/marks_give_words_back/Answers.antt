use Rattle.fw_log_words.proofs.GivesBack.{marks_give_back}
use Rattle.fw_log_words.proofs.laws.marks_give_words_back.Goals as goal

pub returns : goal.returns
returns c = marks_give_back
