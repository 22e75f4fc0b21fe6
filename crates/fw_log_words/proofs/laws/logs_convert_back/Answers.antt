use Rattle.fw_log_words.proofs.Conversions.{converts_back}
use Rattle.fw_log_words.proofs.laws.logs_convert_back.Goals as goal

pub returns : goal.returns
returns c = λ v w entries bytes out back s there again. converts_back v w entries bytes out back s there again
