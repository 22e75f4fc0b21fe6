use Rattle.fw_model_run.proofs.Elected.{elects_one}
use Rattle.fw_model_run.proofs.elections.one_device_is_elected.Goals as goal

pub returns : goal.returns
returns c = elects_one
