use Rattle.fw_model_run.proofs.OneFound.{one_found}
use Rattle.fw_model_run.proofs.OneStep.{one_step}
use Rattle.fw_model_run.proofs.deciding.good_states_decide_deeds.Goals as goal

pub returns : goal.returns
returns c = record { found = one_found; result = one_step }
