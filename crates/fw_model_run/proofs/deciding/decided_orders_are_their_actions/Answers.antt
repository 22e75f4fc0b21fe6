use Rattle.fw_model_run.proofs.Decided.{actions_are_decided}
use Rattle.fw_model_run.proofs.CarriedOut.{decided_is_carried}
use Rattle.fw_model_run.proofs.deciding.decided_orders_are_their_actions.Goals as goal

pub returns : goal.returns
returns c = record { actions = actions_are_decided; carried = decided_is_carried }
