use Rattle.fw_check_causes_laws.proofs.SoLaws.{limit_passed, without_controller, without_node}
use Rattle.fw_check_causes_laws.proofs.laws.causes_are_so.Goals as goal

pub returns : goal.returns
returns c = record { controllers = without_controller; nodes = without_node; limits = limit_passed }
