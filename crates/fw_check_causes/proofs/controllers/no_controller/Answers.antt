use Rattle.fw_check_causes.proofs.Seen.{declared_node}
use Rattle.fw_check_causes.proofs.controllers.no_controller.Goals as goal

pub kind-requires : goal.kind-requires
kind-requires c = record { declared = declared_node c.args.machine.now c.args.device c.requires.ready c.requires.declared }
