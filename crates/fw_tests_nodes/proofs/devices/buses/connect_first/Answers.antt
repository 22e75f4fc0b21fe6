use Rattle.fw_tree.specs.Cables.{here}
use Rattle.fw_tests_nodes.proofs.devices.buses.connect_first.Goals as goal

-- device 0 is on the bus
pub connect-requires : goal.connect-requires
connect-requires g c = here
