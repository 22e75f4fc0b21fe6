use Rattle.fw_tree.specs.Cables.{here}
use Rattle.fw_tests_nodes.proofs.devices.tables.bus_resets_show_the_bus.Goals as goal

-- device 0 is on the bus
pub reset-requires : goal.reset-requires
reset-requires g c = here
