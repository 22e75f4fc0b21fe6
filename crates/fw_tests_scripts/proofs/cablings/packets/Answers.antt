use Rattle.fw_tree.proofs.NumberingLaws.{count_most}
use Rattle.fw_tests_scripts.proofs.cablings.packets.Goals as goal

pub devices_of-devices-requires-clause-few : goal.devices_of-devices-requires-clause-few
devices_of-devices-requires-clause-few g c = count_most c.args.cabling.now c.args.numbering.now c.requires
