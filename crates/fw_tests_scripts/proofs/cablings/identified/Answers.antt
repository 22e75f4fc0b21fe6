use Rattle.fw_tree.proofs.NumberingLaws.{count_most}
use Rattle.fw_tests_scripts.proofs.cablings.identified.Goals as goal

pub devices_of-devices-requires-clause-few : goal.devices_of-devices-requires-clause-few
devices_of-devices-requires-clause-few g c = count_most c.args.cabling.now c.identify-numbering.result c.identify-numbering.ensures.numbering
