use Rattle.fw_devices.proofs.Common.{arith, length-map, NodeState}
use Rattle.fw_tree.specs.Cables.{here}
use Rattle.fw_tree.proofs.NumberingLaws.{count_most}
use Rattle.fw_devices.proofs.ResetLaws.{declared}
use Rattle.fw_devices.proofs.bus.identify.Goals as goal

-- device 0 is on the bus
pub self_ids-requires-clause-initiator : goal.self_ids-requires-clause-initiator
self_ids-requires-clause-initiator c = here

pub rows_of-bus-requires-clause-declared : goal.rows_of-bus-requires-clause-declared
rows_of-bus-requires-clause-declared c = λ d n at.
    let low = declared c.args.cabling.now c.identify-numbering.result c.identify-numbering.ensures.made c.identify-numbering.ensures.numbering d n at in
    let kinds = c.requires.kinds.size in
    let size = length-map c.args.nodes.now (λ (x : NodeState). x.kind) in
    omega arith

pub rows_of-bus-requires-clause-few : goal.rows_of-bus-requires-clause-few
rows_of-bus-requires-clause-few c = count_most c.args.cabling.now c.identify-numbering.result c.identify-numbering.ensures.numbering

pub devices_of-devices-requires-clause-few : goal.devices_of-devices-requires-clause-few
devices_of-devices-requires-clause-few c = count_most c.args.cabling.now c.identify-numbering.result c.identify-numbering.ensures.numbering
