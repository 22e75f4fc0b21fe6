use Rattle.fw_tree.proofs.Common.{take}
use Rattle.fw_tree.proofs.TopologyLaws.{ports_at, ports_none, ports_most}
use Rattle.fw_tree.proofs.ports.ports_at.Goals as goal

pub returns-then-device-count-clause-ports : goal.returns-then-device-count-clause-ports
returns-then-device-count-clause-ports c = ports_at c.args.facts.now c.args.count c.args.device c.if-device-count.true

pub returns-then-device-count-clause-most : goal.returns-then-device-count-clause-most
returns-then-device-count-clause-most c = rw (ports_at c.args.facts.now c.args.count c.args.device c.if-device-count.true)
    (ports_most (take c.args.count c.args.facts.now) c.args.device c.requires.devices)

pub returns-else-device-count-clause-ports : goal.returns-else-device-count-clause-ports
returns-else-device-count-clause-ports c = ports_none c.args.facts.now c.args.count c.args.device c.if-device-count.false
