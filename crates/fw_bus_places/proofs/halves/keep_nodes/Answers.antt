use Rattle.fw_bus_places.proofs.HalfLaws.{all_still}
use Rattle.fw_bus_places.proofs.halves.keep_nodes.Goals as goal

pub returns-then-asks : goal.returns-then-asks
returns-then-asks c = all_still _ c.args.nodes.now c.args.devices.now.nodes c.args.now.now c.requires.within c.args.out.now.items c.extend_from_slice.new.self.items
    (c.requires.asked c.if-asks.true) c.in_ok-extend_from_slice.ensures.items
