use Rattle.std.proofs.Common.{length, ap, arith}
use Rattle.fw_bus_rules.proofs.decks.deck.Goals as goal

pub kind-requires : goal.kind-requires
kind-requires c =
    let there = c.in_ok-device.ensures.declared in
    let names = ap length c.requires.stands.devices.names in
    let nodes = c.requires.stands.devices.nodes.size in
    record { declared = omega (arith, there, names, nodes) }
