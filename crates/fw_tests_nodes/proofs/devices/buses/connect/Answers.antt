use Rattle.std.proofs.Common.{sym, subst}
use Rattle.fw_tree.specs.Cables.{IsOnBus}
use Rattle.fw_tree.specs.Topology.{Topology}
use Rattle.fw_devices.proofs.JoinLaws.{bus_grows, bus_reaches}
use Rattle.fw_tests_nodes.proofs.devices.buses.connect.Goals as goal

pub reset-requires : goal.reset-requires
reset-requires g c = bus_grows c.args.devices.now.topology c.join.new.self.topology _ _ c.join.ensures.joined c.count.ensures.network.made c.args.a.0 c.requires

pub returns-clause-reached : goal.returns-clause-reached
returns-clause-reached g c =
    let P : Topology → Type 0 = λ t. IsOnBus t.cables c.args.b.0 in
    subst P (sym c.reset.ensures) (bus_reaches c.args.devices.now.topology c.join.new.self.topology _ _ c.join.ensures.joined c.count.ensures.network.made c.requires)

pub returns-clause-kept : goal.returns-clause-kept
returns-clause-kept g c = λ d on.
    let P : Topology → Type 0 = λ t. IsOnBus t.cables d in
    subst P (sym c.reset.ensures) (bus_grows c.args.devices.now.topology c.join.new.self.topology _ _ c.join.ensures.joined c.count.ensures.network.made d on)
