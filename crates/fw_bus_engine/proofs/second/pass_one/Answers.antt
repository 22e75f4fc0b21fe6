use Rattle.fw_bus_engine.proofs.Common.{few_nodes}
use Rattle.fw_bus_state.proofs.DeckNodes.{tapes_may_pass}
use Rattle.fw_bus_engine.proofs.second.pass_one.Goals as goal

pub pass_to-requires-clause-tapes : goal.pass_to-requires-clause-tapes
pass_to-requires-clause-tapes c = tapes_may_pass 1 c.requires.ready c.requires.few

pub pass_to-requires-clause-room : goal.pass_to-requires-clause-room
pass_to-requires-clause-room c = let r = c.requires.ready in few_nodes c.args.machine.now.devices.nodes r.state r.good r.stands.devices.nodes
