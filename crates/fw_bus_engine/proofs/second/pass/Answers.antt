use Rattle.fw_bus_state.proofs.DeckNodes.{tapes_may_pass}
use Rattle.fw_bus_engine.proofs.second.pass.Goals as goal

pub pass-requires : goal.pass-requires
pass-requires c = tapes_may_pass c.args.cycles c.requires.ready c.requires.few
