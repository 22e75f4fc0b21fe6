use Rattle.fw_bus_state.proofs.Still.{none_left}
use Rattle.fw_bus_state.proofs.streams.Streams.pass.Goals as goal

pub pass_to-requires-clause-still : goal.pass_to-requires-clause-still
pass_to-requires-clause-still c = none_left _ _ _ c.count-end.ensures.nodes
