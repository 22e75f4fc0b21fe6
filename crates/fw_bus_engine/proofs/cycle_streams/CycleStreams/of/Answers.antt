use Rattle.fw_bus_engine.proofs.cycle_streams.CycleStreams.of.Goals as goal

pub returns-clause-cycle_streams : goal.returns-clause-cycle_streams
returns-clause-cycle_streams c = record { talking_plugs = c.talking_plugs_of.ensures; deck = c.deck_of.ensures.value; limit = c.deck_of.ensures.limit }
