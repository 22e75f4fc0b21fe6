use Rattle.fw_bus_engine.proofs.OneAction.{does_silent}
use Rattle.fw_bus_engine.proofs.LifeTurns.{connect_turns}
use Rattle.fw_bus_engine.proofs.Common.{living_there}
use Rattle.fw_bus_engine.proofs.lives.connect.Goals as goal

pub connect-requires : goal.connect-requires
connect-requires g c = record {
  device = (living_there c.args.machine.now c.args.device c.requires.ready c.requires.living).controller;
  held = c.requires.held;
  found = c.requires.found;
}

pub returns : goal.returns
returns g c = record {
  does = does_silent (g.K.Sink.held c.args.sink.now) (g.K.Sink.faults c.args.sink.now) c.args.machine.now.cycle tt
      (connect_turns c.args.machine.now c.connect.new.self c.args.device c.args.wanted.now c.args.slot c.requires.living c.requires.held c.requires.found c.connect.ensures);
}
