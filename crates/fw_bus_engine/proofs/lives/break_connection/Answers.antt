use Rattle.fw_bus_engine.proofs.OneAction.{does_silent}
use Rattle.fw_bus_engine.proofs.LifeTurns.{break_turns}
use Rattle.fw_bus_engine.proofs.Common.{living_there}
use Rattle.fw_bus_engine.proofs.lives.break_connection.Goals as goal

pub break_connection-requires : goal.break_connection-requires
break_connection-requires g c = record {
  device = (living_there c.args.machine.now c.args.device c.requires.ready c.requires.living).controller;
  accepted = c.requires.accepted;
}

pub returns : goal.returns
returns g c = record {
  does = does_silent (g.K.Sink.held c.args.sink.now) (g.K.Sink.faults c.args.sink.now) c.args.machine.now.cycle tt
      (break_turns c.args.machine.now c.break_connection.new.self c.args.device c.args.slot c.requires.living c.requires.accepted c.break_connection.ensures);
}
