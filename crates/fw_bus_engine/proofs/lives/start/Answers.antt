use Rattle.fw_bus_engine.proofs.Common.{sym, ◌∙◌}
use Rattle.fw_bus_engine.proofs.OneAction.{does_as, does_entry, does_nothing}
use Rattle.fw_bus_engine.proofs.LifeOrders.{goes_on_at, starts_at}
use Rattle.fw_bus_engine.proofs.LifeTurns.{start_turns}
use Rattle.fw_bus_state.proofs.Living.{linked_there}
use Rattle.fw_bus_engine.proofs.lives.start.Goals as goal

pub returns-then-not-is_dead : goal.returns-then-not-is_dead
returns-then-not-is_dead g c = record {
  does = does_nothing c.args.machine.now (g.K.Sink.held c.args.sink.now) (g.K.Sink.faults c.args.sink.now) tt
      (goes_on_at c.args.machine.now c.args.device (sym c.is_dead.ensures ∙ c.if-not-is_dead.true));
}

pub start-requires : goal.start-requires
start-requires g c = (linked_there c.args.machine.now c.args.device c.requires.ready c.requires.linked).controller

pub started-requires : goal.started-requires
started-requires g c = (linked_there c.args.machine.now c.args.device c.requires.ready c.requires.linked).low

pub returns : goal.returns
returns g c = record {
  does = does_as (starts_at c.args.device) (does_entry
      (start_turns c.args.machine.now c.start.new.self c.args.device c.started.result c.requires.linked (sym c.is_dead.ensures ∙ c.if-not-is_dead.false) c.started.ensures.value c.start.ensures)
      c.emit.ensures);
}
