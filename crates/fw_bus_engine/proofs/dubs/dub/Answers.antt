use Rattle.fw_bus_engine.proofs.OneAction.{does_entry}
use Rattle.fw_bus_engine.proofs.TapeTurns.{few_devices}
use Rattle.fw_bus_engine.proofs.Tying.{tie_turns}
use Rattle.fw_bus_engine.proofs.dubs.dub.Goals as goal

pub dubbing-requires : goal.dubbing-requires
dubbing-requires g c = few_devices c.requires.ready c.requires.declared

pub returns : goal.returns
returns g c = record {
  does = does_entry
      (tie_turns c.args.machine.now c.clear.new.self c.args.device c.dubbing.result c.requires.declared c.requires.deck c.requires.on c.dubbing.ensures.value c.clear.ensures)
      c.emit.ensures;
}
