use Rattle.fw_bus_engine.proofs.Common.{refl}
use Rattle.fw_bus_engine.proofs.Plain.{limit_stays}
use Rattle.fw_bus_engine.proofs.playing.put_recorded.Goals as goal

pub put_talking_plugs-requires : goal.put_talking_plugs-requires
put_talking_plugs-requires g c = record { ready = c.requires.ready; desk = c.requires.desk; talking_plugs = c.requires.talking_plugs; nothing = refl; room = c.requires.room }

pub keep-requires : goal.keep-requires
keep-requires g c = limit_stays c.args.deck c.put_talking_plugs.new.heard c.put_talking_plugs.ensures.same c.requires.limit

pub returns : goal.returns
returns g c = record {
  puts = record { heard = c.put_talking_plugs.new.heard; same = c.put_talking_plugs.ensures.same; puts = c.put_talking_plugs.ensures.puts; kept = c.keep.ensures };
  talking_plugs = c.put_talking_plugs.ensures.talking_plugs;
  count = c.put_talking_plugs.ensures.count;
}
