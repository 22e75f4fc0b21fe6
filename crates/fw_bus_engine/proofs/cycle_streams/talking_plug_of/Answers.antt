use Rattle.fw_bus_engine.proofs.Common.{arith}
use Rattle.fw_bus_engine.proofs.PacketTurns.{ready_talker}
use Rattle.fw_bus_engine.proofs.cycle_streams.talking_plug_of.Goals as goal

pub number-requires : goal.number-requires
number-requires c = (ready_talker _ _ c.requires.ready c.requires.declared c.requires.talks).0

pub talker-requires : goal.talker-requires
talker-requires c = record { declared = (ready_talker _ _ c.requires.ready c.requires.declared c.requires.talks).2 }

pub tape_in-requires : goal.tape_in-requires
tape_in-requires c = (ready_talker _ _ c.requires.ready c.requires.declared c.requires.talks).0

pub returns : goal.returns
returns c = record {
  number = c.number.ensures.value;
  low = let few = c.number.ensures.range in omega (arith, few);
  talks = c.talker.ensures.channel;
  sent = c.talker.ensures.count;
  tape = c.tape_in.ensures;
}
