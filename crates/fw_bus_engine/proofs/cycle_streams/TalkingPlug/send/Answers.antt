use Rattle.fw_bus_engine.proofs.Common.{Some, None, refl, arith}
use Rattle.fw_bus_engine.proofs.PacketTurns.{gives_none, gives_some, packet_same}
use Rattle.fw_bus_engine.proofs.cycle_streams.TalkingPlug.send.Goals as goal

pub put-requires-clause-fits : goal.put-requires-clause-fits
put-requires-clause-fits g c = c.cycle-packet.ensures.fits (let low = c.requires.low in let same = c.requires.channel in omega (arith, low, same)) c.requires.own

pub put-requires-in-None-clause-fits : goal.put-requires-in-None-clause-fits
put-requires-in-None-clause-fits g c = c.cycle-packet-in-None.ensures.fits (let low = c.requires.low in let same = c.requires.channel in omega (arith, low, same)) c.requires.own

pub returns-in-Some : goal.returns-in-Some
returns-in-Some g c = record {
  sends = record {
    block = Some c.block-bytes.result;
    gives = gives_some _ c.in-Some.place c.block-bytes.result c.in-Some.ensures.value c.block-bytes.ensures;
    tape = c.pass.ensures.passed;
    own = refl;
    talker = c.cycle-packet.ensures.channel;
    packet = c.cycle-packet.result;
    packet_is = λ blocks sent. packet_same blocks _ (c.cycle-packet.ensures.packet blocks sent) c.requires.channel c.fifty-fifty.ensures refl;
    fits = c.cycle-packet.ensures.fits (let low = c.requires.low in let same = c.requires.channel in omega (arith, low, same)) c.requires.own;
    bytes = c.put.ensures.bytes;
    sent = λ blocks sent. c.cycle-packet.ensures.count blocks sent;
    heard_is = c.hear_block.ensures;
  };
  size = c.put.ensures.size;
}

pub returns-in-None : goal.returns-in-None
returns-in-None g c = record {
  sends = record {
    block = None;
    gives = gives_none _ c.in-None.ensures.value;
    tape = c.pass.ensures.passed;
    own = refl;
    talker = c.cycle-packet-in-None.ensures.channel;
    packet = c.cycle-packet-in-None.result;
    packet_is = λ blocks sent. packet_same blocks _ (c.cycle-packet-in-None.ensures.packet blocks sent) c.requires.channel c.fifty-fifty.ensures refl;
    fits = c.cycle-packet-in-None.ensures.fits (let low = c.requires.low in let same = c.requires.channel in omega (arith, low, same)) c.requires.own;
    bytes = c.put-in-None.ensures.bytes;
    sent = λ blocks sent. c.cycle-packet-in-None.ensures.count blocks sent;
    heard_is = refl;
  };
  size = c.put-in-None.ensures.size;
}
