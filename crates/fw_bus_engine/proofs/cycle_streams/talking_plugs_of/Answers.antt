use Rattle.fw_bus_engine.proofs.Common.{arith}
use Rattle.fw_bus_engine.proofs.Players.{all_there, at_more}
use Rattle.fw_bus_engine.proofs.cycle_streams.talking_plugs_of.Goals as goal

pub loop-channel-preserved : goal.loop-channel-preserved
loop-channel-preserved c = record {
  count = let grown = c.push.ensures.len in let size = c.loop-channel.invariant.count in omega (arith, grown, size);
  at = at_more _ _ _ c.loop-channel.talking_plugs.items _ c.loop-channel.channel c.talking_plug_on.result c.push.ensures.items c.loop-channel.invariant.count c.loop-channel.invariant.at
      c.talking_plug_on.ensures;
}

pub returns : goal.returns
returns c =
    let past = c.loop-channel-test.false in
    let low = c.loop-channel.auto.channel-end in
    let few = c.end-channel-end.ensures.few in
    all_there c.talkers-talkers.result c.loop-channel.talking_plugs.items c.loop-channel.channel (omega (arith, low, few)) c.talkers-talkers.ensures
    (λ channel following. c.end-channel-end.ensures.silent channel (omega (arith, following, past))) c.loop-channel.invariant.count c.loop-channel.invariant.at
