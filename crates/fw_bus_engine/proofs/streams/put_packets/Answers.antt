use Rattle.fw_bus_engine.proofs.Common.{◌∙◌, refl, sym, arith}
use Rattle.fw_bus_engine.proofs.Packets.{packets_none, packets_skip, packets_then, packets_whole}
use Rattle.fw_bus_engine.proofs.streams.put_packets.Goals as goal
use Rattle.fw_bus_engine.proofs.streams.put_packets.Goals.{in-Some, in_default}

pub loop-channel-init : goal.loop-channel-init
loop-channel-init g c = record { puts = packets_none c.args.heard.now _ _ _ _ c.requires.nothing; same = refl; size = omega arith }

pub put_packet-requires-clause-declared : goal.put_packet-requires-clause-declared
put_packet-requires-clause-declared g c = (c.requires.talkers.talk _ _ (sym c.get.ensures ∙ c.in-Some.is)).0

pub put_packet-requires-clause-talks : goal.put_packet-requires-clause-talks
put_packet-requires-clause-talks g c = (c.requires.talkers.talk _ _ (sym c.get.ensures ∙ c.in-Some.is)).1

pub put_packet-requires-clause-room : goal.put_packet-requires-clause-room
put_packet-requires-clause-room g c =
    let few = c.end-channel-end.ensures.few in
    let low = c.loop-channel-test.true in
    let size = c.loop-channel.invariant.size in
    let room = c.requires.room in
    omega (arith, few, low, size, room)

pub loop-channel-preserved : goal.loop-channel-preserved
loop-channel-preserved g c = elim c.match-get.branch [
  | in-Some w ↦ rw w.room-is (rw w.heard-is (record {
    puts = packets_then _ c.args.heard.now c.loop-channel.heard w.put_packet.new.heard _ _ _ c.requires.talkers
        (sym c.get.ensures ∙ w.in-Some.is) c.loop-channel.invariant.puts w.put_packet.ensures.puts;
    same = w.put_packet.ensures.same ∙ c.loop-channel.invariant.same;
    size = let more = w.put_packet.ensures.size in let size = c.loop-channel.invariant.size in omega (arith, more, size);
  }))
  | in_default w ↦ rw w.room-is (rw w.heard-is (record {
    puts = packets_skip c.args.heard.now c.loop-channel.heard _ _ c.requires.talkers (sym c.get.ensures ∙ w.in_default.is) c.loop-channel.invariant.puts;
    same = c.loop-channel.invariant.same;
    size = let size = c.loop-channel.invariant.size in omega (arith, size);
  }))
]

pub returns : goal.returns
returns g c =
    let few = c.end-channel-end.ensures.few in
    let low = c.loop-channel.auto.channel-end in
    let past = c.loop-channel-test.false in
    record {
      puts = packets_whole c.args.heard.now c.loop-channel.heard _ _ (omega (arith, few, low)) c.requires.talkers
          (λ channel following. c.end-channel-end.ensures.silent channel (omega (arith, following, past)))
          c.loop-channel.invariant.puts;
      same = c.loop-channel.invariant.same;
    }
