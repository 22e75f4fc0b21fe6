use Rattle.fw_bus_engine.proofs.Common.{◌++◌, ◌∙◌, ℕ, Option, Some, None, refl, ap, entry_bytes, Two, unheard, Recording}
use Rattle.fw_log_entry.specs.declared.entry.Entry.TheVariants.{Iso}
use Rattle.fw_bus_state.specs.Streaming.{count_at}
use Rattle.fw_bus_engine.proofs.PacketTurns.{ready_talker, gives_none, gives_some, packet_done, packet_fits, packet_same}
use Rattle.fw_bus_engine.proofs.OneAction.{no_faults}
use Rattle.fw_bus_engine.proofs.Packets.{unheard_same}
use Rattle.fw_bus_engine.proofs.streams.put_packet.Goals as goal

pub talker-talker-requires : goal.talker-talker-requires
talker-talker-requires g c = record { declared = (ready_talker _ _ c.requires.ready c.requires.declared c.requires.talks).2 }

pub number-own-requires : goal.number-own-requires
number-own-requires g c = (ready_talker _ _ c.requires.ready c.requires.declared c.requires.talks).0

pub put-requires-clause-fits : goal.put-requires-clause-fits
put-requires-clause-fits g c =
    packet_fits _ _ c.requires.ready c.requires.declared c.requires.talks c.talker-talker.ensures.channel c.number-own.ensures.range c.cycle-packet.ensures.fits

pub put-requires-in-None-clause-fits : goal.put-requires-in-None-clause-fits
put-requires-in-None-clause-fits g c =
    packet_fits _ _ c.requires.ready c.requires.declared c.requires.talks c.talker-talker.ensures.channel c.number-own.ensures.range
    c.cycle-packet-in-None.ensures.fits

pub returns-in-Some : goal.returns-in-Some
returns-in-Some g c =
    let made = c.cycle-packet.ensures.packet (count_at c.args.before.now c.args.device) c.talker-talker.ensures.count in
    record {
      puts = packet_done c.args.heard.now c.hear_block.new.recording (Some c.block-bytes.result) (record {
        declared = c.requires.declared;
        talks = c.requires.talks;
        number = c.number-own.ensures.value;
        gives = gives_some _ c.in-Some.place c.block-bytes.result c.in-Some.ensures.value c.block-bytes.ensures;
        packet_is = packet_same _ _ made c.talker-talker.ensures.channel c.fifty-fifty.ensures refl;
        fits = packet_fits _ _ c.requires.ready c.requires.declared c.requires.talks c.talker-talker.ensures.channel c.number-own.ensures.range
            c.cycle-packet.ensures.fits;
      }) c.hear_block.ensures (c.put.ensures.bytes ∙ ap (λ (n : ℕ). c.args.room.now
          ++ entry_bytes Two n (record { cycle = c.args.machine.now.cycle; what = Iso c.cycle-packet.result })) c.epoch.ensures) (no_faults 0 (tt {0}));
      size = c.put.ensures.size;
      same = ap (λ (o : Option Recording). unheard o) c.hear_block.ensures ∙ unheard_same c.args.channel (Some c.block-bytes.result) c.args.heard.now;
    }

pub returns-in-None : goal.returns-in-None
returns-in-None g c =
    let made = c.cycle-packet-in-None.ensures.packet (count_at c.args.before.now c.args.device) c.talker-talker.ensures.count in
    record {
      puts = packet_done c.args.heard.now c.args.heard.now None (record {
        declared = c.requires.declared;
        talks = c.requires.talks;
        number = c.number-own.ensures.value;
        gives = gives_none _ c.in-None.ensures.value;
        packet_is = packet_same _ _ made c.talker-talker.ensures.channel c.fifty-fifty.ensures refl;
        fits = packet_fits _ _ c.requires.ready c.requires.declared c.requires.talks c.talker-talker.ensures.channel c.number-own.ensures.range
            c.cycle-packet-in-None.ensures.fits;
      }) refl (c.put-in-None.ensures.bytes ∙ ap (λ (n : ℕ). c.args.room.now
          ++ entry_bytes Two n (record { cycle = c.args.machine.now.cycle; what = Iso c.cycle-packet-in-None.result })) c.epoch-in-None.ensures) (no_faults 0 (tt {0}));
      size = c.put-in-None.ensures.size;
      same = refl;
    }
