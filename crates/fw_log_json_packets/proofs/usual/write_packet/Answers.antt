use Rattle.std.proofs.Common.{take}
use Rattle.fw_log_json_packets.specs.Packets.{packet_fields}
use Rattle.fw_log_json_packets.proofs.UsualTexts.{ended}
use Rattle.fw_log_json_packets.proofs.usual.write_packet.Goals as goal

pub returns-in-Some-clause-text : goal.returns-in-Some-clause-text
returns-in-Some-clause-text c p s =
    ended (take c.args.at c.args.out.now) _ _ (take c.args.size c.args.prefix.now) (packet_fields p) (c.in-Some.ensures.text p s) c.write_row.ensures.text
