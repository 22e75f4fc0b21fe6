use Rattle.std.proofs.Common.{◌≡◌, List, ℕ, take, refl}
use Rattle.fw_async.specs.declared.packet.Packet.{Packet}
use Rattle.fw_async.specs.declared.packet.Packet.TheVariants.{ReadQuadletReply}
use Rattle.fw_log_json_packets.specs.Standing.{head_standing}
use Rattle.fw_log_json_packets.proofs.StandingKinds.{read_reply_is}
use Rattle.fw_log_json_packets.proofs.UsualTexts.{fields_written}
use Rattle.fw_log_json_packets.proofs.responses.write_read_reply.Goals as goal

pub returns-clause-text : goal.returns-clause-text
returns-clause-text c p s =
    let bytes : List ℕ = c.args.bytes.now in
    let q : Packet = ReadQuadletReply (head_standing bytes) c.args.rcode c.quadlet_at.result.0 in
    let same : q ≡ p = read_reply_is p bytes (head_standing bytes) c.args.rcode c.quadlet_at.result.0 s c.requires.code refl c.requires.rcode c.quadlet_at.ensures.value in
    let first = c.write_opening-at.ensures.text in
    let rest = c.write_rcode_quadlet.ensures.text in
    fields_written p q (take c.args.at c.args.out.now) _ _ _ _ same c.read_reply.ensures first rest
