use Rattle.fw_log.proofs.Common.{arith}
use Rattle.fw_log.proofs.PlainHeadLaws.{body_reset, body_packet, body_iso}
use Rattle.fw_log.proofs.plain.plain_body.Goals as goal

pub returns-else-not-is_right : goal.returns-else-not-is_right
returns-else-not-is_right c = body_reset c.args.kind c.args.bytes.now c.new.result c.in-1.is (c.is_right.ensures.reset c.if-not-is_right.false) c.new.ensures

pub returns-else-not-is_plain_packet : goal.returns-else-not-is_plain_packet
returns-else-not-is_plain_packet c =
    body_packet c.args.kind c.args.bytes.now c.new-in-2.result c.in-2.is
    (c.is_plain_packet.ensures.packet c.if-not-is_plain_packet.false (omega (arith, c.requires.size.1)))
    c.new-in-2.ensures

pub returns-in-Ok : goal.returns-in-Ok
returns-in-Ok c = body_iso c.args.kind c.args.bytes.now c.new-in-Ok.result c.in-Ok.field-0 c.in-3.is c.in-Ok.ensures.found.0 c.in-Ok.ensures.found.1 c.new-in-Ok.ensures
