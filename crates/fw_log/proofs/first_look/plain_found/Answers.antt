use Rattle.fw_log.proofs.Common.{arith, ap, length, position}
use Rattle.fw_log.proofs.FoundLaws.{found_packet}
use Rattle.fw_log.proofs.first_look.plain_found.Goals as goal

pub returns : goal.returns
returns c =
    let head = c.in_ok-passed.ensures in
    let same = c.as_slice-packet.ensures in
    let x = c.is_plain_packet.ensures.packet c.if-not-is_plain_packet.false (omega (arith, head.size.1, ap length same)) in
    found_packet (position c.args.stand) c.args.bytes.now c.as_slice-packet.result.now c.in_ok-passed.field-0 c.whole_packet.result head same c.if-kind-ne-ASYNC.false x
    (c.whole_packet.ensures.same x.packet x.spells)
