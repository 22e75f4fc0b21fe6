use Rattle.fw_log.proofs.Common.{arith}
use Rattle.fw_log.proofs.PlainHeadLaws.{plain_reset, plain_async, plain_annotation}
use Rattle.fw_log.proofs.plain.is_plain_body.Goals as goal

pub returns-in-1 : goal.returns-in-1
returns-in-1 c plain = plain_reset c.args.kind c.args.body.now c.in-1.is (c.is_right.ensures.reset plain)

pub returns-in-2 : goal.returns-in-2
returns-in-2 c plain =
    plain_async c.args.kind c.args.body.now c.in-2.is (c.is_plain_packet.ensures.packet plain (omega (arith, c.requires.size.1)))

pub returns-in_default : goal.returns-in_default
returns-in_default c plain = plain_annotation c.args.kind c.args.body.now (c.is_annotation_body.ensures plain)
