use Rattle.fw_log.proofs.BodyLaws.{none_given}
use Rattle.fw_log.proofs.read_body.async_of.Goals as goal

pub returns-else-used-body : goal.returns-else-used-body
returns-else-used-body c = none_given c.args.body.now c.read_packet.result c.in-Ok.fed c.read_packet.ensures.packet c.read_packet.ensures.fault c.in-Ok.is (λ p same is. c.if-used-body.false same)

pub returns-in-None : goal.returns-in-None
returns-in-None c = none_given c.args.body.now c.read_packet.result c.in-Ok.fed c.read_packet.ensures.packet c.read_packet.ensures.fault c.in-Ok.is (λ p same is. cc (is, c.in-None.is))

pub whole_packet-requires : goal.whole_packet-requires
whole_packet-requires c = c.is_plain_packet.ensures.packet c.if-is_plain_packet.true c.requires.whole
