use Rattle.fw_async.proofs.PrefixLaws.{reads_packet, reads_fault}
use Rattle.fw_async.proofs.reader.read_packet.Goals as goal

pub returns-clause-packet : goal.returns-clause-packet
returns-clause-packet c = reads_packet c.args.bytes.now c.read_prefix.result c.read_prefix.ensures

pub returns-clause-fault : goal.returns-clause-fault
returns-clause-fault c = reads_fault c.args.bytes.now c.read_prefix.result c.read_prefix.ensures
