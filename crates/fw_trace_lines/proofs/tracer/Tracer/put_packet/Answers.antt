use Rattle.fw_trace_lines.proofs.ReplyLaws.{said_put}
use Rattle.fw_trace_lines.proofs.tracer.Tracer.put_packet.Goals as goal

pub returns-clause-text : goal.returns-clause-text
returns-clause-text c = said_put c.put_said.result c.args.self.now c.put_said.new.self c.args.cycle c.args.p.now c.of.result c.of.ensures c.put_said.ensures.text
