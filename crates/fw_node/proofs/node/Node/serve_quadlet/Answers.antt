use Rattle.std.proofs.Common.{arith}
use Rattle.fw_async.specs.Quadlets.{request_packet}
use Rattle.fw_node.specs.State.{space_of}
use Rattle.fw_node.proofs.Served.{served, answered}
use Rattle.fw_node.proofs.node.Node.serve_quadlet.Goals as goal

pub returns-clause-response : goal.returns-clause-response
returns-clause-response c =
    let s = space_of c.args.number c.args.now c.args.self.now in
    let p = request_packet c.args.asked.now in
    let x = answered c.args.number p c.asked_of.result c.reply-reply.result c.asked_of.ensures in
    served s p x.0 c.asked_of.result c.reply-reply.result c.put_reply.new.out c.asked_of.ensures c.reply-reply.ensures.reply (omega (arith, c.reply-reply.type_inv)) x.1 (c.put_reply.ensures x.0 x.1)
