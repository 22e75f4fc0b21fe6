use Rattle.std.proofs.Common.{arith, sym}
use Rattle.fw_node.specs.State.{space_of}
use Rattle.fw_node.proofs.Served.{served}
use Rattle.fw_node.proofs.node.Node.serve_packet.Goals as goal

pub returns-clause-response : goal.returns-clause-response
returns-clause-response c =
    let s = space_of c.args.number c.args.now c.args.self.now in
    served s c.args.p.now c.response.result c.request_of.result c.reply-reply.result c.put.new.self c.request_of.ensures c.reply-reply.ensures.reply
    (omega (arith, c.reply-reply.type_inv)) c.response.ensures.packet
    (record { fits = c.response.ensures.fits (omega (arith, c.reply-reply.ensures.code)) c.requires.fits; same = sym c.put.ensures })
