use Rattle.fw_tree.proofs.Common.{arith, ◌++◌, ◌∷◌, [], ap, ◌∙◌, sym, PhyPacket}
use Rattle.fw_tree.proofs.SelfIdLaws.{further_is}
use Rattle.fw_tree.proofs.self_ids.push_further.Goals as goal

pub returns-then-first_port-facts-clause-packets : goal.returns-then-first_port-facts-clause-packets
returns-then-first_port-facts-clause-packets c =
    let put = λ (p : PhyPacket). c.args.out.now ++ p ∷ [] in
    c.push.ensures ∙ ap put c.more_packet.ensures ∙ ap (λ ps. c.args.out.now ++ ps)
    (sym (further_is c.args.facts.now c.args.cables.now c.args.parent c.args.phy c.args.number (let low = c.if-first_port-facts.true in let e = c.first_port.ensures in omega arith)))
