use Rattle.fw_tree.proofs.Common.{◌++◌, ◌∷◌, [], ap, ◌∙◌, PhyPacket}
use Rattle.fw_tree.specs.SelfIds.{first_packet, further_packet}
use Rattle.fw_tree.proofs.SelfIdLaws.{four}
use Rattle.fw_tree.proofs.self_ids.push_node.Goals as goal

pub returns-then-facts-gt3-clause-packets : goal.returns-then-facts-gt3-clause-packets
returns-then-facts-gt3-clause-packets c =
    let f = c.args.facts.now in
    let cables = c.args.cables.now in
    let q = c.args.parent in
    let put = λ (p : PhyPacket). c.args.out.now ++ p ∷ [] in
    four c.args.out.now (first_packet f cables q c.args.phy c.args.initiator ∷ []) (further_packet f cables q c.args.phy 0) (further_packet f cables q c.args.phy 1)
    (further_packet f cables q c.args.phy 2) c.push.new.self c.push_further.new.out c.push_further-then-facts-gt3.new.out c.push_further-then-facts-gt3-2.new.out
    (c.push.ensures ∙ ap put c.first_packet.ensures) c.push_further.ensures.packets c.push_further-then-facts-gt3.ensures.packets c.push_further-then-facts-gt3-2.ensures.packets
