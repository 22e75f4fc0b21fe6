use Rattle.fw_devices.proofs.Common.{◌<◌, ◌∙◌, length, rules, refl, sym, subst, NodeState}
use Rattle.fw_node.specs.Packets.{request_in}
use Rattle.fw_devices.proofs.NetworkLaws.{IsSameDevice, same_after, same_set, network_kept}
use Rattle.fw_devices.proofs.ResetLaws.{found_same}
use Rattle.fw_devices.proofs.devices.Devices.answer.Goals as goal

pub invariant_of-self : goal.invariant_of-self
invariant_of-self c =
    let low : c.from.result < length c.self.inside.nodes.items = search rules in
    let P : NodeState → Type 0 = IsSameDevice c.index_mut.result.now in
    let same = same_set c.self.inside.nodes.items c.from.result c.index_mut.result.now c.answer_packet.new.self low c.index_mut.ensures.value
    (subst P (sym c.answer_packet.ensures.registers) (same_after (request_in c.args.packet.now) c.index_mut.result.now)) in
    record {
      network = network_kept _ _ c.self.invariant.network refl refl refl same;
      few = c.self.invariant.few;
      same = same.size ∙ c.self.invariant.same;
      nodes_room = c.self.invariant.nodes_room;
      found = λ now. found_same _ _ _ _ _ _ same (c.self.invariant.found now);
    }
