use Rattle.fw_devices.proofs.Common.{◌≡◌, ◌∙◌, length, map, arith, refl, ap, with_items, with_items_is, after_second}
use Rattle.fw_devices.proofs.NetworkLaws.{network_kept, same_second}
use Rattle.fw_devices.proofs.ResetLaws.{found_same}
use Rattle.fw_devices.proofs.devices.Devices.second_over.Goals as goal

pub invariant_of-self : goal.invariant_of-self
invariant_of-self c =
    let nodes = c.self.inside.nodes.items in
    let same = same_second nodes in
    let made : c.end_second.new.nodes ≡ map after_second nodes = c.end_second.ensures ∙ ap (map after_second) c.deref_mut.ensures.value in
    let size : length c.end_second.new.nodes ≡ length nodes = ap length made ∙ same.size in
    let written : (with_items c.self.inside.nodes c.end_second.new.nodes).items ≡ map after_second nodes =
    with_items_is c.self.inside.nodes c.end_second.new.nodes (let long = c.self.inside.nodes.ok.0 in omega arith) ∙ made in
    rw written (record {
      network = network_kept _ _ c.self.invariant.network refl refl refl same;
      few = c.self.invariant.few;
      same = same.size ∙ c.self.invariant.same;
      nodes_room = c.self.invariant.nodes_room;
      found = λ now. found_same _ _ _ _ _ _ same (c.self.invariant.found now);
    })

pub returns : goal.returns
returns c =
    let nodes = c.self.inside.nodes.items in
    let same = same_second nodes in
    let made : c.end_second.new.nodes ≡ map after_second nodes = c.end_second.ensures ∙ ap (map after_second) c.deref_mut.ensures.value in
    let size : length c.end_second.new.nodes ≡ length nodes = ap length made ∙ same.size in
    let written : (with_items c.self.inside.nodes c.end_second.new.nodes).items ≡ map after_second nodes =
    with_items_is c.self.inside.nodes c.end_second.new.nodes (let long = c.self.inside.nodes.ok.0 in omega arith) ∙ made in
    rw (← c.self.view_is, written) refl
