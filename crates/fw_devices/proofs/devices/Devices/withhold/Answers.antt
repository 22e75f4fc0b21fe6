use Rattle.fw_devices.proofs.Common.{◌≡◌, [], sym, subst, Network}
use Rattle.fw_devices.proofs.NetworkLaws.{network_withheld}
use Rattle.fw_devices.proofs.devices.Devices.withhold.Goals as goal

pub invariant_of-self : goal.invariant_of-self
invariant_of-self c =
    let h = c.self.invariant in
    let none : c.self.inside.names ≡ [] = subst (λ (n : Network). n.names ≡ []) (sym c.self.view_is) c.requires.first in
    record {
      network = network_withheld _ h.network none;
      few = h.few;
      same = h.same;
      nodes_room = h.nodes_room;
      found = h.found;
    }
