use Rattle.fw_devices.proofs.Common.{◌<◌, length, rules, None, sym, subst}
use Rattle.fw_devices.proofs.DeckLaws.{same_tape, kept_same}
use Rattle.fw_devices.proofs.NetworkLaws.{IsSameDevice, same_set}
use Rattle.fw_devices.proofs.devices.Devices.eject.Goals as goal

pub invariant_of-self : goal.invariant_of-self
invariant_of-self c =
    let low : c.from.result < length c.self.inside.nodes.items = search rules in
    kept_same _ _ _ _ _ c.self.invariant (same_set c.self.inside.nodes.items c.from.result c.index_mut.result.now c.eject.new.node low c.index_mut.ensures.value
    (subst (IsSameDevice c.index_mut.result.now) (sym c.eject.ensures.out) (same_tape None c.index_mut.result.now)))
