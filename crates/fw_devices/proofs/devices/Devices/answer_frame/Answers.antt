use Rattle.fw_devices.proofs.Common.{◌<◌, length, rules}
use Rattle.fw_devices.proofs.DeckLaws.{same_followed, kept_same}
use Rattle.fw_devices.proofs.NetworkLaws.{same_set}
use Rattle.fw_devices.proofs.devices.Devices.answer_frame.Goals as goal

pub invariant_of-self : goal.invariant_of-self
invariant_of-self g c =
    let low : c.from.result < length c.self.inside.nodes.items = search rules in
    kept_same _ _ _ _ _ c.self.invariant (same_set c.self.inside.nodes.items c.from.result c.index_mut.result.now c.answer.new.self low c.index_mut.ensures.value
    (same_followed _ _ _ c.index_mut.result.now c.answer.new.self c.answer.ensures.node))
