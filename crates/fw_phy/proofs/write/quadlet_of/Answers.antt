use Rattle.std.proofs.Common.{ap, sym, ◌∙◌}
use Rattle.fw_phy.specs.Phy.{quadlet_of}
use Rattle.fw_phy.proofs.write.quadlet_of.Goals as goal

pub self_id_quadlet-requires : goal.self_id_quadlet-requires
self_id_quadlet-requires c = rw c.in-SelfId.is at c.requires

pub self_id_more_quadlet-requires : goal.self_id_more_quadlet-requires
self_id_more_quadlet-requires c = rw c.in-SelfIdMore.is at c.requires

pub returns-in-SelfId : goal.returns-in-SelfId
returns-in-SelfId c = c.self_id_quadlet.ensures ∙ ap quadlet_of (sym c.in-SelfId.is)

pub returns-in-SelfIdMore : goal.returns-in-SelfIdMore
returns-in-SelfIdMore c = c.self_id_more_quadlet.ensures ∙ ap quadlet_of (sym c.in-SelfIdMore.is)
