use Rattle.fw_bus_state.proofs.Common.{false, ap, length-set, Listening}
use Rattle.fw_bus_state.proofs.Touched.{renewed, touched}
use Rattle.fw_bus_state.proofs.controllers.Controllers.start.Goals as goal

pub returns : goal.returns
returns c =
    renewed c.self.inside c.args.self.now c.args.device c.from.result c.from-2.result false c.new.result c.self.view_is c.requires c.self.invariant.0 c.from.ensures c.from-2.ensures
    c.new.ensures.state

pub invariant_of-self : goal.invariant_of-self
invariant_of-self c =
    touched c.self.inside c.args.self.now _ c.self.inside.deaf c.args.device c.from.result c.from-3.result c.from-4.result c.index_mut.result.now c.new.result
    c.self.view_is c.requires c.from.ensures c.from-3.ensures c.from-4.ensures c.index_mut.ensures.value (length-set c.self.inside.dead c.from-2.result false)
    (λ none. (none, λ heard. ap (λ (x : Listening). x.lost) c.new.ensures.state)) c.self.invariant
