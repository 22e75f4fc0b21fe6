use Rattle.fw_bus_state.proofs.Common.{refl, sym, false≢true}
use Rattle.fw_bus_state.proofs.Touched.{touched}
use Rattle.fw_bus_state.proofs.controllers.Controllers.put.Goals as goal

pub invariant_of-self : goal.invariant_of-self
invariant_of-self c =
    touched c.self.inside c.args.self.now c.self.inside.dead _ c.args.device c.args.device c.args.device c.args.device c.index_mut.result.now c.copy_from.new.self
    c.self.view_is c.requires refl refl refl c.index_mut.ensures.value refl (λ none. absurd (false≢true (sym none))) c.self.invariant
