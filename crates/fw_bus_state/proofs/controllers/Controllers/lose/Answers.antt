use Rattle.fw_bus_state.proofs.Common.{refl, sym, false≢true}
use Rattle.fw_cmp.specs.Losses.{after_loss}
use Rattle.fw_bus_state.proofs.Tables.{table_set}
use Rattle.fw_bus_state.proofs.Touched.{touched}
use Rattle.fw_bus_state.proofs.controllers.Controllers.lose.Goals as goal

pub returns : goal.returns
returns c =
    table_set c.args.self.now c.self.inside.list.items c.self.inside.dead c.args.device c.from.result after_loss c.index_mut.result.now c.lose.new.self
    c.self.view_is c.requires.device c.from.ensures c.index_mut.ensures.value c.lose.ensures.state

pub invariant_of-self : goal.invariant_of-self
invariant_of-self c =
    touched c.self.inside c.args.self.now c.self.inside.dead _ c.args.device c.from.result c.from-2.result c.from-3.result c.index_mut.result.now c.lose.new.self
    c.self.view_is c.requires.device c.from.ensures c.from-2.ensures c.from-3.ensures c.index_mut.ensures.value refl (λ none. absurd (false≢true (sym none))) c.self.invariant
