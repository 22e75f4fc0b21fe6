use Rattle.fw_bus_state.proofs.Common.{refl, ap, Listening}
use Rattle.fw_cmp.specs.Losses.{with_state}
use Rattle.fw_cmp.specs.Starts.{break_started}
use Rattle.fw_bus_state.proofs.Tables.{table_set}
use Rattle.fw_bus_state.proofs.Touched.{same_losses, touched}
use Rattle.fw_bus_state.proofs.controllers.Controllers.break_connection.Goals as goal

pub returns : goal.returns
returns c =
    table_set c.args.self.now c.self.inside.list.items c.self.inside.dead c.args.device c.from.result (λ x. with_state x (break_started x.state c.args.slot))
    c.index_mut.result.now c.place_break.new.self
    c.self.view_is c.requires.device c.from.ensures c.index_mut.ensures.value c.place_break.ensures.state

pub invariant_of-self : goal.invariant_of-self
invariant_of-self c =
    touched c.self.inside c.args.self.now c.self.inside.dead c.self.inside.deaf c.args.device c.from.result c.from-2.result c.from-3.result c.index_mut.result.now c.place_break.new.self
    c.self.view_is c.requires.device c.from.ensures c.from-2.ensures c.from-3.ensures c.index_mut.ensures.value refl
    (same_losses c.self.inside.deaf c.index_mut.result.now c.place_break.new.self (ap (λ (x : Listening). x.lost) c.place_break.ensures.state)) c.self.invariant
