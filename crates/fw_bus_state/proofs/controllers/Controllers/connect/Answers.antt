use Rattle.fw_bus_state.proofs.Common.{refl, ap, Listening}
use Rattle.std.proofs.Common.{Ok}
use Rattle.fw_cmp.specs.Losses.{with_state}
use Rattle.fw_cmp.specs.Starts.{started}
use Rattle.fw_model_run.specs.Afterwards.{slot_of}
use Rattle.fw_bus_state.proofs.Tables.{table_set}
use Rattle.fw_bus_state.proofs.Touched.{same_losses, touched}
use Rattle.fw_bus_state.proofs.controllers.Controllers.connect.Goals as goal

pub returns : goal.returns
returns c =
    table_set c.args.self.now c.self.inside.list.items c.self.inside.dead c.args.device c.from.result (λ x. with_state x (started (Ok c.args.slot) (slot_of c.args.wanted.now) x.state))
    c.index_mut.result.now c.place.new.self
    c.self.view_is c.requires.device c.from.ensures c.index_mut.ensures.value (rw c.slot_of.ensures at c.place.ensures.state)

pub invariant_of-self : goal.invariant_of-self
invariant_of-self c =
    touched c.self.inside c.args.self.now c.self.inside.dead c.self.inside.deaf c.args.device c.from.result c.from-2.result c.from-3.result c.index_mut.result.now c.place.new.self
    c.self.view_is c.requires.device c.from.ensures c.from-2.ensures c.from-3.ensures c.index_mut.ensures.value refl
    (same_losses c.self.inside.deaf c.index_mut.result.now c.place.new.self (ap (λ (x : Listening). x.lost) c.place.ensures.state)) c.self.invariant
