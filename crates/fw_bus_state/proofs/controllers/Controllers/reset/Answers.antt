use Rattle.fw_bus_state.proofs.Common.{◌≡◌, false, List, length, map, ap, refl, ◌∙◌, length-map, Listening}
use Rattle.fw_cmp.specs.Losses.{after_bus_reset}
use Rattle.fw_bus_state.proofs.Tables.{few_after, fresh_after, fresh_calm, hearing_after}
use Rattle.fw_bus_state.proofs.controllers.Controllers.reset.Goals as goal

pub invariant_of-self : goal.invariant_of-self
invariant_of-self c =
    let old : List Listening = c.self.inside.list.items in
    let new : List Listening = c.reset_each.new.list in
    let is : new ≡ map (after_bus_reset c.args.epoch) old = c.reset_each.ensures ∙ ap (λ (xs : List Listening). map (after_bus_reset c.args.epoch) xs) c.deref_mut.ensures.value in
    let same : length new ≡ length old = ap length is ∙ length-map old (after_bus_reset c.args.epoch) in
    let fresh = fresh_after (after_bus_reset c.args.epoch) c.self.inside.fresh c.self.inside.list.len new old refl is c.self.invariant.2 in (
      record { few = few_after c.self.inside.list.len 63 new old same c.self.invariant.0.few; enough = c.self.invariant.0.enough; size = c.self.told.0 },
      fresh_calm _ _ fresh,
      fresh,
      hearing_after c.self.inside.deaf false (after_bus_reset c.args.epoch) c.self.inside.list.len new old refl is (λ x none quiet. refl) c.self.invariant.3,
    )
