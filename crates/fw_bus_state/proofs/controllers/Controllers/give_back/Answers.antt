use Rattle.fw_bus_state.proofs.Common.{◌≡◌, ◌∙◌, ap, sym, length, slice_index_or, rules, arith, false≢true, length-map, IsAtRest, Listening, first_listening}
use Rattle.fw_bus_state.specs.Copies.{controllers_at}
use Rattle.fw_bus_state.proofs.CopyLaws.{none_marked}
use Rattle.fw_bus_state.proofs.controllers.Controllers.give_back.Goals as goal

pub invariant_of-self : goal.invariant_of-self
invariant_of-self c =
    let items = c.copy_controllers.new.list.items in
    let list : items ≡ controllers_at c.args.kept.now c.args.numbers.now = c.copy_controllers.ensures.controllers in
    let size = ap length list ∙ length-map c.args.numbers.now (λ k. slice_index_or c.args.kept.now k first_listening) in (
      record { few = omega (arith, size, c.requires.few); enough = c.copy_controllers.ensures.room; size = search rules },
      none_marked (λ (x : Listening). IsAtRest x.state) c.none_marked-marks.result items c.none_marked-marks.ensures,
      none_marked (λ x. x ≡ first_listening) c.none_marked-marks.result items c.none_marked-marks.ensures,
      λ hears. absurd (false≢true (sym hears)),
    )
