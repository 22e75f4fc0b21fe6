use Rattle.fw_bus_state.proofs.Common.{List, ap, refl, sym, ◌∙◌, slice_set, Listening}
use Rattle.std.proofs.lemmas.List.{set-get_or}
use Rattle.std.proofs.lemmas.List.Edits.{map_over_more}
use Rattle.fw_cmp.specs.Losses.{after_end}
use Rattle.fw_bus_state.proofs.Tables.{fresh_skip}
use Rattle.fw_bus_state.proofs.restarts.end_second.Goals as goal
use Rattle.fw_bus_state.proofs.restarts.end_second.Goals.{then-not-fresh-device, else-not-fresh-device}

pub loop-device-preserved : goal.loop-device-preserved
loop-device-preserved c =
    let old : List Listening = c.args.list.now in
    let list : List Listening = c.loop-device.list in
    let device = c.loop-device.device in
    elim c.if-not-fresh-device.branch [
      | then-not-fresh-device w ↦ w.list-is ∙ (ap (λ (x : Listening). slice_set list device x) (w.second_over.ensures.state ∙ ap after_end (sym c.index-list-device.is))
          ∙ map_over_more after_end old list device c.index-list-device.result c.loop-device-test.true c.loop-device.invariant c.index-list-device.is)
      | else-not-fresh-device w ↦ w.list-is ∙ (set-get_or list device c.index-list-device.result
          ∙ fresh_skip after_end c.args.fresh.now old list device refl c.requires.fresh c.loop-device-test.true w.if-not-fresh-device.false c.loop-device.invariant)
    ]
