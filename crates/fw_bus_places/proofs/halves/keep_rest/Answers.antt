use Rattle.std.proofs.Common.{◌≡◌, ◌∙◌, List, ap, arith, length, slice_index_or}
use Rattle.std.proofs.lemmas.List.{get_or_read}
use Rattle.fw_bus_places.specs.Places.{IsRestOf}
use Rattle.fw_bus_places.specs.declared.rest.Rest.{Rest}
use Rattle.fw_bus_places.proofs.HalfLaws.{still, rest_after}
use Rattle.fw_bus_places.proofs.halves.keep_rest.Goals as goal
use Rattle.fw_bus_places.proofs.halves.keep_rest.Goals.{then-asks-via-then-asks, then-asks-via-else-asks+then-has_streams}

pub returns-then-asks : goal.returns-then-asks
returns-then-asks c =
    let n = c.requires.half.0 in
    let device = c.requires.half.1 in
    let of = c.requires.half.2 in
    let half = c.requires.half.3 in
    still IsRestOf c.args.rests.now c.args.m.now c.args.now c.requires.within
    (λ d. rest_after (slice_index_or c.args.rests.now c.args.now d) device c.args.asks n c.args.m.now (of d) half (elim c.then-asks.branch [
      | then-asks-via-then-asks w ↦ (half.asked w.if-asks.true).1 ∙ (of d).streams
      | then-asks-via-else-asks+then-has_streams w ↦ w.has_streams.ensures w.if-has_streams.true
          ∙ ap (λ (r : Rest). r.streams) (get_or_read w.as_slice.result.now c.args.now w.index-as_slice-now.result
          (let long = ap length w.as_slice.ensures in omega (arith, long, c.requires.within)) w.index-as_slice-now.is d
          ∙ ap (λ (l : List Rest). slice_index_or l c.args.now d) w.as_slice.ensures)
    ]))
