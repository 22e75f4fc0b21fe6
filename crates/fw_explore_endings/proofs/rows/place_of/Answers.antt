use Rattle.std.proofs.Common.{◌≢◌, subst, ◌∙◌, arith}
use Rattle.std.specs.List.{All}
use Rattle.std.proofs.lemmas.Bool.{false≢true}
use Rattle.std.proofs.lemmas.List.{take_all}
use Rattle.std.proofs.lemmas.List.Elements.{All-more}
use Rattle.std.proofs.lemmas.Slice.Eq.{bytes_eq-Decides}
use Rattle.fw_explore_endings.specs.declared.rows.Row.{Row}
use Rattle.fw_explore_endings.proofs.rows.place_of.Goals as goal

pub loop-place-preserved : goal.loop-place-preserved
loop-place-preserved c =
    All-more (λ (r : Row). r.ending.items ≢ c.args.ending.now) c.args.list.now c.loop-place.place c.index-list-place.result (omega arith) c.loop-place.invariant
    (λ e. false≢true (c.if-eq.ensures ∙ (bytes_eq-Decides c.as_slice.result.now c.args.ending.now).1 (c.as_slice.ensures.value ∙ e)))

pub returns : goal.returns
returns c = subst (All (λ (r : Row). r.ending.items ≢ c.args.ending.now)) (take_all c.loop-place.place c.args.list.now (omega arith)) c.loop-place.invariant
