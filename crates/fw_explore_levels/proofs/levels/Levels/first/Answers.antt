use Rattle.std.proofs.Common.{◌<◌, [], length, get_or, sym, ap, ◌∙◌, arith}
use Rattle.std.proofs.lemmas.List.{length-map}
use Rattle.fw_explore_levels.specs.Walked.{entry_of}
use Rattle.fw_explore_levels.proofs.EntryLaws.{no_place, entry_at}
use Rattle.fw_explore_levels.proofs.ResultLaws.{if_ok}
use Rattle.fw_explore_levels.proofs.levels.Levels.first.Goals as goal

pub step-requires : goal.step-requires
step-requires c = omega (arith, c.requires, length-map c.self.inside.level (entry_of c.self.inside.steps), ap (λ w. length w.level) c.self.view_is)

pub path-requires : goal.path-requires
path-requires c =
    let inside : c.args.place < length c.self.inside.level = omega (arith, c.requires, length-map c.self.inside.level (entry_of c.self.inside.steps), ap (λ w. length w.level) c.self.view_is) in
    omega (arith, c.step.ensures no_place, c.self.invariant.0 c.args.place no_place inside)

pub returns : goal.returns
returns c =
    let inside : c.args.place < length c.self.inside.level = omega (arith, c.requires, length-map c.self.inside.level (entry_of c.self.inside.steps), ap (λ w. length w.level) c.self.view_is) in
    if_ok c.path.result _ _
    (λ v h d. h ∙ ap (λ n. get_or c.self.inside.steps n []) (c.step.ensures no_place)
    ∙ ap (λ x. x.first) (sym (entry_at c.self.inside.steps c.self.inside.level c.args.place no_place d inside) ∙ ap (λ w. get_or w.level c.args.place d) c.self.view_is))
    c.path.ensures
