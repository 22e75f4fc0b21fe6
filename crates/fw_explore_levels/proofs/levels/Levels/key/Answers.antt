use Rattle.std.proofs.Common.{◌<◌, length, get_or, sym, ap, ◌∙◌, arith}
use Rattle.std.proofs.lemmas.List.{length-map}
use Rattle.fw_explore_levels.specs.Walked.{entry_of}
use Rattle.fw_explore_levels.proofs.EntryLaws.{no_place, entry_at}
use Rattle.fw_explore_levels.proofs.levels.Levels.key.Goals as goal

pub key-requires : goal.key-requires
key-requires c = omega (arith, c.requires, length-map c.self.inside.level (entry_of c.self.inside.steps), ap (λ w. length w.level) c.self.view_is)

pub returns : goal.returns
returns c = λ d.
    let inside : c.args.place < length c.self.inside.level = omega (arith, c.requires, length-map c.self.inside.level (entry_of c.self.inside.steps), ap (λ w. length w.level) c.self.view_is) in
    c.key.ensures no_place ∙ ap (λ x. x.key) (sym (entry_at c.self.inside.steps c.self.inside.level c.args.place no_place d inside) ∙ ap (λ w. get_or w.level c.args.place d) c.self.view_is)
