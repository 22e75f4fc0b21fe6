use Rattle.std.proofs.Common.{length, sym, ap, ◌∙◌}
use Rattle.std.proofs.lemmas.List.{length-map}
use Rattle.fw_explore_levels.specs.Walked.{entry_of}
use Rattle.fw_explore_levels.proofs.levels.Levels.len.Goals as goal

pub returns : goal.returns
returns c = c.len.ensures ∙ sym (length-map c.self.inside.level (entry_of c.self.inside.steps)) ∙ ap (λ w. length w.level) c.self.view_is
