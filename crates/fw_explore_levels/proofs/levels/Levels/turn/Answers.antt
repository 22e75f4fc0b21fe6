use Rattle.std.proofs.Common.{◌<◌, length, sym, ap, subst, ◌∙◌}
use Rattle.std.proofs.lemmas.List.Elements.{All-nil}
use Rattle.fw_explore_levels.specs.Walked.{entries_of, HaveSteps}
use Rattle.fw_explore_levels.proofs.ResultLaws.{on_ok}
use Rattle.fw_explore_levels.proofs.levels.Levels.turn.Goals as goal

pub returns-in_err-next-clause-ok : goal.returns-in_err-next-clause-ok
returns-in_err-next-clause-ok c = on_ok c.from_residual.result _ c.from_residual.ensures.0

pub invariant_of-self : goal.invariant_of-self
invariant_of-self c = (
  subst (HaveSteps c.self.inside.steps) (sym c.replace.ensures.value) c.self.invariant.1,
  subst (HaveSteps c.self.inside.steps) (sym (c.replace.ensures.after ∙ c.in_ok-next.ensures)) (All-nil (λ s. s.step < length c.self.inside.steps)),
)

pub returns-clause-ok : goal.returns-clause-ok
returns-clause-ok c = (
  ap (entries_of c.self.inside.steps) c.replace.ensures.value ∙ ap (λ w. w.next) c.self.view_is,
  ap (entries_of c.self.inside.steps) (c.replace.ensures.after ∙ c.in_ok-next.ensures),
)
