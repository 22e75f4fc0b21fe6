use Rattle.std.proofs.Common.{[], ◌∷◌, ◌++◌, length, get_or, ap, ◌∙◌, arith}
use Rattle.fw_explore_levels.specs.declared.steps.PathStep.{PathStep}
use Rattle.fw_explore_levels.specs.Steps.{paths_of}
use Rattle.fw_explore_levels.proofs.StepLaws.{length-paths, paths_push, are_steps_push}
use Rattle.fw_explore_levels.proofs.steps.Steps.add.Goals as goal

pub invariant_of-self-2 : goal.invariant_of-self-2
invariant_of-self-2 c =
    let steps = c.self.inside.list.items in
    rw c.in_ok-push.ensures.items (are_steps_push steps _ c.self.invariant (omega (arith, c.requires, length-paths ([] ∷ []) steps, ap length c.self.view_is)))

pub returns-clause-ok : goal.returns-clause-ok
returns-clause-ok c =
    let s : PathStep = record { before = c.args.before; mover = c.args.mover } in
    ap paths_of c.in_ok-push.ensures.items ∙ paths_push ([] ∷ []) c.self.inside.list.items s
    ∙ ap (λ v. v ++ (get_or v c.args.before [] ++ c.args.mover ∷ []) ∷ []) c.self.view_is
