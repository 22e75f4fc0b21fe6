use Rattle.std.proofs.Common.{[], ◌∷◌, length, ap, arith}
use Rattle.fw_explore_levels.proofs.StepLaws.{length-paths}
use Rattle.fw_explore_levels.proofs.steps.Steps.len.Goals as goal

pub returns : goal.returns
returns c = omega (arith, c.len.ensures, c.self.inside.list.ok.0, length-paths ([] ∷ []) c.self.inside.list.items, ap length c.self.view_is)
