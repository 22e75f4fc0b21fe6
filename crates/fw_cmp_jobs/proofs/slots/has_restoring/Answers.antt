use Rattle.fw_cmp_jobs.proofs.Common.{ap, not, subst, ◌∙◌}
use Rattle.std.proofs.Common.{is_some}
use Rattle.std.specs.Prelude.{Bool}
use Rattle.fw_cmp_jobs.specs.Known.{NoneToRestore}
use Rattle.fw_cmp_jobs.proofs.Restoring.{none_found}
use Rattle.fw_cmp_jobs.proofs.slots.has_restoring.Goals as goal

pub returns-else-not-none : goal.returns-else-not-none
returns-else-not-none c = ap not c.if-not-none.false ∙ ap is_some (none_found c.args.slots.now (subst (λ (b : Bool). NoneToRestore b c.args.slots.now) c.if-not-none.false c.requires))
