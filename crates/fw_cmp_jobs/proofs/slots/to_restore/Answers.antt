use Rattle.fw_cmp_jobs.proofs.Common.{subst}
use Rattle.std.proofs.Common.{rules}
use Rattle.std.specs.Prelude.{Bool}
use Rattle.fw_cmp_jobs.specs.Known.{NoneToRestore}
use Rattle.fw_cmp_jobs.proofs.Restoring.{found_none, none_found}
use Rattle.fw_cmp_jobs.proofs.slots.to_restore.Goals as goal

pub returns-then-none-clause-first : goal.returns-then-none-clause-first
returns-then-none-clause-first c = none_found c.args.slots.now (subst (λ (b : Bool). NoneToRestore b c.args.slots.now) c.if-none.true c.requires)

pub returns-clause-none : goal.returns-clause-none
returns-clause-none c = found_none c.is_none.result c.args.slots.now c.first_restoring-lowest.result (search rules) c.first_restoring-lowest.ensures.first c.is_none.ensures
