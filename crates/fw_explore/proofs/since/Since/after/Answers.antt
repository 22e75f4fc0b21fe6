use Rattle.fw_explore.proofs.Common.{sym, subst, Since}
use Rattle.fw_explore.specs.KeptBuses.{Follows}
use Rattle.fw_explore.proofs.since.Since.after.Goals as goal

pub returns-in-Nothing : goal.returns-in-Nothing
returns-in-Nothing c = subst (λ (s : Since). Follows s c.args.changed c.args.silent c.since_there.result) (sym c.in-Nothing.is) c.since_there.ensures
