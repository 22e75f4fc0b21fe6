use Rattle.fw_explore.proofs.Common.{subst, Since}
use Rattle.fw_explore.specs.KeptBuses.{IsSince}
use Rattle.fw_explore.proofs.since.keep_since.Goals as goal

pub keep_half-requires-clause-now : goal.keep_half-requires-clause-now
keep_half-requires-clause-now g c =
    subst (λ (s : Since). IsSince g.P.Keeper.Kept c.args.places.now c.args.at.now s c.args.bus.now.machine) c.in-Half.is c.requires.since
