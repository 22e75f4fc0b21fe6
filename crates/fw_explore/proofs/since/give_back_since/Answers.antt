use Rattle.fw_explore.proofs.Common.{subst, Since}
use Rattle.fw_explore.specs.KeptBuses.{IsSince}
use Rattle.fw_explore.proofs.since.give_back_since.Goals as goal

pub give_back_from-requires-clause-now : goal.give_back_from-requires-clause-now
give_back_from-requires-clause-now g c =
    subst (λ (s : Since). IsSince g.P.Keeper.Kept c.args.places.now c.args.at.now s c.args.bus.now.machine) c.in-Nothing.is c.requires.since

pub take_back-requires : goal.take_back-requires
take_back-requires g c =
    subst (λ (s : Since). IsSince g.P.Keeper.Kept c.args.places.now c.args.at.now s c.args.bus.now.machine) c.in-Counted.is c.requires.since
