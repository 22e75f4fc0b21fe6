use Rattle.fw_explore.proofs.keeping.PlacesKeeper.give_back_from.Goals as goal

pub returns-clause-place : goal.returns-clause-place
returns-clause-place c = record { place = c.give_back_from.ensures.place; reached = c.stands.ensures }
