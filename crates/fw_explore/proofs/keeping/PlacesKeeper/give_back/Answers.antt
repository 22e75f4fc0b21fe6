use Rattle.fw_explore.proofs.keeping.PlacesKeeper.give_back.Goals as goal

pub give_back-requires : goal.give_back-requires
give_back-requires c = (c.requires.0, c.requires.1.place, c.requires.1.reached)

pub returns-clause-stands : goal.returns-clause-stands
returns-clause-stands c = λ m s kept stands. c.give_back.ensures.stands m s kept.place stands

pub returns-clause-place : goal.returns-clause-place
returns-clause-place c = record { place = c.give_back.ensures.place; reached = c.stands.ensures }
