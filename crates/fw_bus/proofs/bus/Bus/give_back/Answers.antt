use Rattle.fw_bus_places.proofs.GoodLaws.{as_good}
use Rattle.fw_bus.proofs.bus.Bus.give_back.Goals as goal

pub give_back-requires : goal.give_back-requires
give_back-requires c = (c.requires.0, c.requires.1)

pub invariant_of-self : goal.invariant_of-self
invariant_of-self c = λ fresh.
    let n = c.requires.0 in
    let reached = c.requires.2 in
    record {
      commands = reached.commands;
      actions = reached.actions;
      log = reached.log;
      state = reached.state;
      run = reached.run;
      stands = as_good c.give_back.new.m n reached.state (c.give_back.ensures.same n c.requires.1) reached.stands;
    }

pub returns-clause-stands : goal.returns-clause-stands
returns-clause-stands c = λ n s place stands. as_good c.give_back.new.m n s (c.give_back.ensures.same n place) stands
