use Rattle.std.proofs.Common.{ap, subst, sym}
use Rattle.fw_bus_state.specs.declared.machine.Machine.{Machine}
use Rattle.fw_bus_places.specs.Places.{IsPlace}
use Rattle.fw_bus_places.proofs.GoodLaws.{as_good}
use Rattle.fw_bus.specs.Buses.{BusView}
use Rattle.fw_bus.proofs.bus.Bus.give_back_from.Goals as goal

pub give_back_from-requires-clause-stands : goal.give_back_from-requires-clause-stands
give_back_from-requires-clause-stands c =
    let P : Machine → Type 0 = IsPlace c.args.places.now c.args.now.now in
    subst P (sym (ap (λ (b : BusView). b.machine) c.self.view_is)) c.requires.now

pub give_back_from-requires-clause-kept : goal.give_back_from-requires-clause-kept
give_back_from-requires-clause-kept c = (c.requires.kept.0, c.requires.kept.1)

pub invariant_of-self : goal.invariant_of-self
invariant_of-self c = λ fresh.
    let n = c.requires.kept.0 in
    let reached = c.requires.kept.2 in
    record {
      commands = reached.commands;
      actions = reached.actions;
      log = reached.log;
      state = reached.state;
      run = reached.run;
      stands = as_good c.give_back_from.new.m n reached.state (c.give_back_from.ensures.same n c.requires.kept.1) reached.stands;
    }

pub returns-clause-stands : goal.returns-clause-stands
returns-clause-stands c = λ n s place stands. as_good c.give_back_from.new.m n s (c.give_back_from.ensures.same n place) stands
