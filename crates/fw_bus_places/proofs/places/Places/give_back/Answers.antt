use Rattle.std.proofs.Common.{subst, sym, ◌∙◌}
use Rattle.fw_devices.specs.Frames.{NetworkFrame, IsOf}
use Rattle.fw_bus_state.specs.declared.machine.Machine.{Machine}
use Rattle.fw_bus_places.specs.Places.{IsPlace, IsAsGood, IsRestOf}
use Rattle.fw_bus_places.proofs.ChangeLaws.{place_good}
use Rattle.fw_bus_places.proofs.GiveLaws.{half_number, count_fits, rest_there, reel_there, wire_there, bids_there, rest_of, devices_of}
use Rattle.fw_bus_places.proofs.GiveLaws.{few_of, within_of, controllers_of, reel_of, wire_of, bids_of, given_back}
use Rattle.fw_bus_places.proofs.places.Places.give_back.Goals as goal
use Rattle.fw_bus_places.proofs.places.Places.give_back.Goals.{After-rest_at-rest, After-lay-2}

pub told_apart-numbers-requires : goal.told_apart-numbers-requires
told_apart-numbers-requires c = count_fits c.args.self.now c.args.words.now c.requires.0 c.requires.1

pub rest_at-rest-requires : goal.rest_at-rest-requires
rest_at-rest-requires c = rest_there c.args.self.now c.args.words.now c.requires.0 c.requires.1 c.told_apart-numbers.result.rest c.told_apart-numbers.ensures.rest

-- what only lines change
rest_is : (c : After-rest_at-rest) (n : Machine) → IsPlace c.args.self.now c.args.words.now n → IsRestOf c.rest_at-rest.result.now n
rest_is c n place = rest_of c.args.self.now c.args.words.now n place c.told_apart-numbers.result.rest c.rest_at-rest.result.now c.told_apart-numbers.ensures.rest c.rest_at-rest.ensures

pub give_back-requires : goal.give_back-requires
give_back-requires c =
    let n = c.requires.0 in
    let place = c.requires.1 in
    let of = rest_is (goal.at.give_back-requires c).After-rest_at-rest n place in (
      n.devices,
      subst (λ (f : NetworkFrame). IsOf f c.as_slice.result.now c.told_apart-numbers.result.nodes.now n.devices) (sym c.deref.ensures)
          (devices_of c.args.self.now c.args.words.now n place c.rest_at-rest.result.now c.as_slice.result.now c.told_apart-numbers.result.nodes.now of c.as_slice.ensures
          c.told_apart-numbers.ensures.nodes),
    )

pub give_back-requires-2 : goal.give_back-requires-2
give_back-requires-2 c =
    let n = c.requires.0 in
    let place = c.requires.1 in
    record {
      few = few_of c.args.self.now c.args.words.now n place c.told_apart-numbers.result.controllers.now c.told_apart-numbers.ensures.controllers;
      within = within_of c.args.self.now c.args.words.now n place c.as_slice-2.result.now c.told_apart-numbers.result.controllers.now c.as_slice-2.ensures c.told_apart-numbers.ensures.controllers;
    }

pub wind-requires : goal.wind-requires
wind-requires c = reel_there c.args.self.now c.args.words.now c.requires.0 c.requires.1 c.told_apart-numbers.result.reel c.told_apart-numbers.ensures.reel

pub lay-requires : goal.lay-requires
lay-requires c = wire_there c.args.self.now c.args.words.now c.requires.0 c.requires.1 c.told_apart-numbers.result.wire c.told_apart-numbers.ensures.wire

pub lay-requires-2 : goal.lay-requires-2
lay-requires-2 c = bids_there c.args.self.now c.args.words.now c.requires.0 c.requires.1 c.told_apart-numbers.result.bids c.told_apart-numbers.ensures.bids

good : (c : After-lay-2) (n : Machine) → IsPlace c.args.self.now c.args.words.now n
    → IsAsGood (record c.lend.new.m { reel = c.wind.new.reel; wire = c.lay.new.wire; bids = c.lay-2.new.wire; half_steps = c.told_apart-numbers.result.half_steps }) n
good c n place =
    let p = c.args.self.now in
    let words = c.args.words.now in
    let numbers = c.told_apart-numbers in
    let r = c.rest_at-rest.result.now in
    let of = rest_of p words n place numbers.result.rest r numbers.ensures.rest c.rest_at-rest.ensures in
    given_back p words n place r c.args.m.now c.lend.new.m c.give_back.new.self c.give_back-2.new.self c.wind.new.reel c.lay.new.wire c.lay-2.new.wire numbers.result.half_steps of c.lend.ensures
    (c.give_back.ensures n.devices (subst (λ (f : NetworkFrame). IsOf f c.as_slice.result.now numbers.result.nodes.now n.devices) (sym c.deref.ensures)
    (devices_of p words n place r c.as_slice.result.now numbers.result.nodes.now of c.as_slice.ensures numbers.ensures.nodes)))
    (c.give_back-2.ensures ∙ controllers_of p words n place r c.as_slice-2.result.now numbers.result.controllers.now of c.as_slice-2.ensures numbers.ensures.controllers)
    (reel_of p words n place numbers.result.reel c.wind.new.reel numbers.ensures.reel c.wind.ensures)
    (numbers.ensures.half_steps ∙ half_number p words n place)
    (wire_of p words n place numbers.result.wire c.lay.new.wire numbers.ensures.wire c.lay.ensures)
    (bids_of p words n place numbers.result.bids c.lay-2.new.wire numbers.ensures.bids c.lay-2.ensures)

pub returns-clause-same : goal.returns-clause-same
returns-clause-same c = λ n place. good (goal.at.returns-clause-same c).After-lay-2 n place

pub returns-clause-place : goal.returns-clause-place
returns-clause-place c = place_good c.args.self.now c.args.words.now _ c.requires.0 (good (goal.at.returns-clause-place c).After-lay-2 c.requires.0 c.requires.1) c.requires.1
