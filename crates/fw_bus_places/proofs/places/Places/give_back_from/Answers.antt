use Rattle.std.proofs.Common.{◌∙◌, sym}
use Rattle.fw_bus_state.specs.declared.machine.Machine.{Machine}
use Rattle.fw_bus_places.specs.Places.{IsPlace, IsAsGood}
use Rattle.fw_bus_places.proofs.ChangeLaws.{devices_are, changed, place_good}
use Rattle.fw_bus_places.proofs.GiveLaws.{half_number, reel_of, wire_of, bids_of}
use Rattle.fw_bus_places.proofs.places.Places.give_back_from.Goals as goal
use Rattle.fw_bus_places.proofs.places.Places.give_back_from.Goals.{After-lay_from-2}

pub change-requires-clause-kept : goal.change-requires-clause-kept
change-requires-clause-kept c =
    let n = c.requires.kept.0 in
    let place = c.requires.kept.1 in
    let same = sym c.told_apart-from.ensures.rest ∙ (c.if-from-numbers.false ∙ c.told_apart-numbers.ensures.rest) in
    let devices = devices_are c.args.self.now c.args.now.now c.args.words.now c.args.m.now n c.requires.stands place same in
    (n.devices, devices c.as_slice.result.now c.told_apart-numbers.result.nodes.now c.as_slice.ensures c.told_apart-numbers.ensures.nodes)

good : (c : After-lay_from-2) (n : Machine) → IsPlace c.args.self.now c.args.words.now n
    → IsAsGood (record c.args.m.now {
      devices = c.change.new.self;
      controllers = c.change-2.new.self;
      reel = c.wind_from.new.reel;
      wire = c.lay_from.new.wire;
      bids = c.lay_from-2.new.wire;
      half_steps = c.told_apart-numbers.result.half_steps;
    }) n
good c n place =
    let p = c.args.self.now in
    let now = c.args.now.now in
    let words = c.args.words.now in
    let numbers = c.told_apart-numbers in
    let same = sym c.told_apart-from.ensures.rest ∙ (c.if-from-numbers.false ∙ numbers.ensures.rest) in
    changed p now words c.args.m.now n c.requires.stands place same c.change.new.self c.change-2.new.self c.as_slice-2.result.now numbers.result.controllers.now c.wind_from.new.reel
    c.lay_from.new.wire
    c.lay_from-2.new.wire numbers.result.half_steps
    (c.change.ensures n.devices (devices_are p now words c.args.m.now n c.requires.stands place same
    c.as_slice.result.now numbers.result.nodes.now c.as_slice.ensures numbers.ensures.nodes))
    c.change-2.ensures c.as_slice-2.ensures numbers.ensures.controllers
    (reel_of p words n place numbers.result.reel c.wind_from.new.reel numbers.ensures.reel c.wind_from.ensures)
    (numbers.ensures.half_steps ∙ half_number p words n place)
    (wire_of p words n place numbers.result.wire c.lay_from.new.wire numbers.ensures.wire c.lay_from.ensures)
    (bids_of p words n place numbers.result.bids c.lay_from-2.new.wire numbers.ensures.bids c.lay_from-2.ensures)

pub returns-clause-same : goal.returns-clause-same
returns-clause-same c = λ n place. good (goal.at.returns-clause-same c).After-lay_from-2 n place

pub returns-clause-place : goal.returns-clause-place
returns-clause-place c =
    let n = c.requires.kept.0 in
    let place = c.requires.kept.1 in
    place_good c.args.self.now c.args.words.now _ n (good (goal.at.returns-clause-place c).After-lay_from-2 n place) place
