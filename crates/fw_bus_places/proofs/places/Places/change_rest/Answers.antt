use Rattle.std.proofs.Common.{ap, subst, sym, ◌∙◌}
use Rattle.fw_devices.specs.Frames.{NetworkFrame, IsOf}
use Rattle.fw_bus_state.specs.Tables.{ControllerTable}
use Rattle.fw_bus_state.specs.declared.machine.Machine.{Machine}
use Rattle.fw_bus_places.specs.Places.{IsPlace, IsAsGood, IsRestOf}
use Rattle.fw_bus_places.proofs.ChangeLaws.{place_good}
use Rattle.fw_bus_places.proofs.GiveLaws.{half_number, rest_there, rest_of, devices_of, controllers_of, reel_of, wire_of, bids_of, given_back}
use Rattle.fw_bus_places.proofs.places.Places.change_rest.Goals as goal
use Rattle.fw_bus_places.proofs.places.Places.change_rest.Goals.{After-rest_at-rest, After-lay_from-2}

pub rest_at-rest-requires : goal.rest_at-rest-requires
rest_at-rest-requires c = rest_there c.args.self.now c.args.words.now c.requires.kept.0 c.requires.kept.1 c.told_apart-numbers.result.rest c.told_apart-numbers.ensures.rest

-- what only lines change
rest_is : (c : After-rest_at-rest) (n : Machine) → IsPlace c.args.self.now c.args.words.now n → IsRestOf c.rest_at-rest.result.now n
rest_is c n place = rest_of c.args.self.now c.args.words.now n place c.told_apart-numbers.result.rest c.rest_at-rest.result.now c.told_apart-numbers.ensures.rest c.rest_at-rest.ensures

pub change_frame-requires-clause-kept : goal.change_frame-requires-clause-kept
change_frame-requires-clause-kept c =
    let n = c.requires.kept.0 in
    let place = c.requires.kept.1 in
    let of = rest_is (goal.at.change_frame-requires-clause-kept c).After-rest_at-rest n place in (
      n.devices,
      subst (λ (f : NetworkFrame). IsOf f c.as_slice.result.now c.told_apart-numbers.result.nodes.now n.devices) (sym c.deref.ensures)
          (devices_of c.args.self.now c.args.words.now n place c.rest_at-rest.result.now c.as_slice.result.now c.told_apart-numbers.result.nodes.now of c.as_slice.ensures
          c.told_apart-numbers.ensures.nodes),
    )

good : (c : After-lay_from-2) (n : Machine) → IsPlace c.args.self.now c.args.words.now n
    → IsAsGood (record c.lend.new.m { reel = c.wind_from.new.reel; wire = c.lay_from.new.wire; bids = c.lay_from-2.new.wire; half_steps = c.told_apart-numbers.result.half_steps }) n
good c n place =
    let p = c.args.self.now in
    let words = c.args.words.now in
    let numbers = c.told_apart-numbers in
    let r = c.rest_at-rest.result.now in
    let of = rest_of p words n place numbers.result.rest r numbers.ensures.rest c.rest_at-rest.ensures in
    given_back p words n place r c.args.m.now c.lend.new.m c.change_frame.new.self c.set_flags.new.self c.wind_from.new.reel c.lay_from.new.wire c.lay_from-2.new.wire numbers.result.half_steps of
    c.lend.ensures
    (c.change_frame.ensures n.devices (subst (λ (f : NetworkFrame). IsOf f c.as_slice.result.now numbers.result.nodes.now n.devices) (sym c.deref.ensures)
    (devices_of p words n place r c.as_slice.result.now numbers.result.nodes.now of c.as_slice.ensures numbers.ensures.nodes)))
    (c.set_flags.ensures ∙ (ap (λ (t : ControllerTable). record t { flags = r.dead }) c.change.ensures
    ∙ controllers_of p words n place r c.as_slice-2.result.now numbers.result.controllers.now of c.as_slice-2.ensures numbers.ensures.controllers))
    (reel_of p words n place numbers.result.reel c.wind_from.new.reel numbers.ensures.reel c.wind_from.ensures)
    (numbers.ensures.half_steps ∙ half_number p words n place)
    (wire_of p words n place numbers.result.wire c.lay_from.new.wire numbers.ensures.wire c.lay_from.ensures)
    (bids_of p words n place numbers.result.bids c.lay_from-2.new.wire numbers.ensures.bids c.lay_from-2.ensures)

pub returns-clause-same : goal.returns-clause-same
returns-clause-same c = λ n place. good (goal.at.returns-clause-same c).After-lay_from-2 n place

pub returns-clause-place : goal.returns-clause-place
returns-clause-place c = place_good c.args.self.now c.args.words.now _ c.requires.kept.0 (good (goal.at.returns-clause-place c).After-lay_from-2 c.requires.kept.0 c.requires.kept.1) c.requires.kept.1
