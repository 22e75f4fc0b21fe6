use Rattle.fw_bus_engine.proofs.Common.{◌≡◌, Some, sym, subst, ◌∙◌, IsTrue, same_Some, Async, CandidateState, is_asked}
use Rattle.fw_bus_engine.specs.Requesting.{TurnsCandidate}
use Rattle.fw_bus_engine.proofs.BidHears.{hears_turns}
use Rattle.fw_bus_engine.proofs.Bidding.{seat}
use Rattle.fw_bus_engine.proofs.BidNodes.{bid_outstanding, bid_packet, bid_served, bidder_within, own_there, standing_asked}
use Rattle.fw_bus_engine.proofs.bids.CandidatesRequester.hear.Goals as goal

pub number-own-requires : goal.number-own-requires
number-own-requires c = own_there c.args.machine.now c.args.device c.requires.awaits.0 c.requires.ready c.requires.awaits.1.contender

pub serve-manager-requires-clause-outstanding : goal.serve-manager-requires-clause-outstanding
serve-manager-requires-clause-outstanding c =
    let m = c.args.machine.now in
    let r = c.requires.ready in
    let manager = c.requires.awaits.0 in
    let stands = c.requires.awaits.1 in
    let own = c.number-own.result in
    let x = seat m r.state manager r.good r.stands stands.contender.manages in
    (manager, bid_packet own x.number, bid_outstanding m c.args.device manager own r stands c.number-own.ensures.value)

pub hear-requires-clause-device : goal.hear-requires-clause-device
hear-requires-clause-device c = bidder_within c.args.machine.now c.args.device c.requires.awaits.0 c.requires.ready c.requires.awaits.1.contender

pub hear-requires-clause-stands : goal.hear-requires-clause-stands
hear-requires-clause-stands c other is =
    let stands = c.requires.awaits.1 in
    let k = stands.contender in
    let same : k.candidate ≡ other = same_Some k.candidate other (sym k.is ∙ is) in
    subst (λ (z : CandidateState). IsTrue (is_asked z.stage)) same (standing_asked c.args.machine.now.devices.epoch k.candidate stands.stands)

pub hear-requires-clause-complete : goal.hear-requires-clause-complete
hear-requires-clause-complete c =
    (bid_served c.args.machine.now c.args.device _ _ _ _ _ _ c.requires.ready c.requires.awaits.1 c.number-own.ensures.value c.serve-manager.ensures).complete

pub returns : goal.returns
returns c =
    let m = c.args.machine.now in
    let d = c.args.device in
    let stands = c.requires.awaits.1 in
    let own_is = c.number-own.ensures.value in
    let x = bid_served m d _ _ _ _ _ _ c.requires.ready stands own_is c.serve-manager.ensures in
    let found = x.response in
    let turns = hears_turns m _ c.hear.new.self d _ _ x.to found.response _ stands own_is x.to_is found.answers found.carries x.registers c.hear.ensures in (
      found.response,
      found.spells,
      subst (λ w. TurnsCandidate m (record m { devices = c.serve-manager.new.devices; candidates = c.hear.new.self; bids = w }) d (Some (Async found.response))) (sym x.rest) turns,
    )
