use Rattle.fw_bus_engine.proofs.Common.{sym, ◌∙◌}
use Rattle.fw_bus_engine.specs.Contending.{Contender}
use Rattle.fw_bus_engine.proofs.BidNodes.{contender_of, manager_is_there, standing_is}
use Rattle.fw_bus_engine.proofs.bids.CandidatesRequester.has_request.Goals as goal

pub returns : goal.returns
returns c =
    let m = c.args.machine.now in
    let d = c.args.device in
    let there = manager_is_there m d c.requires.ready c.requires.may.0 in
    let k : Contender m d there.0 = contender_of m d there.0 c.requires.may.0 there.1 c.requires.may.1 in
    let is = sym (standing_is m d there.0 c.epoch.result c.has_request.result c.requires.ready k c.epoch.ensures c.has_request.ensures) in
    record { awaits = λ on. (there.0, record { contender = k; stands = is ∙ on }); rests = λ off. (there.0, record { contender = k; rests = is ∙ off }) }
