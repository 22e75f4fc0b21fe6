use Rattle.fw_bus_engine.proofs.Common.{◌≡◌, ℕ, length, ap, subst, arith, ◌∙◌, length-set, Network, looked_at, few_nodes, refl}
use Rattle.fw_bus_engine.proofs.HalfReads.{known_at, went_outstanding, went_packet, device_within, went_response, after_served}
use Rattle.fw_bus_engine.proofs.half.serve_request.Goals as goal

pub own_number-own-requires : goal.own_number-own-requires
own_number-own-requires c = record { ready = c.requires.ready; living = c.requires.living }

pub serve-target-requires : goal.serve-target-requires
serve-target-requires c =
    let m = c.args.machine.now in
    let own = c.own_number-own.result in
    let k = known_at m c.args.device own c.requires.ready c.requires.living c.requires.standing c.own_number-own.ensures.value in
    record { from = c.own_number-own.ensures.range; outstanding = (k.0, went_packet own k.1.went, went_outstanding m c.args.device k.0 own k.1) }

pub restart_if_silent-requires : goal.restart_if_silent-requires
restart_if_silent-requires c =
    let m = c.args.machine.now in
    let r = c.requires.ready in
    let own = c.own_number-own.result in
    let k = known_at m c.args.device own r c.requires.living c.requires.standing c.own_number-own.ensures.value in
    let served = c.serve-target.ensures k.0 (went_packet own k.1.went) (went_outstanding m c.args.device k.0 own k.1) in
    let size = ap (λ (n : Network). length n.nodes) served.registers ∙ length-set m.devices.nodes k.0 _ in
    let low = device_within m c.args.device k.0 own k.1 in
    let most = few_nodes m.devices.nodes r.state r.good r.stands.devices.nodes in
    let same = served.target in
    omega (arith, size, low, most, same)

pub returns : goal.returns
returns c =
    let m = c.args.machine.now in
    let d = c.args.device in
    let own = c.own_number-own.result in
    let k = known_at m d own c.requires.ready c.requires.living c.requires.standing c.own_number-own.ensures.value in
    let packet = went_packet own k.1.went in
    let served = c.serve-target.ensures k.0 packet (went_outstanding m d k.0 own k.1) in
    let response = went_response m d k.0 own c.serve-target.new.packet c.serve-target.result.1 k.1 served.response in
    let looked = subst (λ (t : ℕ). c.restart_if_silent.new.self ≡ looked_at t c.serve-target.new.devices.nodes m.streams) served.target c.restart_if_silent.ensures in
    record {
      access = k.1.went.access;
      to = k.1.went.to;
      device = k.0;
      own = own;
      packet = packet;
      response = response.response;
      sent = record { asks = k.1.went.asks; goes = k.1.went.goes; at = k.1.went.at; own_is = k.1.own_is; packet_is = refl; answered = response.answers };
      spells = response.spells;
      carries = response.carries;
      after = after_served m c.serve-target.new.devices c.serve-target.new.wire c.restart_if_silent.new.self k.0 own packet served.registers served.rest looked;
    }
