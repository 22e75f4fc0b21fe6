use Rattle.fw_bus_engine.proofs.Common.{Machine}
use Rattle.fw_bus_engine.proofs.OneAction.{does_entry}
use Rattle.fw_bus_engine.proofs.Losing.{served_loses, served_unheard}
use Rattle.fw_bus_engine.proofs.Served.{served_within, served_awaits}
use Rattle.fw_bus_engine.proofs.half.lose_response.Goals as goal

pub lose-requires-clause-device : goal.lose-requires-clause-device
lose-requires-clause-device g c = served_within _ _ _ _ _ c.requires.ready c.requires.living c.serve_request-unheard.ensures

pub lose-requires-clause-stands : goal.lose-requires-clause-stands
lose-requires-clause-stands g c = served_awaits _ _ _ _ _ c.requires.standing c.serve_request-unheard.ensures

pub emit_packet-requires : goal.emit_packet-requires
emit_packet-requires g c = record { packet = c.serve_request-unheard.ensures.response; spells = c.serve_request-unheard.ensures.spells }

pub returns : goal.returns
returns g c =
    let m : Machine = c.args.machine.now in
    let s = c.serve_request-unheard.ensures in
    let turns = served_loses m c.serve_request-unheard.new.machine c.lose.new.self c.args.device _ _ c.requires.living c.requires.standing c.requires.few s c.lose.ensures in
    record {
      does = does_entry turns (c.emit_packet.ensures s.response s.spells);
      deaf = served_unheard m c.serve_request-unheard.new.machine c.lose.new.self c.args.device _ _ c.requires.ready c.requires.living s c.lose.ensures;
    }
