use Rattle.fw_bus_engine.proofs.Common.{Some, Async}
use Rattle.fw_bus_engine.proofs.requester.hear.Goals as goal

pub hear-requires : goal.hear-requires
hear-requires g c = record { ready = c.requires.ready; awaits = c.requires.awaits }

pub emit_packet-requires : goal.emit_packet-requires
emit_packet-requires g c = record { packet = c.hear.ensures.0; spells = c.hear.ensures.1 }

pub returns : goal.returns
returns g c =
    let p = c.hear.ensures.0 in
    let gives = c.emit_packet.ensures p c.hear.ensures.1 in
    record { entry = Some (Async p); turns = c.hear.ensures.2; gives = gives.bytes; faults = gives.faults }
