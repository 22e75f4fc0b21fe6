use Rattle.fw_bus_state.proofs.Common.{sym}
use Rattle.fw_bus_state.proofs.giving.give_async.Goals as goal

pub emit_packet-requires : goal.emit_packet-requires
emit_packet-requires g c = record { packet = c.args.packet.now; spells = record { fits = c.requires; same = sym c.put.ensures } }

pub returns : goal.returns
returns g c = c.emit_packet.ensures c.args.packet.now (record { fits = c.requires; same = sym c.put.ensures })
