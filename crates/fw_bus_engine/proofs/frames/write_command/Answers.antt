use Rattle.fw_bus_engine.proofs.Common.{◌∙◌, ap, length, refl, length-set, Network, DeskRelations}
use Rattle.fw_bus_engine.proofs.CommandTurns.{command_talks, does_commands}
use Rattle.fw_bus_engine.proofs.DeafTurns.{living_node}
use Rattle.fw_bus_engine.proofs.ExchangeTurns.{does_both}
use Rattle.fw_bus_engine.proofs.Linked.{linked_node, linked_reaches}
use Rattle.fw_bus_engine.proofs.frames.write_command.Given as given
use Rattle.fw_bus_engine.proofs.frames.write_command.Goals as goal

pub command_packet-request-requires : goal.command_packet-request-requires
command_packet-request-requires g c = record {
  from = living_node c.args.machine.now c.args.from c.requires.from;
  to = linked_node c.args.machine.now.devices c.args.to c.requires.to;
  few = rw c.as_slice.ensures c.requires.few;
}

pub answer_frame-response-requires : goal.answer_frame-response-requires
answer_frame-response-requires g c =
    let there = linked_reaches c.args.machine.now.devices c.args.to c.requires.to in
    record {
      desk = c.requires.desk;
      request = c.command_packet-request.ensures.request;
      declared = there.declared;
      number = there.number;
      link = there.link;
      given = c.requires.quiet c.args.to there.declared;
    }

pub exchange-requires : goal.exchange-requires
exchange-requires g c =
    let fits = c.command_packet-request.ensures.fits in
    record { request = fits; response = c.answer_frame-response.ensures.fits fits }

pub returns-clause-does : goal.returns-clause-does
returns-clause-does g c =
    let D : DeskRelations = record { blocks = given.F-post g c.args.desk.now.blocks; vendor = given.H-post g c.args.desk.now.vendor } in
    let asked = c.answer_frame-response.ensures in
    let told = command_talks D c.args.machine.now _ c.args.from c.args.to c.args.bytes.now _ _ _ c.requires.from c.requires.to
    (record { write = rw c.as_slice.ensures at c.command_packet-request.ensures.value; fits = c.command_packet-request.ensures.fits; answers = asked.response; followed = asked.node }) asked.others in
    does_commands D _ _ _ (does_both _ told (λ n. refl) (λ n. refl) c.exchange.ensures)

pub returns-clause-size : goal.returns-clause-size
returns-clause-size g c =
    ap (λ (n : Network). length n.nodes) c.answer_frame-response.ensures.others ∙ length-set c.args.machine.now.devices.nodes c.args.to _
