use Rattle.fw_bus_engine.proofs.Common.{ap, refl, Network}
use Rattle.fw_bus_engine.proofs.AskTurns.{transact_talks}
use Rattle.fw_bus_engine.proofs.DeafTurns.{living_node}
use Rattle.fw_bus_engine.proofs.ExchangeTurns.{does_talks}
use Rattle.fw_bus_engine.proofs.Linked.{linked_node, linked_reaches}
use Rattle.fw_bus_engine.proofs.transact.transact.Goals as goal

pub transaction_packet-request-requires : goal.transaction_packet-request-requires
transaction_packet-request-requires g c = record {
  from = living_node c.args.machine.now c.args.transaction.from c.requires.from;
  to = linked_node c.args.machine.now.devices c.args.transaction.to c.requires.to;
  access = c.requires.access;
}

pub answer-response-requires : goal.answer-response-requires
answer-response-requires g c =
    let there = linked_reaches c.args.machine.now.devices c.args.transaction.to c.requires.to in
    record { request = c.transaction_packet-request.ensures.request; declared = there.declared; number = there.number; link = there.link }

pub exchange-requires : goal.exchange-requires
exchange-requires g c =
    let fits = c.transaction_packet-request.ensures.fits in
    record { request = fits; response = c.answer-response.ensures.fits fits }

pub returns : goal.returns
returns g c =
    let is = ap (λ (d : Network). record c.args.machine.now { devices = d }) c.answer-response.ensures.registers in
    let talk = transact_talks c.args.machine.now _ c.args.transaction _ _ c.requires.from c.requires.to c.requires.free c.requires.access c.transaction_packet-request.ensures.value
    c.answer-response.ensures.response is in
    record { does = does_talks _ talk (λ n. refl) (λ n. refl) c.exchange.ensures }
