use Rattle.fw_bus_engine.proofs.Common.{ap, length, refl, subst, sym, ◌∙◌, Option, Err, Ok, length-set, Fits, Packet, Network, node_at}
use Rattle.std.specs.Prelude.{IfSome}
use Rattle.fw_node.specs.Fcp.{frame_packet, number_of}
use Rattle.fw_bus_engine.proofs.ExchangeTurns.{does_talks}
use Rattle.fw_bus_engine.proofs.FrameCalls.{addressed_to, answered, answered_fewer, answered_talks, outgoing, outgoing_asks, reaches}
use Rattle.fw_bus_engine.proofs.Sending.{sends_none, sends_one, sends_cut}
use Rattle.fw_bus_engine.proofs.frames.send_frame.Goals as goal

pub outgoing-requires : goal.outgoing-requires
outgoing-requires g c = record { declared = c.requires.declared }

pub exchange-requires : goal.exchange-requires
exchange-requires g c =
    let fits = subst (λ (o : Option Packet). IfSome o Fits) c.in-Some.is c.outgoing.ensures.fits in
    record { request = fits; response = c.answer-response.ensures.fits fits }

pub addressee-to-requires : goal.addressee-to-requires
addressee-to-requires g c =
    let packet = sym c.in-Some.is ∙ c.outgoing.ensures.packet in
    let out = outgoing c.args.machine.now c.args.device c.outgoing.new.self c.in-Some.frame c.requires.declared packet c.outgoing.ensures.node in
    record { frame = addressed_to c.requires.ready out }

-- ---- the node answers

pub answer-response-requires-clause-request : goal.answer-response-requires-clause-request
answer-response-requires-clause-request g c =
    let packet = sym c.in-Some.is ∙ c.outgoing.ensures.packet in
    outgoing_asks (outgoing c.args.machine.now c.args.device c.outgoing.new.self c.in-Some.frame c.requires.declared packet c.outgoing.ensures.node)

pub answer-response-requires-clause-declared : goal.answer-response-requires-clause-declared
answer-response-requires-clause-declared g c =
    let packet = sym c.in-Some.is ∙ c.outgoing.ensures.packet in
    let out = outgoing c.args.machine.now c.args.device c.outgoing.new.self c.in-Some.frame c.requires.declared packet c.outgoing.ensures.node in
    (reaches c.addressee-to.result c.requires.ready out c.addressee-to.ensures).declared

pub answer-response-requires-clause-number : goal.answer-response-requires-clause-number
answer-response-requires-clause-number g c =
    let packet = sym c.in-Some.is ∙ c.outgoing.ensures.packet in
    let out = outgoing c.args.machine.now c.args.device c.outgoing.new.self c.in-Some.frame c.requires.declared packet c.outgoing.ensures.node in
    (reaches c.addressee-to.result c.requires.ready out c.addressee-to.ensures).number

pub answer-response-requires-clause-link : goal.answer-response-requires-clause-link
answer-response-requires-clause-link g c =
    let packet = sym c.in-Some.is ∙ c.outgoing.ensures.packet in
    let out = outgoing c.args.machine.now c.args.device c.outgoing.new.self c.in-Some.frame c.requires.declared packet c.outgoing.ensures.node in
    (reaches c.addressee-to.result c.requires.ready out c.addressee-to.ensures).link

-- ---- no frame

pub returns-in_default-clause-does : goal.returns-in_default-clause-does
returns-in_default-clause-does g c =
    let m = c.args.machine.now in
    sends_none (frame_packet (number_of (node_at m.devices.nodes c.args.device).number)) m c.outgoing.new.self c.args.device _ _ c.requires.declared
    (sym c.in_default.is ∙ c.outgoing.ensures.packet) c.outgoing.ensures.node

pub returns-in_default-clause-size : goal.returns-in_default-clause-size
returns-in_default-clause-size g c = ap (λ (n : Network). length n.nodes) c.outgoing.ensures.node ∙ length-set c.args.machine.now.devices.nodes c.args.device _

-- ---- a frame

pub returns-in_err-exchange-clause-does : goal.returns-in_err-exchange-clause-does
returns-in_err-exchange-clause-does g c =
    let packet = sym c.in-Some.is ∙ c.outgoing.ensures.packet in
    let out = outgoing c.args.machine.now c.args.device c.outgoing.new.self c.in-Some.frame c.requires.declared packet c.outgoing.ensures.node in
    let talks = answered_talks (answered c.requires.ready out c.addressee-to.ensures c.answer-response.ensures.response c.answer-response.ensures.registers) in
    let did = does_talks (Err _) talks (λ n. refl) (λ n. refl) c.in_err-exchange.ensures in
    sends_cut c.args.device _ _ refl c.from_residual.ensures.0 did

pub returns-in_err-exchange-clause-size : goal.returns-in_err-exchange-clause-size
returns-in_err-exchange-clause-size g c =
    let taken = ap (λ (n : Network). length n.nodes) c.outgoing.ensures.node ∙ length-set c.args.machine.now.devices.nodes c.args.device _ in
    ap (λ (n : Network). length n.nodes) c.answer-response.ensures.registers ∙ (length-set c.outgoing.new.self.nodes c.addressee-to.result _ ∙ taken)

pub returns-clause-size : goal.returns-clause-size
returns-clause-size g c =
    let taken = ap (λ (n : Network). length n.nodes) c.outgoing.ensures.node ∙ length-set c.args.machine.now.devices.nodes c.args.device _ in
    ap (λ (n : Network). length n.nodes) c.answer-response.ensures.registers ∙ (length-set c.outgoing.new.self.nodes c.addressee-to.result _ ∙ taken)

pub returns-clause-does : goal.returns-clause-does
returns-clause-does g c =
    let packet = sym c.in-Some.is ∙ c.outgoing.ensures.packet in
    let out = outgoing c.args.machine.now c.args.device c.outgoing.new.self c.in-Some.frame c.requires.declared packet c.outgoing.ensures.node in
    let talks = answered_talks (answered c.requires.ready out c.addressee-to.ensures c.answer-response.ensures.response c.answer-response.ensures.registers) in
    sends_one c.args.device (does_talks (Ok _) talks (λ n. refl) (λ n. refl) c.in_ok-exchange.ensures)

pub returns-clause-fewer : goal.returns-clause-fewer
returns-clause-fewer g c =
    let packet = sym c.in-Some.is ∙ c.outgoing.ensures.packet in
    let out = outgoing c.args.machine.now c.args.device c.outgoing.new.self c.in-Some.frame c.requires.declared packet c.outgoing.ensures.node in
    λ sent. answered_fewer (answered c.requires.ready out c.addressee-to.ensures c.answer-response.ensures.response c.answer-response.ensures.registers)
