use Rattle.fw_bus_engine.proofs.Common.{◌≡◌, ◌<◌, ℕ, inr, Option, Some, IfSome, IsTrue, refl, sym}
use Rattle.fw_bus_engine.proofs.Common.{subst, arith, none-some, Pairs, update, Procedure, Request, packet_of, request_head, Async, Listening}
use Rattle.fw_bus_engine.proofs.Common.{after_turn, turn_of, Send, half, TakesHalf, IsReady, is_living_in, ControllerTable}
use Rattle.fw_bus_engine.proofs.Common.{IsTable, Listens, count_of, dead_of, states_of, Machine, living_there, sides_of}
use Rattle.std.proofs.Common.{IfNone}
use Rattle.fw_bus_engine.specs.Requesting.{TurnsController, WritesTurn}
use Rattle.fw_bus_engine.proofs.ControllerTurns.{asks_turn}
use Rattle.fw_bus_engine.proofs.HalfTurns.{node_numbers}
use Rattle.fw_bus_engine.proofs.ResetTurns.{ready_cycle}
use Rattle.fw_bus_engine.proofs.HalfWires.{Sends, sends_takes, sends_fits, sends_free}
use Rattle.fw_bus_engine.proofs.Leaves.{with_one}
use Rattle.fw_bus_state.proofs.Heard.{reached_here}
use Rattle.fw_bus_engine.proofs.half.ControllersRequester.ask.Goals as goal

-- a device's controller has asked
abbrev Asked : Machine → ℕ → ControllerTable → Type 0
Asked m d k = IsTable k (count_of m.controllers) (update (states_of m.controllers) d (after_turn m.cycle m.directory (states_of m.controllers d))) (dead_of m.controllers)

-- its turn is this request
abbrev TurnIs : Machine → ℕ → ℕ → Request → Type 0
TurnIs m d to q = turn_of m.cycle m.directory (states_of m.controllers d) ≡ Send to q

pub ask-requires : goal.ask-requires
ask-requires g c =
    let r = c.requires.ready in
    let lives = c.requires.rests.0 in
    record {
      device = (living_there c.args.machine.now c.args.device r lives).controller;
      heard = inr c.requires.rests.1.1;
      now = ready_cycle r;
      nodes = node_numbers c.args.machine.now r.state c.args.device r.good r.stands lives;
      reached = reached_here c.args.machine.now r.state c.args.device r.good r.stands;
    }

-- ---- a request goes out

pub own_number-own-requires : goal.own_number-own-requires
own_number-own-requires g c = record { ready = c.requires.ready; living = c.requires.rests.0 }

-- what the machine has then
abbrev Sent : Machine → ℕ → ℕ → ℕ → ControllerTable → Request → Type 0
Sent m d to own k q = Sends m d to own k q (packet_of (request_head own to Procedure) q)

pub send-requires : goal.send-requires
send-requires g c =
    let m = c.args.machine.now in
    let low : c.in-Some.to < 63 = subst (λ (x : Option (ℕ × Request)). IfSome x (λ asked. asked.0 < 63)) c.in-Some.is c.ask.ensures.addressee in
    let x : Sent m c.args.device c.in-Some.to c.own_number-own.result c.ask.new.self c.in-Some.request = record {
      lives = c.requires.rests.0;
      heard = c.requires.rests.1;
      table = subst (λ (x : Option (ℕ × Request)). IfSome x (λ asked. Asked m c.args.device c.ask.new.self)) c.in-Some.is c.ask.ensures.state;
      says = subst (λ (x : Option (ℕ × Request)). IfSome x (λ asked. TurnIs m c.args.device asked.0 asked.1)) c.in-Some.is c.ask.ensures.sends;
      low = low;
      number = c.own_number-own.ensures.value;
      packet = refl;
    } in
    record { from = c.own_number-own.ensures.range; to = omega (arith, low); fits = sends_fits c.requires.ready x; free = sends_free c.requires.ready x }

pub emit_packet-requires : goal.emit_packet-requires
emit_packet-requires g c = record { packet = packet_of (request_head c.own_number-own.result c.in-Some.to Procedure) c.in-Some.request; spells = c.send.ensures.packet }

pub returns-in-Some : goal.returns-in-Some
returns-in-Some g c =
    let m = c.args.machine.now in
    let d = c.args.device in
    let p = packet_of (request_head c.own_number-own.result c.in-Some.to Procedure) c.in-Some.request in
    let turned : Listening = after_turn m.cycle m.directory (states_of m.controllers d) in
    let now = c.ask.new.self in
    let put : now ≡ with_one m.controllers d turned = subst (λ (x : Option (ℕ × Request)). IfSome x (λ asked. now ≡ with_one m.controllers d turned)) c.in-Some.is c.ask.ensures.list in
    let x : Sent m d c.in-Some.to c.own_number-own.result now c.in-Some.request = record {
      lives = c.requires.rests.0;
      heard = c.requires.rests.1;
      table = subst (λ (x : Option (ℕ × Request)). IfSome x (λ asked. Asked m d now)) c.in-Some.is c.ask.ensures.state;
      says = subst (λ (x : Option (ℕ × Request)). IfSome x (λ asked. TurnIs m d asked.0 asked.1)) c.in-Some.is c.ask.ensures.sends;
      low = subst (λ (x : Option (ℕ × Request)). IfSome x (λ asked. asked.0 < 63)) c.in-Some.is c.ask.ensures.addressee;
      number = c.own_number-own.ensures.value;
      packet = refl;
    } in
    let takes = subst (λ (w : Pairs). TakesHalf half m (record m { controllers = now; wire = w }) d (Some (Async p))) (sym c.send.ensures.wire) (sends_takes x) in
    let gives = c.emit_packet.ensures p c.send.ensures.packet in
    record {
      entry = Some (Async p);
      turns = asks_turn now c.send.new.wire turned c.requires.ready c.requires.rests.0 c.requires.rests.1 put takes (λ none. absurd (none-some (Async p) (sym none)));
      gives = gives.bytes;
      faults = gives.faults;
    }

-- ---- it is not found at once

pub ask_other-requires : goal.ask_other-requires
ask_other-requires g c =
    let m = c.args.machine.now in
    let none : c.ask.new.self ≡ m.controllers = subst (λ (x : Option (ℕ × Request)). IfNone x (c.ask.new.self ≡ m.controllers)) c.in-None.is c.ask.ensures.none in
    let same : m ≡ record m { controllers = c.ask.new.self } = λ i. record m { controllers = sym none i } in
    record {
      ready = subst IsReady same c.requires.ready;
      living = subst (λ (z : Machine). IsTrue (is_living_in z c.args.device)) same c.requires.rests.0;
      heard = subst (λ (z : Machine). Listens (states_of z.controllers c.args.device)) same c.requires.rests.1;
    }

pub returns-in-None : goal.returns-in-None
returns-in-None g c =
    let m = c.args.machine.now in
    let none : c.ask.new.self ≡ m.controllers = subst (λ (x : Option (ℕ × Request)). IfNone x (c.ask.new.self ≡ m.controllers)) c.in-None.is c.ask.ensures.none in
    let same : record m { controllers = c.ask.new.self } ≡ m = λ i. record m { controllers = none i } in
    let sides = sides_of g.K.Sink.held g.K.Sink.faults c.args.sink.now c.ask_other.new.sink in
    subst (λ (z : Machine). WritesTurn TurnsController z c.ask_other.new.machine c.args.device sides c.ask_other.result) same c.ask_other.ensures
