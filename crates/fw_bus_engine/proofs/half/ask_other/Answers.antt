use Rattle.fw_bus_engine.proofs.Common.{◌≡◌, ◌<◌, ℕ, inl, inr, false, Some, None, IfSome, refl, ap, sym}
use Rattle.fw_bus_engine.proofs.Common.{subst, ◌∙◌, arith, none-some, Pairs, Procedure, Request, packet_of, request_head, Async, Entry, Next, half}
use Rattle.fw_bus_engine.proofs.Common.{Grows-nothing, TakesHalf, ControllerTable, Machine, living_there}
use Rattle.fw_cmp.specs.Turns.{addressee_in}
use Rattle.fw_model_controllers.specs.Requests.{is_sent}
use Rattle.fw_model_run.specs.HalfSteps.{said}
use Rattle.fw_bus_engine.proofs.ControllerTurns.{asks_turn}
use Rattle.fw_bus_engine.proofs.DeafTurns.{living_node}
use Rattle.fw_bus_engine.proofs.OneAction.{no_faults}
use Rattle.fw_bus_engine.proofs.HalfTurns.{IsSilent, takes_asks, rests_says, node_numbers}
use Rattle.fw_bus_engine.proofs.ResetTurns.{ready_cycle}
use Rattle.fw_bus_engine.proofs.HalfWires.{Sends, sends_takes, sends_fits, sends_free, quiet_wire}
use Rattle.fw_bus_engine.proofs.Leaves.{turn_leaves}
use Rattle.fw_bus_state.proofs.Heard.{reached_here}
use Rattle.fw_bus_engine.proofs.half.ask_other.Goals as goal

pub next-requires : goal.next-requires
next-requires g c =
    let r = c.requires.ready in
    record {
      device = (living_there c.args.machine.now c.args.device r c.requires.living).controller;
      heard = inr c.requires.heard.1;
      now = ready_cycle r;
      nodes = node_numbers c.args.machine.now r.state c.args.device r.good r.stands c.requires.living;
      reached = reached_here c.args.machine.now r.state c.args.device r.good r.stands;
    }

-- ---- a request goes out

pub number-own-requires : goal.number-own-requires
number-own-requires g c = living_node c.args.machine.now c.args.device c.requires.living

-- what the machine has then
abbrev Sent : Machine → ℕ → ℕ → ℕ → ControllerTable → Request → Type 0
Sent m d to own k q = Sends m d to own k q (packet_of (request_head own to Procedure) q)

pub send-requires : goal.send-requires
send-requires g c =
    let low : c.in-Send.to < 63 = subst (λ (x : Next). IfSome (addressee_in x) (λ t. t < 63)) c.in-Send.is c.next.ensures.addressee in
    let x : Sent c.args.machine.now c.args.device c.in-Send.to c.number-own.result c.next.new.self c.in-Send.request = record {
      lives = c.requires.living;
      heard = c.requires.heard;
      table = c.next.ensures.state;
      says = sym c.next.ensures.answer ∙ c.in-Send.is;
      low = low;
      number = c.number-own.ensures.value;
      packet = refl;
    } in
    record { from = c.number-own.ensures.range; to = omega (arith, low); fits = sends_fits c.requires.ready x; free = sends_free c.requires.ready x }

pub emit_packet-requires : goal.emit_packet-requires
emit_packet-requires g c = record { packet = packet_of (request_head c.number-own.result c.in-Send.to Procedure) c.in-Send.request; spells = c.send.ensures.packet }

pub returns-in-Send : goal.returns-in-Send
returns-in-Send g c =
    let m = c.args.machine.now in
    let p = packet_of (request_head c.number-own.result c.in-Send.to Procedure) c.in-Send.request in
    let x : Sent m c.args.device c.in-Send.to c.number-own.result c.next.new.self c.in-Send.request = record {
      lives = c.requires.living;
      heard = c.requires.heard;
      table = c.next.ensures.state;
      says = sym c.next.ensures.answer ∙ c.in-Send.is;
      low = subst (λ (x : Next). IfSome (addressee_in x) (λ t. t < 63)) c.in-Send.is c.next.ensures.addressee;
      number = c.number-own.ensures.value;
      packet = refl;
    } in
    let takes = subst (λ (w : Pairs). TakesHalf half m (record m { controllers = c.next.new.self; wire = w }) c.args.device (Some (Async p))) (sym c.send.ensures.wire) (sends_takes x) in
    let gives = c.emit_packet.ensures p c.send.ensures.packet in
    record {
      entry = Some (Async p);
      turns = asks_turn c.next.new.self c.send.new.wire _ c.requires.ready c.requires.living c.requires.heard c.next.ensures.list takes (λ none. absurd (none-some (Async p) (sym none)));
      gives = gives.bytes;
      faults = gives.faults;
    }

-- ---- the job ends

pub returns-in-End : goal.returns-in-End
returns-in-End g c =
    let m = c.args.machine.now in
    let d = c.args.device in
    let e : Entry = c.outcome_entry.result in
    let takes : TakesHalf half m (record m { controllers = c.next.new.self }) d (Some e) = takes_asks m c.next.new.self m.wire d _ c.requires.living c.requires.heard c.next.ensures.state
    (λ s g st. ap (λ e. Some e) c.outcome_entry.ensures ∙ sym (ap (said s d) (sym c.next.ensures.answer ∙ c.in-End.is)))
    (quiet_wire m d c.requires.living c.requires.heard (ap is_sent (sym c.next.ensures.answer ∙ c.in-End.is))) in
    record {
      entry = Some e;
      turns = asks_turn c.next.new.self m.wire _ c.requires.ready c.requires.living c.requires.heard c.next.ensures.list takes (λ none. absurd (none-some e (sym none)));
      gives = c.emit.ensures.bytes;
      faults = c.emit.ensures.faults;
    }

-- ---- nothing to do

silent : (x : Next) → IsSilent x → is_sent x ≡ false
silent x (inl e) = ap is_sent e
silent x (inr (inl w)) = ap is_sent w.1
silent x (inr (inr (inl w))) = ap is_sent w.1
silent x (inr (inr (inr e))) = ap is_sent e

pub returns-in-Idle : goal.returns-in-Idle
returns-in-Idle g c =
    let m = c.args.machine.now in
    let d = c.args.device in
    let quiet : is_sent c.next.result ≡ false = silent c.next.result c.in-Idle.is in
    let takes : TakesHalf half m (record m { controllers = c.next.new.self }) d None = takes_asks m c.next.new.self m.wire d _ c.requires.living c.requires.heard c.next.ensures.state
    (λ s g st. subst (λ x. None ≡ said s d x) c.next.ensures.answer (rests_says s d c.next.result c.in-Idle.is))
    (quiet_wire m d c.requires.living c.requires.heard (ap is_sent (sym c.next.ensures.answer) ∙ quiet)) in
    let stays = turn_leaves m c.next.new.self d c.requires.ready c.requires.heard (subst IsSilent c.next.ensures.answer c.in-Idle.is) c.next.ensures.list in
    record {
      entry = None;
      turns = asks_turn c.next.new.self m.wire _ c.requires.ready c.requires.living c.requires.heard c.next.ensures.list takes (λ none. λ i. record m { controllers = stays i });
      gives = Grows-nothing (g.K.Sink.held c.args.sink.now);
      faults = no_faults (g.K.Sink.faults c.args.sink.now) tt;
    }
