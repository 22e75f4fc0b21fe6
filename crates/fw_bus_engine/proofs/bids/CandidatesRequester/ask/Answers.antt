use Rattle.fw_bus_engine.proofs.Common.{◌≡◌, ℕ, Option, Some, None, ap, sym, subst, ◌∙◌, same_Some, Async, CandidateState, packet_of, bid_head, Grows-nothing, Machine}
use Rattle.std.specs.Prelude.{IsFalse}
use Rattle.fw_manager.specs.Bids.{is_standing_in}
use Rattle.fw_bus_engine.specs.Contending.{BidRests}
use Rattle.fw_bus_engine.proofs.BidAsks.{asks_turns, own_free, said_of, put_by}
use Rattle.fw_bus_engine.proofs.BidNodes.{bidder_few, bidder_within, manager_there, nexts_now, own_there, sent_fits, sent_is}
use Rattle.fw_bus_engine.proofs.OneAction.{no_faults}
use Rattle.fw_bus_engine.proofs.bids.CandidatesRequester.ask.Goals as goal

-- the manager that was found is that of the candidate
rests_at : (m : Machine) (d manager : ℕ) (r : Option ℕ) → (x : (k : ℕ) × BidRests m d k) → r ≡ m.devices.manager → r ≡ Some manager → BidRests m d manager
rests_at m d manager r x same is = subst (BidRests m d) (same_Some x.0 manager (sym x.1.contender.manages ∙ (sym same ∙ is))) x.1

pub unreachable-requires : goal.unreachable-requires
unreachable-requires g c = c.in_default.not-Some c.requires.rests.0 (c.manager.ensures ∙ c.requires.rests.1.contender.manages)

pub number-own-requires : goal.number-own-requires
number-own-requires g c = own_there c.args.machine.now c.args.device c.requires.rests.0 c.requires.ready c.requires.rests.1.contender

pub number-to-requires : goal.number-to-requires
number-to-requires g c =
    let x = rests_at c.args.machine.now c.args.device c.in-Some.manager c.manager.result c.requires.rests c.manager.ensures c.in-Some.is in
    manager_there c.args.machine.now c.args.device c.in-Some.manager c.requires.ready x.contender

pub next-requires-clause-device : goal.next-requires-clause-device
next-requires-clause-device g c = bidder_within c.args.machine.now c.args.device c.requires.rests.0 c.requires.ready c.requires.rests.1.contender

pub next-requires-clause-heard : goal.next-requires-clause-heard
next-requires-clause-heard g c other is =
    let x = c.requires.rests.1 in
    let k = x.contender in
    let same : k.candidate ≡ other = same_Some k.candidate other (sym k.is ∙ is) in
    subst (λ (z : CandidateState). IsFalse (is_standing_in c.epoch.result z)) same (subst (λ n. IsFalse (is_standing_in n k.candidate)) (sym c.epoch.ensures) x.rests)

-- ---- a request goes out

pub send-requires-clause-to : goal.send-requires-clause-to
send-requires-clause-to g c =
    let m = c.args.machine.now in
    let d = c.args.device in
    let x = rests_at m d c.in-Some.manager c.manager.result c.requires.rests c.manager.ensures c.in-Some.is in
    let nexts = nexts_now m c.next.new.self d c.number-own.result c.number-to.result c.epoch.result c.next.result c.epoch.ensures c.next.ensures.answer in
    let same = sent_is m c.next.new.self d _ c.number-own.result c.number-to.result c.in-Send.to c.in-Send.request c.next.result c.requires.ready x.contender nexts c.in-Send.is in
    rw same.0 c.number-to.ensures.range

pub send-requires-clause-fits : goal.send-requires-clause-fits
send-requires-clause-fits g c =
    let m = c.args.machine.now in
    let d = c.args.device in
    let x = rests_at m d c.in-Some.manager c.manager.result c.requires.rests c.manager.ensures c.in-Some.is in
    let nexts = nexts_now m c.next.new.self d c.number-own.result c.number-to.result c.epoch.result c.next.result c.epoch.ensures c.next.ensures.answer in
    sent_fits m c.next.new.self d _ c.number-own.result c.number-to.result c.in-Send.to c.in-Send.request c.next.result c.requires.ready x.contender nexts c.in-Send.is
    c.number-own.ensures.value c.number-to.ensures.value

pub send-requires-clause-free : goal.send-requires-clause-free
send-requires-clause-free g c =
    let r = c.requires.ready in
    own_free c.args.machine.now r.state c.args.device c.requires.rests.0 c.number-own.result r.good r.stands c.requires.rests.1 c.number-own.ensures.value

pub emit_packet-requires : goal.emit_packet-requires
emit_packet-requires g c = record { packet = packet_of (bid_head c.in-Send.to c.number-own.result) c.in-Send.request; spells = c.send.ensures.packet }

pub returns-in-Send : goal.returns-in-Send
returns-in-Send g c =
    let m = c.args.machine.now in
    let d = c.args.device in
    let own = c.number-own.result in
    let p = packet_of (bid_head c.in-Send.to own) c.in-Send.request in
    let x = rests_at m d c.in-Some.manager c.manager.result c.requires.rests c.manager.ensures c.in-Some.is in
    let nexts = nexts_now m c.next.new.self d own c.number-to.result c.epoch.result c.next.result c.epoch.ensures c.next.ensures.answer in
    let gives = c.emit_packet.ensures p c.send.ensures.packet in
    record {
      entry = Some (Async p);
      turns = asks_turns m c.next.new.self c.send.new.wire d _ own c.number-to.result c.next.result (Some (Async p)) x c.number-own.ensures.value c.number-to.ensures.value nexts
          (sym (ap (said_of d own) c.in-Send.is)) (c.send.ensures.wire ∙ sym (ap (put_by m.bids own) c.in-Send.is));
      gives = gives.bytes;
      faults = gives.faults;
    }

-- ---- the bid has ended

pub elected-requires : goal.elected-requires
elected-requires g c = bidder_few c.args.machine.now c.args.device c.requires.rests.0 c.requires.ready c.requires.rests.1.contender

pub defeated-requires : goal.defeated-requires
defeated-requires g c = bidder_few c.args.machine.now c.args.device c.requires.rests.0 c.requires.ready c.requires.rests.1.contender

pub returns-in-Elected : goal.returns-in-Elected
returns-in-Elected g c =
    let m = c.args.machine.now in
    let d = c.args.device in
    let own = c.number-own.result in
    let x = rests_at m d c.in-Some.manager c.manager.result c.requires.rests c.manager.ensures c.in-Some.is in
    let nexts = nexts_now m c.next.new.self d own c.number-to.result c.epoch.result c.next.result c.epoch.ensures c.next.ensures.answer in
    record {
      entry = Some c.elected.result;
      turns = asks_turns m c.next.new.self m.bids d _ own c.number-to.result c.next.result (Some c.elected.result) x c.number-own.ensures.value c.number-to.ensures.value nexts
          (ap (λ e. Some e) c.elected.ensures.value ∙ sym (ap (said_of d own) c.in-Elected.is)) (sym (ap (put_by m.bids own) c.in-Elected.is));
      gives = c.emit.ensures.bytes;
      faults = c.emit.ensures.faults;
    }

pub returns-in-Defeated : goal.returns-in-Defeated
returns-in-Defeated g c =
    let m = c.args.machine.now in
    let d = c.args.device in
    let own = c.number-own.result in
    let x = rests_at m d c.in-Some.manager c.manager.result c.requires.rests c.manager.ensures c.in-Some.is in
    let nexts = nexts_now m c.next.new.self d own c.number-to.result c.epoch.result c.next.result c.epoch.ensures c.next.ensures.answer in
    record {
      entry = Some c.defeated.result;
      turns = asks_turns m c.next.new.self m.bids d _ own c.number-to.result c.next.result (Some c.defeated.result) x c.number-own.ensures.value c.number-to.ensures.value nexts
          (ap (λ e. Some e) c.defeated.ensures.value ∙ sym (ap (said_of d own) c.in-Defeated.is)) (sym (ap (put_by m.bids own) c.in-Defeated.is));
      gives = c.emit-in-Defeated.ensures.bytes;
      faults = c.emit-in-Defeated.ensures.faults;
    }

pub returns-in-Done : goal.returns-in-Done
returns-in-Done g c =
    let m = c.args.machine.now in
    let d = c.args.device in
    let own = c.number-own.result in
    let x = rests_at m d c.in-Some.manager c.manager.result c.requires.rests c.manager.ensures c.in-Some.is in
    let nexts = nexts_now m c.next.new.self d own c.number-to.result c.epoch.result c.next.result c.epoch.ensures c.next.ensures.answer in
    record {
      entry = None;
      turns = asks_turns m c.next.new.self m.bids d _ own c.number-to.result c.next.result None x c.number-own.ensures.value c.number-to.ensures.value nexts
          (sym (ap (said_of d own) c.in-Done.is)) (sym (ap (put_by m.bids own) c.in-Done.is));
      gives = Grows-nothing (g.K.Sink.held c.args.sink.now);
      faults = no_faults (g.K.Sink.faults c.args.sink.now) tt;
    }
