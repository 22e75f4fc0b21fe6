-- proofs/machine/Machine/eject/Answers.antt
use Rattle.fw_bus_engine.proofs.Common.{refl, sym, ◌∙◌, Err, Ok}
use Rattle.fw_bus_engine.proofs.OneAction.{does_entry}
use Rattle.fw_bus_engine.proofs.Doings.{does_then, ready_after}
use Rattle.fw_bus_engine.proofs.TapeTurns.{eject_turns, eject_follows, eject_cut, ejects_none, few_devices, still_declared}
use Rattle.fw_bus_engine.proofs.tapes.eject.Goals as goal

pub ejected-requires : goal.ejected-requires
ejected-requires g c = few_devices c.requires.ready c.requires.declared

pub emit-requires : goal.emit-requires
emit-requires g c = c.ejected.ensures.fits

pub send_frames-requires : goal.send_frames-requires
send_frames-requires g c =
    let was = sym c.eject.ensures.was_in ∙ c.if-not-eject.false in
    let turn = eject_turns c.args.machine.now c.eject.new.self c.args.device _ c.requires.declared c.requires.deck was
    c.ejected.ensures.value c.eject.ensures.out in
    record { ready = ready_after c.requires.ready (does_entry {r = Ok _} turn c.in_ok-emit.ensures); declared = still_declared _ _ _ _ _ c.requires.declared c.eject.ensures.out }

pub returns-then-not-eject : goal.returns-then-not-eject
returns-then-not-eject g c =
    let none = sym c.eject.ensures.was_in ∙ c.if-not-eject.true in
    record { does = ejects_none c.args.machine.now c.eject.new.self c.args.device _ _ _ c.requires.declared c.requires.deck none c.eject.ensures.out }

pub returns-in_err-emit : goal.returns-in_err-emit
returns-in_err-emit g c =
    let was = sym c.eject.ensures.was_in ∙ c.if-not-eject.false in
    let turn = eject_turns c.args.machine.now c.eject.new.self c.args.device _ c.requires.declared c.requires.deck was
    c.ejected.ensures.value c.eject.ensures.out in
    let did = does_entry {r = Err _} turn c.in_err-emit.ensures in
    record { does = eject_cut c.args.device _ _ refl c.from_residual.ensures.0 did }

pub returns : goal.returns
returns g c =
    let was = sym c.eject.ensures.was_in ∙ c.if-not-eject.false in
    let turn = eject_turns c.args.machine.now c.eject.new.self c.args.device _ c.requires.declared c.requires.deck was
    c.ejected.ensures.value c.eject.ensures.out in
    let did = does_entry {r = Ok _} turn c.in_ok-emit.ensures in
    record { does = does_then _ (eject_follows c.args.device) did c.send_frames.ensures.does }
