-- proofs/machine/Machine/insert/Answers.antt
use Rattle.fw_bus_engine.proofs.Common.{refl, arith, Err, Ok}
use Rattle.fw_bus_engine.proofs.OneAction.{does_entry}
use Rattle.fw_bus_engine.proofs.Doings.{does_then, ready_after}
use Rattle.fw_bus_engine.proofs.TapeTurns.{insert_turns, insert_follows, insert_cut, few_devices, still_declared}
use Rattle.fw_bus_engine.proofs.tapes.insert.Goals as goal

pub inserted-requires : goal.inserted-requires
inserted-requires g c = few_devices c.requires.ready c.requires.declared

pub emit-requires : goal.emit-requires
emit-requires g c = c.inserted.ensures.fits

pub send_frames-requires : goal.send_frames-requires
send_frames-requires g c =
    let turn = insert_turns c.args.machine.now c.insert.new.self c.args.device c.args.tape c.args.system _ c.requires.declared c.requires.deck (omega arith)
    c.inserted.ensures.value c.insert.ensures in
    record { ready = ready_after c.requires.ready (does_entry {r = Ok _} turn c.in_ok-emit.ensures); declared = still_declared _ _ _ _ _ c.requires.declared c.insert.ensures }

pub returns-in_err-emit : goal.returns-in_err-emit
returns-in_err-emit g c =
    let turn = insert_turns c.args.machine.now c.insert.new.self c.args.device c.args.tape c.args.system _ c.requires.declared c.requires.deck (omega arith)
    c.inserted.ensures.value c.insert.ensures in
    let did = does_entry {r = Err _} turn c.in_err-emit.ensures in
    record { does = insert_cut c.args.device c.args.tape c.args.system _ _ refl c.from_residual.ensures.0 did }

pub returns : goal.returns
returns g c =
    let turn = insert_turns c.args.machine.now c.insert.new.self c.args.device c.args.tape c.args.system _ c.requires.declared c.requires.deck (omega arith)
    c.inserted.ensures.value c.insert.ensures in
    let did = does_entry {r = Ok _} turn c.in_ok-emit.ensures in
    record { does = does_then _ (insert_follows c.args.device c.args.tape c.args.system) did c.send_frames.ensures.does }
