use Rattle.fw_bus_engine.proofs.OneAction.{does_entry}
use Rattle.fw_bus_engine.proofs.ShowTurns.{show_turns}
use Rattle.fw_bus_engine.proofs.transact.show.Goals as goal

pub returns : goal.returns
returns g c =
    let turn = show_turns c.args.machine.now _ _ c.requires.linked c.requires.offset c.requires.complete in
    record { does = does_entry turn (rw (rw c.read-reply.ensures at c.shown_entry-entry.ensures.value) at c.emit.ensures) }
