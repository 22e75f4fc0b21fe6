use Rattle.fw_bus_engine.proofs.Common.{length}
use Rattle.fw_bus_engine.proofs.PlayerTurns.{Playing}
use Rattle.fw_bus_engine.proofs.playing.put_talking_plugs.Given as goal

abbrev pub invariant-loop-channel : goal.invariant-loop-channel
invariant-loop-channel g l =
    Playing (record { blocks = goal.F-post g l.desk.blocks; vendor = goal.H-post g l.desk.vendor }) l.machine l.gone
    (length l.fn.talking_plugs) l.channel l.fn.heard l.heard l.talking_plugs l.fn.room l.room
