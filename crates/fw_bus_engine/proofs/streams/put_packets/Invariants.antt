use Rattle.fw_bus_engine.proofs.Common.{HadSent, unheard}
use Rattle.std.specs.Prelude.{◌≡◌, ◌≤◌, ◌+◌, ◌*◌, length}
use Rattle.fw_bus_engine.specs.Cycling.{HearsTo, PutsIntoRoom}
use Rattle.fw_bus_engine.proofs.streams.put_packets.Given as goal

abbrev pub invariant-loop-channel : goal.invariant-loop-channel
invariant-loop-channel g l = record {
  puts : PutsIntoRoom (HadSent l.before) (record { blocks = goal.F-post g l.desk.blocks; vendor = goal.H-post g l.desk.vendor }) (HearsTo l.channel l.fn.heard l.heard) l.machine l.fn.room l.room;
  same : unheard l.heard ≡ unheard l.fn.heard;
  size : length l.room ≤ length l.fn.room + 508 * l.channel;
}
