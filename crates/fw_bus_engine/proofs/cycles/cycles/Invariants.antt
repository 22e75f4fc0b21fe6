use Rattle.fw_bus_engine.proofs.Common.{◌≡◌, ◌≤◌}
use Rattle.fw_bus_engine.specs.Cycling.{WritesCycles}
use Rattle.fw_bus_engine.specs.Filling.{Gathers}
use Rattle.fw_bus_engine.specs.Playing.{IsCycleStreamsOf, ahead}
use Rattle.fw_bus_engine.proofs.cycles.cycles.Given as goal

abbrev pub invariant-loop-i : goal.invariant-loop-i
invariant-loop-i g l = record {
  done : Gathers (record { blocks = goal.F-post g l.desk.blocks; vendor = goal.H-post g l.desk.vendor }) (WritesCycles l.i)
      l.fn.machine (ahead l.cycle_streams.gone l.machine) (g.K.Sink.held l.fn.sink) (g.K.Sink.held l.sink) l.room.cycle;
  faults : g.K.Sink.faults l.sink ≡ g.K.Sink.faults l.fn.sink;
  cycle_streams : IsCycleStreamsOf (ahead l.cycle_streams.gone l.machine) l.cycle_streams;
  gone : l.cycle_streams.gone ≤ l.machine.cycle;
}
