use Rattle.fw_bus_engine.proofs.Common.{Ok, Failed, node_at, sides_of, Performed}
use Rattle.std.specs.Prelude.{◌<◌, length}
use Rattle.fw_bus_engine.specs.Framing.{SendsFirst, frames_of}
use Rattle.fw_bus_engine.proofs.frames.send_frames.Given as goal

abbrev pub invariant-loop : goal.invariant-loop
invariant-loop g l = record {
  declared : l.device < length l.machine.devices.nodes;
  does : Performed {E = Failed} (SendsFirst l.device) l.fn.machine l.machine (sides_of g.K.Sink.held g.K.Sink.faults l.fn.sink l.sink) (Ok (tt {0}));
}

-- each frame that is sent is one less
abbrev pub decreases-loop : goal.decreases-loop
decreases-loop g l = frames_of (node_at l.machine.devices.nodes l.device)
