use Rattle.fw_bus_engine.proofs.Common.{Ok, Failed, HalfStep, times, Performs, Performed, sides_of, is_living_in}
use Rattle.std.specs.Prelude.{◌≡◌, ◌+◌, IsTrue}
use Rattle.fw_bus_engine.proofs.steps.steps.Given as goal

abbrev pub invariant-loop-i : goal.invariant-loop-i
invariant-loop-i g l = record {
  count : l.machine.half_steps ≡ l.fn.machine.half_steps + l.i;
  living : IsTrue (is_living_in l.machine l.fn.device);
  does : Performed {E = Failed} (Performs (times l.i (HalfStep l.fn.device))) l.fn.machine l.machine (sides_of g.K.Sink.held g.K.Sink.faults l.fn.sink l.sink) (Ok (tt {0}));
}
