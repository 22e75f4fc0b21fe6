use Rattle.fw_bus_engine.proofs.Common.{Ok, Failed, Contend, times, sides_of, Performs, Performed}
use Rattle.std.specs.Prelude.{◌≡◌, ◌+◌, is_some, IsTrue}
use Rattle.fw_bus_state.specs.Candidates.{candidate_in}
use Rattle.fw_bus_engine.proofs.bids.contend.Given as goal

abbrev pub invariant-loop-i : goal.invariant-loop-i
invariant-loop-i g l = record {
  count : l.machine.half_steps ≡ l.fn.machine.half_steps + l.i;
  candidate : IsTrue (is_some (candidate_in l.machine.candidates l.fn.device));
  does : Performed {E = Failed} (Performs (times l.i (Contend l.fn.device))) l.fn.machine l.machine (sides_of g.K.Sink.held g.K.Sink.faults l.fn.sink l.sink) (Ok (tt {0}));
}
