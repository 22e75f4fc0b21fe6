use Rattle.fw_bus_engine.proofs.Common.{Ok, Failed, numbers_to, Performed, sides_of, is_living_in}
use Rattle.std.specs.Prelude.{◌≡◌, ◌+◌, length, ℕ}
use Rattle.fw_bus_engine.specs.Performing.{RoundTo}
use Rattle.fw_bus_engine.proofs.rounds.round.Given as goal

abbrev pub invariant-loop-device : goal.invariant-loop-device
invariant-loop-device g l = record {
  count : l.machine.half_steps ≡ l.fn.machine.half_steps + length (numbers_to l.device (is_living_in l.fn.machine));
  living : (d : ℕ) → is_living_in l.machine d ≡ is_living_in l.fn.machine d;
  names : l.machine.devices.names ≡ l.fn.machine.devices.names;
  does : Performed {E = Failed} (RoundTo l.device) l.fn.machine l.machine (sides_of g.K.Sink.held g.K.Sink.faults l.fn.sink l.sink) (Ok (tt {0}));
}
