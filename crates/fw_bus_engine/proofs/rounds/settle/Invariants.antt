use Rattle.fw_bus_engine.proofs.Common.{Ok, Failed, Performed, sides_of, is_living_in, living_in}
use Rattle.std.specs.Prelude.{◌≡◌, ◌+◌, ◌*◌, ◌≤◌, length, ℕ}
use Rattle.fw_bus_engine.specs.Performing.{RoundsFirst}
use Rattle.fw_bus_engine.proofs.Calm.{CalmFrom}
use Rattle.fw_bus_engine.proofs.rounds.settle.Given as goal

abbrev pub invariant-loop-i : goal.invariant-loop-i
invariant-loop-i g l = record {
  count : l.machine.half_steps ≡ l.fn.machine.half_steps + l.i * length (living_in l.fn.machine);
  living : (d : ℕ) → is_living_in l.machine d ≡ is_living_in l.fn.machine d;
  names : l.machine.devices.names ≡ l.fn.machine.devices.names;
  most : l.end ≤ 63;
  few : length l.fn.machine.devices.names ≤ 63;
  within : l.end ≤ length l.fn.machine.devices.names;
  calm : CalmFrom l.end (length l.machine.devices.names) l.machine;
  does : Performed {E = Failed} (RoundsFirst l.i) l.fn.machine l.machine (sides_of g.K.Sink.held g.K.Sink.faults l.fn.sink l.sink) (Ok (tt {0}));
}
