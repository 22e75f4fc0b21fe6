-- Machines that are kept by the numbers of their parts.
use Rattle.std.specs.Prelude.{ℕ, List}
use Rattle.fw_bus_state.specs.declared.machine.Machine.{Machine}
use Rattle.fw_bus.specs.Buses.{IsReached}
use Rattle.fw_bus_places.specs.declared.places.Places.{Places}
use Rattle.fw_bus_places.specs.Places.{IsPlace}

-- the machine whose parts have these numbers, which stands for the state of some run
pub record IsKeptIn (p : Places) (words : List ℕ) (m : Machine) : Type 0 where
  pub place : IsPlace p words m
  pub reached : IsReached m
