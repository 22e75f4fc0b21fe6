use Rattle.fw_bus_engine.proofs.Common.{◌≤◌, ◌<◌, ◌+◌, ℕ, IsTrue, IsAtRest, is_living_in, states_of}
use Rattle.fw_bus_engine.proofs.rounds.busy_end.Given as goal

-- of those that were passed, none that lives has anything to do
abbrev pub invariant-loop-passed : goal.invariant-loop-passed
invariant-loop-passed l = (d : ℕ) → l.end ≤ d + l.passed → d < l.end → IsTrue (is_living_in l.machine d) → IsAtRest (states_of l.machine.controllers d).state
