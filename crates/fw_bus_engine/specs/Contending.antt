-- Who contends for the bus manager, of the machine.
use Rattle.std.specs.Prelude.{ℕ, ◌≡◌, ◌<◌, Some, IsTrue, IsFalse}
use Rattle.fw_manager.specs.Bids.{CandidateState, is_standing_in}
use Rattle.fw_order.specs.declared.limits.TheConstants.{MOST_HALF_STEPS}
use Rattle.fw_bus_state.specs.Candidates.{candidate_in}
use Rattle.fw_bus_state.specs.declared.machine.Machine.{Machine}

-- the device is a candidate that may take a half step, on a bus whose resource manager is this one
pub record Contender (m : Machine) (d manager : ℕ) : Type 0 where
  pub candidate : CandidateState
  pub is : candidate_in m.candidates d ≡ Some candidate
  pub manages : m.devices.manager ≡ Some manager
  pub few : m.half_steps < MOST_HALF_STEPS

-- its request is outstanding
pub record BidStands (m : Machine) (d manager : ℕ) : Type 0 where
  pub contender : Contender m d manager
  pub stands : IsTrue (is_standing_in m.devices.epoch contender.candidate)

-- no request of it is outstanding
pub record BidRests (m : Machine) (d manager : ℕ) : Type 0 where
  pub contender : Contender m d manager
  pub rests : IsFalse (is_standing_in m.devices.epoch contender.candidate)
