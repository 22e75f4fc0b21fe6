-- Half steps of those that make requests, and what is written of them.
use Rattle.std.specs.Prelude.{ℕ, ◌≡◌, Option, None}
use Rattle.std.specs.declared.result.Result.{Result}
use Rattle.fw_log_entry.specs.declared.entry.Entry.{Entry}
use Rattle.fw_model_run.specs.Actions.{Contend}
use Rattle.fw_model_run.specs.Deeds.{Transition}
use Rattle.fw_model_run.specs.Afterwards.{counted}
use Rattle.fw_model_run.specs.Giving.{GivesEntry, at_most}
use Rattle.fw_model_run.specs.Good.{IsGood}
use Rattle.fw_model_run.specs.HalfSteps.{half}
use Rattle.fw_model_run.specs.State.{State}
use Rattle.fw_bus_state.specs.Faults.{CountsFaults}
use Rattle.fw_bus_state.specs.Giving.{Sides}
use Rattle.fw_bus_state.specs.Stands.{StandsFor, is_living_in}
use Rattle.fw_bus_state.specs.declared.machine.Machine.{Machine}
use Rattle.fw_bus_engine.specs.Leaving.{LeavesHalf}
use Rattle.fw_bus_engine.specs.Performing.{TakesHalf}

-- ---- whoever makes them

-- it holds of a device in a machine
abbrev pub Holds : Type 1
Holds = Machine → ℕ → Type 0

-- from one machine to another a half step of device d, of which this is to be written
abbrev pub Turn : Type 1
Turn = Machine → Machine → ℕ → Option Entry → Type 0

-- it was written, if there is something to write, or a prefix of it
pub record WritesTurn {T E : Type 0} (turn : Turn) (m now : Machine) (d : ℕ) (sides : Sides) (result : Result T E) : Type 0 where
  pub entry : Option Entry
  pub turns : turn m now d entry
  pub gives : GivesEntry sides.held sides.after result now.cycle now.devices.epoch entry
  pub faults : CountsFaults sides.count sides.counts result

-- ---- a controller

-- one that has lost no response takes the half step of the run; where it writes nothing nothing changes
pub record TurnsController (m now : Machine) (d : ℕ) (e : Option Entry) : Type 0 where
  pub takes : TakesHalf half m now d e
  pub living : (k : ℕ) → is_living_in now k ≡ is_living_in m k
  pub time : now.cycle ≡ m.cycle
  pub half_steps : now.half_steps ≡ m.half_steps
  pub names : now.devices.names ≡ m.devices.names
  pub leaves : LeavesHalf m now d
  pub silent : e ≡ None → now ≡ m

-- ---- a candidate

-- it bids as in the run
pub record TurnsCandidate (m now : Machine) (d : ℕ) (e : Option Entry) : Type 0 where
  pub bids : (s : State) → IsGood s → StandsFor m s → (t : State) × Transition s (Contend d) (at_most now.cycle e) (counted t 1) × StandsFor now t
  pub half_steps : now.half_steps ≡ m.half_steps
