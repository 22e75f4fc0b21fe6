-- Deeds of controllers: connections and breaks that they are asked for, half steps, lost responses, deaths and starts.
use Rattle.std.specs.Prelude.{ℕ, ◌≡◌, ◌+◌, ◌<◌, ◌≤◌, Bool, true, false, None, Ok, IsTrue, IsFalse}
use Rattle.fw_log_entry.specs.declared.entry.ResetEntry.{ResetEntry}
use Rattle.fw_cmp_jobs.specs.Fits.{SlotFits}
use Rattle.fw_cmp.specs.Starts.{break_fault, break_started}
use Rattle.fw_order.specs.declared.limits.TheConstants.{MOST_HALF_STEPS, MOST_RESETS}
use Rattle.fw_order.specs.declared.order.Wanted.{Wanted}
use Rattle.fw_model_run.specs.Entries.{died, started, lost, unsettled as still_unsettled}
use Rattle.fw_model_run.specs.HalfSteps.{half, has_request, with_controller, after_half, is_unsettled, is_waiting}
use Rattle.fw_model_run.specs.Afterwards.{slot_of, start_of, with_connection, counted, after_loss, after_death, after_start}
use Rattle.fw_model_run.specs.State.{State, entered, is_living, is_linked, is_deaf}
use Rattle.fw_model_run.specs.Deed.{Deed, silent, saying, IsNextReset, reset_by}
use Rattle.fw_model_run.specs.Found.{FoundInHalf}

-- ---- what controllers are asked for

-- a living controller, whose check gives the connection a slot
pub record MayConnect (s : State) (d : ℕ) (w : Wanted) : Type 0 where
  pub lives : IsTrue (is_living s d)
  pub fits : SlotFits (slot_of w)
  pub slot : ℕ
  pub starts : start_of d w (s.controllers d) ≡ Ok slot

-- a controller takes a new connection, which waits
abbrev pub connecting : State → ℕ → Wanted → Deed
connecting s d w = silent s (MayConnect s d w) (with_connection s d w)

-- a living controller, with a connection in the slot of which no break has still to end
pub record MayBreak (s : State) (d slot : ℕ) : Type 0 where
  pub lives : IsTrue (is_living s d)
  pub starts : break_fault (s.controllers d) slot ≡ None

-- a controller takes a break, which waits
abbrev pub breaking : State → ℕ → ℕ → Deed
breaking s d slot = silent s (MayBreak s d slot) (with_controller s d (break_started (s.controllers d) slot))

-- ---- half steps

-- a half step more of a living controller
pub record MayStep (s : State) (d : ℕ) : Type 0 where
  pub lives : IsTrue (is_living s d)
  pub few : s.half_steps < MOST_HALF_STEPS

-- and it begins a bus reset
pub record MayForce (s : State) (d : ℕ) (e : ResetEntry) : Type 0 where
  pub step : MayStep s d
  pub reset : IsNextReset s d e

-- A half step of a controller that has lost a response or not, and waits for the end of its split timeout or not. It is counted. A bus
-- reset that it forces does not count again.
abbrev pub stepping_as : (deaf waiting : Bool) → State → (d : ℕ) → FoundInHalf deaf waiting → Deed
stepping_as false waiting s d found =
    record { may = MayStep s d; cycle = s.clock.cycle; says = (half s d).says; after = counted (after_half s d) 1 }
stepping_as true true s d found = silent s (MayStep s d) (counted s 1)
stepping_as true false s d e = reset_by (counted s 1) (MayForce s d e) e

-- a half step of a controller
abbrev pub stepping : (s : State) → (d : ℕ) → FoundInHalf (is_deaf s d) (is_waiting s d) → Deed
stepping s d found = stepping_as (is_deaf s d) (is_waiting s d) s d found

-- so many half steps may be given
pub record MayRest (s : State) (count : ℕ) : Type 0 where
  pub settled : IsFalse (is_unsettled s)
  pub few : s.half_steps + count ≤ MOST_HALF_STEPS

-- half steps of controllers that have nothing to do are counted
abbrev pub resting : State → ℕ → Deed
resting s count = silent s (MayRest s count) (counted s count)

-- a living controller has something to do, or waits for an answer
abbrev pub ending_unsettled : State → Deed
ending_unsettled s = saying s (IsTrue (is_unsettled s)) still_unsettled (record s { account = entered s.account still_unsettled })

-- ---- requests that are carried out, deaths and starts

-- a living controller, whose request is on its way
pub record MayCarryOut (s : State) (d : ℕ) : Type 0 where
  pub lives : IsTrue (is_living s d)
  pub stands : IsTrue (has_request (s.controllers d).current)

-- the request is carried out, and the response is written, before the controller dies
abbrev pub carrying_out : State → ℕ → Deed
carrying_out s d = record { may = MayCarryOut s d; cycle = s.clock.cycle; says = (half s d).says; after = after_half s d }

-- a lost response counts as a bus reset
pub record MayLose (s : State) (d : ℕ) : Type 0 where
  pub request : MayCarryOut s d
  pub counts : s.resets < MOST_RESETS

-- the request is carried out, and the response is written, which the controller does not hear
abbrev pub losing : State → ℕ → Deed
losing s d = record { may = MayLose s d; cycle = s.clock.cycle; says = (half s d).says; after = after_loss s d }

-- that is told of a controller that has lost a response
abbrev pub telling_loss : State → ℕ → Deed
telling_loss s d = saying s (IsTrue (is_deaf s d)) (lost d) (record s { account = entered s.account (lost d) })

-- a living controller dies
abbrev pub dying : State → ℕ → Deed
dying s d = saying s (IsTrue (is_living s d)) (died d) (after_death s d)

-- a device on the bus with a link, whose controller died
pub record MayStart (s : State) (d : ℕ) : Type 0 where
  pub linked : IsTrue (is_linked s d)
  pub dead : IsTrue (s.dead d)

-- a dead controller starts
abbrev pub starting : State → ℕ → Deed
starting s d = saying s (MayStart s d) (started d) (after_start s d)
