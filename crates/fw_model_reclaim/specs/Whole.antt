-- Whole connections, and the reclaim theorem: what was whole before the bus reset that opened a reclaim second is whole again
-- at its end.
use Rattle.std.specs.Prelude.{ℕ, ◌≡◌, ◌≢◌, ◌⊎◌, Bool, true, false, ◌&&◌, if◌then◌else◌, Option, Some, None, List, [], ◌∷◌, ⊤}
use Rattle.fw_cmp_jobs.specs.declared.connection.Connection.{Connection}
use Rattle.fw_cmp_jobs.specs.declared.connection.Flow.{Flow}
use Rattle.fw_cmp_jobs.specs.declared.connection.Slot.{Slot}
use Rattle.fw_cmp_jobs.specs.declared.connection.Slot.TheVariants.{Free, Making, Established, Restoring, Gone}
use Rattle.fw_cmp.specs.declared.current.Current.{Current}
use Rattle.fw_cmp.specs.declared.current.Current.TheVariants.{Nothing, Asking, Hearing, Overtaken}
use Rattle.fw_cmp_jobs.specs.declared.directory.Directory.{Directory}
use Rattle.fw_cmp_jobs.specs.declared.job.Job.{Job}
use Rattle.fw_cmp.specs.declared.outcome.Next.TheVariants.{End}
use Rattle.fw_cmp_jobs.specs.declared.outcome.Outcome.{Outcome}
use Rattle.fw_cmp_jobs.specs.declared.outcome.Outcome.TheVariants.{Restored}
use Rattle.fw_cmp_jobs.specs.declared.stage.Stage.TheVariants.{Made}
use Rattle.fw_cmp.specs.Controllers.{ControllerState, slot_at, break_waits, break_runs}
use Rattle.fw_cmp_jobs.specs.Slots.{is_restoring}
use Rattle.fw_cmp.specs.Holdings.{is_current_slot}
use Rattle.fw_cmp.specs.Turns.{next}
use Rattle.fw_terms.specs.declared.plug.PlugAt.{PlugAt}
use Rattle.fw_cmp_jobs.specs.Connections.{output_of, input_of}
use Rattle.fw_model_controllers.specs.InStep.{IsFlow}
use Rattle.fw_model_controllers.specs.Together.{IsWhole as IsThere}
use Rattle.fw_model_reclaim.specs.Due.{is_at}
use Rattle.fw_model_reclaim.specs.Seats.{Side, Output, Input}
use Rattle.fw_model_reclaim.specs.Worlds.{World, Change, SecondOver, Death, BreakOf, IsAtWork}

-- ---- whole connections

-- the connection that a slot is for
abbrev pub connection_in : Slot → Option Connection
connection_in Free = None
connection_in (Making conn asked overhead) = Some conn
connection_in (Established conn f) = Some conn
connection_in (Restoring conn f over) = Some conn
connection_in (Gone conn) = Some conn

-- the connection of the slot stands
abbrev pub is_standing : Slot → Bool
is_standing (Established conn f) = true
is_standing _ = false

-- the current job's connection is there at its plug of a side, as far as the job has come
abbrev pub is_job_at : Side → Current → Bool
is_job_at side Nothing = false
is_job_at side (Asking j s) = is_at side s
is_job_at side (Hearing j s) = is_at side s
is_job_at side (Overtaken i o) = false

-- the connection of a slot is there at its plug of a side
abbrev pub is_there : Side → ControllerState → ℕ → Bool
is_there side c i = if is_current_slot c.current i then is_job_at side c.current else is_standing (slot_at c i)

-- A connection in a slot of controller c is whole: it is there at each of its plugs, and these are set to its flow.
pub record IsWhole (w : World) (c i : ℕ) (conn : Connection) (f : Flow) : Type 0 where
  pub connection : connection_in (slot_at (w.controllers c) i) ≡ Some conn
  pub output : (p : PlugAt) → output_of conn ≡ Some p → (is_there Output (w.controllers c) i ≡ true) × IsFlow (w.account.settings p) f
  pub input : (q : PlugAt) → input_of conn ≡ Some q → (is_there Input (w.controllers c) i ≡ true) × (w.account.input_channel q ≡ f.channel)

-- What it comes to where no break of it is current: it stands in its slot and no job is at it, or its job has made it and has
-- not ended yet.
pub data IsComplete (c : ControllerState) (i : ℕ) (conn : Connection) (f : Flow) : Type 0 where
  Stands : slot_at c i ≡ Established conn f → is_current_slot c.current i ≡ false → IsComplete c i conn f
  IsMade : (j : Job) → IsAtWork c.current j (Made f) → j.slot ≡ i → j.connection ≡ conn → IsComplete c i conn f

-- ---- the reclaim theorem

-- no break of the slot waits or is current
pub record IsUnbroken (c : ControllerState) (i : ℕ) : Type 0 where
  pub waits : break_waits c i ≡ false
  pub runs : break_runs c.current i ≡ false

-- none of its connections is to be restored
abbrev pub HasFinished : ControllerState → Type 0
HasFinished c = (i : ℕ) → is_restoring (slot_at c i) ≡ false

-- the change is none that takes a connection of controller c in slot i from it: not the controller's death, not a break of the
-- connection; and it is not the end of the second
abbrev pub IsHarmless : ℕ → ℕ → Change → Type 0
IsHarmless c i SecondOver = ⊥
IsHarmless c i (Death d) = d ≢ c
IsHarmless c i (BreakOf d k) = (d ≢ c) ⊎ (k ≢ i)
IsHarmless c i _ = ⊤

-- none of these changes takes the connection of the slot from the controller
abbrev pub AreHarmless : ℕ → ℕ → List Change → Type 0
AreHarmless c i [] = ⊤
AreHarmless c i (x ∷ changes) = IsHarmless c i x × AreHarmless c i changes

-- the last response to the job at this slot was lost: the controller does not know what has come of the connection
abbrev pub is_unheard : Bool → ControllerState → ℕ → Bool
is_unheard lost c i = lost && is_current_slot c.current i

-- From world w a bus reset begins a reclaim second, or begins it anew, and changes follow up to world v, in that second. A
-- connection that was whole in w, as far as its controller had heard, and of which no break waited or was current, is whole in v,
-- in its slot and on the same channel and units, if its controller lived on and has finished restoring, and no break of the
-- connection was accepted; and it is there in the account. No job is at its slot then.
abbrev pub Reclaims : World → (ℕ → Bool) → List Change → World → Type 0
Reclaims w lost changes v =
    (c i : ℕ) (conn : Connection) (f : Flow)
    → IsWhole w c i conn f → IsUnbroken (w.controllers c) i
    → is_unheard (lost c) (w.controllers c) i ≡ false
    → AreHarmless c i changes
    → HasFinished (v.controllers c)
    → IsWhole v c i conn f × IsThere v.account c conn f × (is_current_slot (v.controllers c).current i ≡ false)

-- the outcome that is written is that of a job that a bus reset has taken off its slot
abbrev pub is_overtaken : Current → Bool
is_overtaken (Overtaken i o) = true
is_overtaken _ = false

-- A restoring in its slot's own second ends in no other way than with its connection, on its channel.
abbrev pub EndsRestored : ℕ → Directory → ControllerState → Type 0
EndsRestored now d state =
    (i : ℕ) (o : Outcome) (conn : Connection) (f : Flow)
    → slot_at state i ≡ Restoring conn f false → is_overtaken state.current ≡ false
    → next now d state ≡ End i o → o ≡ Restored f.channel
