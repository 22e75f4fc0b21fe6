-- The reclaim theorem over a run: what was whole before the bus reset that opened a second is whole at its end.
use Rattle.std.specs.Prelude.{ℕ, ◌≡◌, ◌≢◌, ◌⊎◌, List, [], ◌∷◌, ◌++◌, IsTrue, IsFalse, ⊤}
use Rattle.fw_log_entry.specs.declared.entry.Timed.{Timed}
use Rattle.fw_cmp_jobs.specs.declared.connection.Connection.{Connection}
use Rattle.fw_cmp_jobs.specs.declared.connection.Flow.{Flow}
use Rattle.fw_log_entry.specs.declared.entry.Entry.TheVariants.{Reset}
use Rattle.fw_log_entry.specs.declared.entry.ResetEntry.{ResetEntry}
use Rattle.fw_model_controllers.specs.Together.{IsWhole as IsThere}
use Rattle.fw_model_reclaim.specs.Whole.{IsWhole, IsUnbroken, HasFinished, EndsRestored, is_unheard}
use Rattle.fw_model_run.specs.Giving.{at_cycle}
use Rattle.fw_model_run.specs.State.{State, first_state, directory_of, is_deaf}
use Rattle.fw_model_run.specs.Entries.{second_over}
use Rattle.fw_model_run.specs.Actions.{Action, StartBreak, EndSecond, Die}
use Rattle.fw_model_run.specs.Deeds.{Transition, Transitions}
use Rattle.fw_model_run.specs.Good.{world_of}

-- an action that is a bus reset
pub record IsBusReset (s : State) (a : Action) (t : State) : Type 0 where
  pub entry : ResetEntry
  pub step : Transition s a (at_cycle s.clock.cycle (Reset entry) ∷ []) t

-- The action takes no connection of the controller of device d in slot i from it: it is not that controller's death, no break of
-- the connection is asked for, and the second goes on.
abbrev pub IsHarmless : ℕ → ℕ → Action → Type 0
IsHarmless d i (Die e) = e ≢ d
IsHarmless d i (StartBreak e k) = (e ≢ d) ⊎ (k ≢ i)
IsHarmless d i EndSecond = ⊥
IsHarmless d i _ = ⊤

-- none of these actions takes the connection of the slot from the controller
abbrev pub AreHarmless : ℕ → ℕ → List Action → Type 0
AreHarmless d i [] = ⊤
AreHarmless d i (a ∷ actions) = IsHarmless d i a × AreHarmless d i actions

-- no second ends in these actions
abbrev pub GoesOn : List Action → Type 0
GoesOn [] = ⊤
GoesOn (EndSecond ∷ actions) = ⊥
GoesOn (_ ∷ actions) = GoesOn actions

-- A second of a run: the state before the bus reset that opens it, the actions in it, and the state at whose next cycle it is over.
pub record IsSecond (before : State) (during : List Action) (after : State) : Type 0 where
  pub actions : List Action
  pub log : List Timed
  pub run : Transitions first_state actions log before
  pub reset : Action
  pub opened : State
  pub opens : IsBusReset before reset opened
  pub out : List Timed
  pub steps : Transitions opened during out after
  pub last : List Timed
  pub end : State
  pub ends : Transition after EndSecond last end

-- A connection of a controller is whole: it is there at each of its plugs, and the controller has heard so, as far as its job has come.
pub record IsKnownWhole (s : State) (d i : ℕ) (conn : Connection) (f : Flow) : Type 0 where
  pub whole : IsWhole (world_of s) d i conn f
  pub heard : IsFalse (is_unheard (is_deaf s d) (s.controllers d) i)

-- The connections that were whole before the bus reset that opened a second, of which no break waited or was current then and
-- none was accepted since, and whose controller has lived on and has finished restoring, are whole at the second's end: in their
-- slots, on the same channels and with the same units, and they are there in the account.
abbrev pub AreBack : State → List Action → State → Type 0
AreBack before during after =
    (d i : ℕ) (conn : Connection) (f : Flow) → IsKnownWhole before d i conn f → IsUnbroken (before.controllers d) i
    → AreHarmless d i during → HasFinished (after.controllers d)
    → IsKnownWhole after d i conn f × IsThere after.account d conn f

-- they are back at the end of each second of a run
abbrev pub Reclaims : Type 0
Reclaims = (before after : State) (during : List Action) → IsSecond before during after → AreBack before during after

-- While a second runs no restoring of a slot whose own second runs ends in any other way than with its connection.
abbrev pub RestoresInSecond : Type 0
RestoresInSecond =
    (actions : List Action) (log : List Timed) (s : State) → Transitions first_state actions log s → IsTrue s.account.reclaiming
    → (d : ℕ) → EndsRestored s.clock.cycle (directory_of s) (s.controllers d)

-- each end of a second in a log is one of a second of the run, if one was opened by a bus reset
abbrev pub EndsAreSeconds : Type 0
EndsAreSeconds =
    (actions : List Action) (log prefix rest : List Timed) (s : State) (t : Timed) → Transitions first_state actions log s
    → log ≡ prefix ++ t ∷ rest → t.what ≡ second_over
    → (before : State) × (during : List Action) × (after : State) × (x : IsSecond before during after)
    × (y : (done : List Action) × Transitions first_state done prefix after)
    × (y.0 ≡ x.actions ++ x.reset ∷ during) × GoesOn during × ((later : List Action) × (actions ≡ y.0 ++ later))

-- The seconds of a run: at the end of each that its log tells, the connections that were whole before the bus reset that opened it
-- are back; and while a second runs no restoring of a slot whose own second runs ends in any other way than with its connection.
-- The second is one of this run: what was done up to its end is a prefix of the run's actions, and it is what led to the bus reset,
-- that reset, and the actions since, in which no second ends.
pub record ComesBack (actions : List Action) (log : List Timed) : Type 0 where
  pub seconds : (prefix rest : List Timed) (t : Timed) → log ≡ prefix ++ t ∷ rest → t.what ≡ second_over
      → (before : State) × (during : List Action) × (after : State) × (x : IsSecond before during after)
      × (y : (done : List Action) × Transitions first_state done prefix after) × AreBack before during after
      × (y.0 ≡ x.actions ++ x.reset ∷ during) × GoesOn during × ((later : List Action) × (actions ≡ y.0 ++ later))
  -- of each bus reset of such a second, whichever opened it or began it anew
  pub each : (done later during : List Action) (prefix : List Timed) (before after : State) → actions ≡ done ++ later → Transitions first_state done prefix after
      → (x : IsSecond before during after) → done ≡ x.actions ++ x.reset ∷ during → AreBack before during after
  pub outcomes : (done later : List Action) (prefix : List Timed) (s : State) → actions ≡ done ++ later → Transitions first_state done prefix s
      → IsTrue s.account.reclaiming → (d : ℕ) → EndsRestored s.clock.cycle (directory_of s) (s.controllers d)
