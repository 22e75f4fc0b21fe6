-- What the script of a run swaps, and what `watch` then does not find in the log.
use Rattle.std.specs.Prelude.{◌≡◌, ⊤, false, List, [], ◌∷◌}
use Rattle.fw_log_entry.specs.declared.entry.Timed.{Timed}
use Rattle.fw_order.specs.declared.order.Access.{Access}
use Rattle.fw_order.specs.declared.order.Access.TheVariants.{Read, Swap}
use Rattle.fw_model_run.specs.Actions.{Action, Ask}
use Rattle.fw_model_run.specs.Named.{is_guarded_at}
use Rattle.fw_watch_laws.specs.Orderly.{is_not_manager, is_too_many, is_several, is_more, HasNone}

-- it is no swap at a register of the resource manager that holds channels or units, nor at a plug register
abbrev pub SwapsElsewhere : Access → Type 0
SwapsElsewhere (Read offset) = ⊤
SwapsElsewhere (Swap offset swap) = is_guarded_at offset ≡ false

-- the script asks for none, by this action
abbrev pub IsElsewhere : Action → Type 0
IsElsewhere (Ask x) = SwapsElsewhere x.access
IsElsewhere _ = ⊤

-- nor by any of these
abbrev pub AreElsewhere : List Action → Type 0
AreElsewhere [] = ⊤
AreElsewhere (a ∷ actions) = IsElsewhere a × AreElsewhere actions

-- `watch` tells of no swap as of another than the resource manager, as too many units, several channels at once or more than a connection
pub record HasNoBadSwap (log : List Timed) : Type 0 where
  pub manager : HasNone is_not_manager log
  pub units : HasNone is_too_many log
  pub channels : HasNone is_several log
  pub plugs : HasNone is_more log
