-- Runs: commands one after another, none of which breaks a rule.
use Rattle.std.specs.Prelude.{List, [], ◌∷◌, ◌++◌, Ok}
use Rattle.fw_log_entry.specs.declared.entry.Timed.{Timed}
use Rattle.fw_script_command.specs.declared.command.Command.{Command}
use Rattle.fw_order.specs.declared.order.Order.{Order}
use Rattle.fw_model_run.specs.State.{State, first_state}
use Rattle.fw_model_run.specs.Actions.{Action}
use Rattle.fw_model_run.specs.Carrying.{Carries}
use Rattle.fw_model_run.specs.Rules.{Decides}

-- the commands, their actions, all that these write, and the state that they lead to
pub data Run : List Command → List Action → List Timed → State → Type 0 where
  begun : Run [] [] [] first_state
  and_then : {commands : List Command} {actions : List Action} {log : List Timed} {s : State} → Run commands actions log s
      → (c : Command) → (o : Order) → (more : List Action) → (out : List Timed) → (t : State)
      → Decides s c (Ok o) → Carries s o more out t → Run (commands ++ c ∷ []) (actions ++ more) (log ++ out) t
