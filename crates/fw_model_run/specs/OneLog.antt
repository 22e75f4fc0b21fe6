-- What a script writes is one log, whose desk is a function.
use Rattle.std.specs.Prelude.{◌≡◌, List}
use Rattle.fw_log_entry.specs.declared.entry.Timed.{Timed}
use Rattle.fw_script_command.specs.declared.command.Command.{Command}
use Rattle.fw_order.specs.declared.order.Order.{Order}
use Rattle.fw_model_run.specs.Actions.{Action}
use Rattle.fw_model_run.specs.Carrying.{Carries}
use Rattle.fw_model_run.specs.Desks.{DeskRelations, IsFunction}
use Rattle.fw_model_run.specs.Given.{AreGiven}
use Rattle.fw_model_run.specs.Good.{IsGood}
use Rattle.fw_model_run.specs.Runs.{Run}
use Rattle.fw_model_run.specs.State.{State}

-- two runs of the same commands write one log and lead to one state, if the desk is a function
abbrev pub RunsHaveOneLog : DeskRelations → Type 0
RunsHaveOneLog D = IsFunction D → (commands : List Command) (actions others : List Action) (log other : List Timed) (s t : State)
    → Run commands actions log s → Run commands others other t → AreGiven D actions → AreGiven D others → (log ≡ other) × (s ≡ t)

-- and an order has one result in a good state
abbrev pub OrdersHaveOneResult : DeskRelations → Type 0
OrdersHaveOneResult D = IsFunction D → (s : State) (o : Order) (actions others : List Action) (out other : List Timed) (t u : State)
    → IsGood s → Carries s o actions out t → Carries s o others other u → AreGiven D actions → AreGiven D others → (out ≡ other) × (t ≡ u)
