-- What is done as a deed says, by what it finds.
use Rattle.std.specs.Prelude.{◌≡◌, List}
use Rattle.fw_log_entry.specs.declared.entry.Timed.{Timed}
use Rattle.fw_model_run.specs.Actions.{Action}
use Rattle.fw_model_run.specs.Deed.{Deed}
use Rattle.fw_model_run.specs.Deeds.{Transition, deed}
use Rattle.fw_model_run.specs.Giving.{at_most}
use Rattle.fw_model_run.specs.State.{State}

-- this was found, and all else is as the deed says
pub record Done {F : Type 0} (d : F → Deed) (out : List Timed) (t : State) : Type 0 where
  pub found : F
  pub may : (d found).may
  pub out_is : out ≡ at_most (d found).cycle (d found).says
  pub state_is : t ≡ (d found).after

-- each action is done so
pub done : (s : State) (a : Action) (out : List Timed) (t : State) → Transition s a out t → Done (deed s a) out t
done s a out t x = record { found = x.found; may = x.may; out_is = x.out_is; state_is = x.state_is }
