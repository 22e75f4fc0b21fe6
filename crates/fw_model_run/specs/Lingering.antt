-- Which output plugs linger through the actions of a run.
use Rattle.std.specs.Prelude.{List, [], ◌∷◌}
use Rattle.fw_log_entry.specs.declared.entry.Timed.{Timed}
use Rattle.fw_log_entry.specs.declared.entry.Entry.{Entry}
use Rattle.fw_log_entry.specs.declared.entry.Entry.TheVariants.{Reset}
use Rattle.fw_model_account.specs.Account.{Account}
use Rattle.fw_model_controllers.specs.Lingering.{NoneLingers, SameLinger, LingerUnchanged, LingerActive, LingerAfter}
use Rattle.fw_model_run.specs.Actions.{Action, AddDevice, AddCable, ResetBus, HalfStep, EndSecond, CarryOut, Lose}

-- by what an action writes: one entry at most
abbrev pub LingerBy : List Timed → Account → Account → Type 0
LingerBy [] l m = SameLinger l m
LingerBy (e ∷ es) l m = LingerAfter e.what l m

-- by the one entry that a half step writes: a bus reset that it forces, or another
abbrev pub LingerEntry : Entry → Account → Account → Type 0
LingerEntry (Reset r) l m = LingerActive r l m
LingerEntry _ l m = LingerUnchanged l m

-- a half step, by what it writes
abbrev pub LingerHalf : List Timed → Account → Account → Type 0
LingerHalf [] l m = LingerUnchanged l m
LingerHalf (e ∷ es) l m = LingerEntry e.what l m

-- What an action writes tells whether it began a bus reset. A half step ends the lingering of the plugs whose words it changes, and
-- so does a request that is carried out late; after the second no plug lingers. No other action touches what lingers.
abbrev pub LingerThrough : Action → List Timed → Account → Account → Type 0
LingerThrough (AddDevice name kind ports speed) out l m = LingerBy out l m
LingerThrough (AddCable a b) out l m = LingerBy out l m
LingerThrough (ResetBus d) out l m = LingerBy out l m
LingerThrough (HalfStep d) out l m = LingerHalf out l m
LingerThrough (CarryOut d) out l m = LingerUnchanged l m
LingerThrough (Lose d) out l m = LingerUnchanged l m
LingerThrough EndSecond out l m = NoneLingers m
LingerThrough _ out l m = SameLinger l m
