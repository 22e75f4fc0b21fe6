-- A run that is under way: what was read and carried out so far, and what a step more does.
use Rattle.std.specs.Prelude.{◌≡◌, ℕ, ◌+◌, ◌-◌, ◌<◌, List, [], ◌∷◌, ◌++◌, true, Option, Some, None, Ok, IsFalse}
use Rattle.std.specs.List.{All}
use Rattle.fw_outside.specs.Outside.{Takes, Grows, IsAtEnd}
use Rattle.fw_log_entry.specs.Log.{header_bytes, latest_epoch, TimedFits}
use Rattle.fw_log_entry.specs.declared.version.Version.TheVariants.{Two}
use Rattle.fw_log_entry.specs.declared.entry.Timed.{Timed}
use Rattle.fw_script.specs.Reader.{PassesOver}
use Rattle.fw_script.specs.Reading.{Reading, Advances}
use Rattle.fw_script.specs.Script.{IsScript}
use Rattle.fw_script.specs.Leading.{HasRead}
use Rattle.fw_script_command.specs.declared.command.Command.{Command}
use Rattle.fw_script_command.specs.declared.command.Command.TheVariants.{End}
use Rattle.fw_script.specs.declared.stage.ReaderStage.{ReaderStage}
use Rattle.fw_script.specs.declared.stage.ReaderStage.TheVariants.{Commands, AfterEnd, Done, Failed}
use Rattle.fw_model_run.specs.Giving.{log_bytes}
use Rattle.fw_model_run.specs.Logs.{HasNoEnd}
use Rattle.fw_model_run.specs.State.{State}
use Rattle.fw_model_run.specs.Actions.{Action}
use Rattle.fw_model_run.specs.Carrying.{Carries}
use Rattle.fw_model_run.specs.Rules.{Decides}
use Rattle.fw_order.specs.declared.order.Order.{Order}
use Rattle.fw_model_run.specs.Desks.{DeskRelations}
use Rattle.fw_model_run.specs.Given.{AreGiven}
use Rattle.fw_model_run.specs.Runs.{Run}
use Rattle.fw_bus.specs.Buses.{StandsFor, BusView}
use Rattle.fw_script_words.specs.Course.{Course, course_at, answer_at, StandsAt, IsShownBy, StopsAt}
use Rattle.fw_script_words.specs.Ending.{Runs}
use Rattle.fw_script_words.specs.declared.ending.RunEnding.{RunEnding}

-- The end was given, and these commands are the script's.
pub record HasEnded (left now : Option (List ℕ)) (given : List Command) (reader : Reading) : Type 0 where
  pub script : List ℕ
  pub takes : Takes left now script
  pub end : IsAtEnd now
  pub says : IsScript script given None
  pub whole : reader.whole ≡ true
  pub earlier : List Command
  pub no_end : HasNoEnd earlier
  pub last : given ≡ earlier ++ End ∷ []

-- after the line of the last command that was carried out
abbrev pub HasReadTo : ReaderStage → Option (List ℕ) → Option (List ℕ) → List Command → Reading → Type 0
HasReadTo Commands left now given reader = HasRead left now given reader
HasReadTo AfterEnd left now given reader = ⊥
HasReadTo Done left now given reader = HasEnded left now given reader
HasReadTo Failed left now given reader = ⊥

-- Before a call of the reader: it stands after the line of the last command, or further on after lines that say nothing, which were passed over one by one.
pub record IsReading (left now : Option (List ℕ)) (given : List Command) (reader : Reading) : Type 0 where
  pub known : Reading
  pub read : HasReadTo known.stage left now given known
  pub passed : PassesOver known reader

-- how much a reader may still read: each command takes a byte of the script, and the end comes once
abbrev pub open_of : ReaderStage → ℕ
open_of Commands = 1
open_of AfterEnd = 1
open_of Done = 0
open_of Failed = 1

-- how much of a script may still be read
abbrev pub to_read : Reading → ℕ
to_read reader = (1048576 - reader.before) + open_of reader.stage

-- Before a call of the reader: the commands so far were carried out, with what the desk gives, and the header and their log stand
-- where they are kept.
pub record Going (D : DeskRelations) (left now held after : Option (List ℕ)) (reader : Reading) (bus : BusView) : Type 0 where
  pub commands : List Command
  pub actions : List Action
  pub log : List Timed
  pub state : State
  pub run : Run commands actions log state
  pub given : AreGiven D actions
  pub stands : StandsFor bus.machine state
  pub fresh : IsFalse bus.spent
  pub grew : Grows held after (header_bytes Two ++ log_bytes 0 log)
  pub read : IsReading left now commands reader

-- some run is under way
pub record IsUnderWay (D : DeskRelations) (now : Option (List ℕ)) (reader : Reading) (bus : BusView) : Type 0 where
  pub left : Option (List ℕ)
  pub held : Option (List ℕ)
  pub after : Option (List ℕ)
  pub going : Going D left now held after reader bus

-- what it has come to
abbrev pub course_of : {D : DeskRelations} {left now held after : Option (List ℕ)} {reader : Reading} {bus : BusView} → Going D left now held after reader bus → Course
course_of g = record { commands = g.commands; actions = g.actions; log = g.log; state = g.state }

-- One command more was read and carried out: the run goes on with the entries that were written.
pub record Carried (D : DeskRelations) (left now now' held after' written written' : Option (List ℕ)) (course : Course) (reader reader' : Reading) (bus' : BusView) : Type 0 where
  pub going : Going D left now' held after' reader' bus'
  pub command : Command
  pub reads : Advances reader reader' now now' (Ok (Some command))
  pub order : Order
  pub decided : Decides course.state command (Ok order)
  pub more : List Action
  pub out : List Timed
  pub carries : Carries course.state order more out going.state
  pub commands : going.commands ≡ course.commands ++ command ∷ []
  pub actions : going.actions ≡ course.actions ++ more
  pub longer : going.log ≡ course.log ++ out
  pub fit : All TimedFits out
  pub wrote : Grows written written' (log_bytes (latest_epoch 0 course.log) out)
  pub shorter : to_read reader' < to_read reader

-- The run has ended with what it had come to, and the reader and the bus show it.
pub record Ended (D : DeskRelations) (left now now' held held' : Option (List ℕ)) (course : Course) (reader reader' : Reading) (bus' : BusView) (ending : RunEnding) : Type 0 where
  pub runs : Runs D left now' held held' ending
  pub same : course_at D left now' held held' ending runs ≡ course
  pub reads : Advances reader reader' now now' (answer_at D left now' held held' ending runs)
  pub stands : StandsAt ending bus' course.state
  pub shown : IsShownBy D left now' held held' ending runs reader'
  pub stops : StopsAt ending reader'

-- what a step did: a command more, or the end of the run
abbrev pub Continues : {D : DeskRelations} {left now held after : Option (List ℕ)} {reader : Reading} {bus : BusView} → Going D left now held after reader bus
    → Option (List ℕ) → Option (List ℕ) → Option (List ℕ) → Option (List ℕ) → Reading → BusView → Option RunEnding → Type 0
Continues {D} {left} {now} {held} {after} {reader} g now' written written' after' reader' bus' None =
    Carried D left now now' held after' written written' (course_of g) reader reader' bus'
Continues {D} {left} {now} {held} {after} {reader} g now' written written' after' reader' bus' (Some ending) =
    Ended D left now now' held after' (course_of g) reader reader' bus' ending

-- A step, wherever the log is kept: it wrote these bytes, and with them after what a place held the run goes on or has ended there.
abbrev pub StepsOn : {D : DeskRelations} {left now held after : Option (List ℕ)} {reader : Reading} {bus : BusView} → Going D left now held after reader bus
    → Option (List ℕ) → Option (List ℕ) → Option (List ℕ) → Reading → BusView → Option RunEnding → Type 0
StepsOn {after = after} g now' written written' reader' bus' result =
    (bytes : List ℕ) × Grows written written' bytes × ((after' : Option (List ℕ)) → Grows after after' bytes → Continues g now' written written' after' reader' bus' result)
