-- What a run has come to when it ends, and what the reader and the bus show of that.
use Rattle.std.specs.Prelude.{◌≡◌, ℕ, List, [], Option, Some, None, Ok, Err, IsFalse, ⊤}
use Rattle.fw_outside.specs.declared.stop.Stop.TheVariants.{ReadFault, WriteFault, TooLong, NoMemory}
use Rattle.fw_log_entry.specs.declared.entry.Timed.{Timed}
use Rattle.fw_script.specs.Reading.{Reading, Answer, IsHeld}
use Rattle.fw_script.specs.declared.ScriptFault.TheVariants as Fault
use Rattle.fw_script_command.specs.declared.command.Command.{Command}
use Rattle.fw_model_run.specs.Actions.{Action}
use Rattle.fw_model_run.specs.Desks.{DeskRelations}
use Rattle.fw_model_run.specs.State.{State, first_state}
use Rattle.fw_bus.specs.Buses.{BusView, StandsFor}
use Rattle.fw_script_words.specs.Ending.{LogsRun, RefusesBy, Runs}
use Rattle.fw_script_words.specs.declared.ending.RunEnding.{RunEnding}
use Rattle.fw_script_words.specs.declared.ending.RunEnding.TheVariants.{Done, Refused, Stopped}
use Rattle.fw_script_words.specs.declared.ending.Refusal.{Refusal}
use Rattle.fw_script_words.specs.declared.ending.Refusal.TheVariants.{BadLine, LineTooLong, NoEnd, Rule}

-- what a run has come to: the commands that were carried out, their actions, the log of these, and the state then
pub record Course : Type 0 where
  pub commands : List Command
  pub actions : List Action
  pub log : List Timed
  pub state : State

-- ---- of an ending

-- what was logged
abbrev pub logged_course : {D : DeskRelations} {held held' : Option (List ℕ)} (commands : List Command) → LogsRun D held held' commands → Course
logged_course commands x = record { commands = commands; actions = x.actions; log = x.log; state = x.state }

-- before a line that is refused
abbrev pub refused_course : (D : DeskRelations) (left left' held held' : Option (List ℕ)) (why : Refusal) (line : ℕ) → RefusesBy D left left' held held' why line → Course
refused_course D left left' held held' BadLine line x = logged_course x.commands x.logged
refused_course D left left' held held' LineTooLong line x = logged_course x.commands x.logged
refused_course D left left' held held' NoEnd line x = logged_course x.commands x.logged
refused_course D left left' held held' (Rule rule) line x = logged_course x.commands x.logged

-- of a run that ended so; a command that was begun and cut off is not among them
abbrev pub course_at : (D : DeskRelations) (left left' held held' : Option (List ℕ)) (ending : RunEnding) → Runs D left left' held held' ending → Course
course_at D left left' held held' Done x = logged_course x.commands x.logged
course_at D left left' held held' (Refused r) x = refused_course D left left' held held' r.why r.line x
course_at D left left' held held' (Stopped ReadFault) x = logged_course x.commands x.logged
course_at D left left' held held' (Stopped WriteFault) x = record { commands = x.commands; actions = x.actions; log = x.log; state = x.state }
course_at D left left' held held' (Stopped TooLong) x = logged_course x.refused.commands x.refused.logged
course_at D left left' held held' (Stopped NoMemory) x = record { commands = []; actions = []; log = []; state = first_state }

-- ---- what the reader answered then

abbrev pub refused_answer : (D : DeskRelations) (left left' held held' : Option (List ℕ)) (why : Refusal) (line : ℕ) → RefusesBy D left left' held held' why line → Answer
refused_answer D left left' held held' BadLine line x = Err Fault.BadLine
refused_answer D left left' held held' LineTooLong line x = Err Fault.LineTooLong
refused_answer D left left' held held' NoEnd line x = Err Fault.NoEnd
refused_answer D left left' held held' (Rule rule) line x = Ok (Some x.command)

-- nothing after the end, a fault of the script, or the command that broke a rule or was cut off
abbrev pub answer_at : (D : DeskRelations) (left left' held held' : Option (List ℕ)) (ending : RunEnding) → Runs D left left' held held' ending → Answer
answer_at D left left' held held' Done x = Ok None
answer_at D left left' held held' (Refused r) x = refused_answer D left left' held held' r.why r.line x
answer_at D left left' held held' (Stopped ReadFault) x = Err Fault.ReadFault
answer_at D left left' held held' (Stopped WriteFault) x = Ok x.begun
answer_at D left left' held held' (Stopped TooLong) x = Err Fault.TooLong
answer_at D left left' held held' (Stopped NoMemory) x = Ok None

-- ---- what is shown

-- the bus stands for the state that the run came to, unless a command was cut off
abbrev pub StandsAt : RunEnding → BusView → State → Type 0
StandsAt Done bus s = StandsFor bus.machine s × IsFalse bus.spent
StandsAt (Refused r) bus s = StandsFor bus.machine s × IsFalse bus.spent
StandsAt (Stopped ReadFault) bus s = StandsFor bus.machine s × IsFalse bus.spent
StandsAt (Stopped WriteFault) bus s = ⊤
StandsAt (Stopped TooLong) bus s = StandsFor bus.machine s × IsFalse bus.spent
StandsAt (Stopped NoMemory) bus s = ⊤

-- the reader has the text of the line that is refused, and the number of the line `end`; the input's end has no text
abbrev pub ShowsLine : (D : DeskRelations) (left left' held held' : Option (List ℕ)) (why : Refusal) (line : ℕ) → RefusesBy D left left' held held' why line → Reading → Type 0
ShowsLine D left left' held held' BadLine line x reader = (x.at.after.text ≡ reader.text) × (x.at.after.end ≡ reader.end)
ShowsLine D left left' held held' LineTooLong line x reader = x.at.after.text ≡ reader.text
ShowsLine D left left' held held' NoEnd line x reader = ⊤
ShowsLine D left left' held held' (Rule rule) line x reader = x.on_line.after.text ≡ reader.text

-- if a line is refused, the reader shows it
abbrev pub IsShownBy : (D : DeskRelations) (left left' held held' : Option (List ℕ)) (ending : RunEnding) → Runs D left left' held held' ending → Reading → Type 0
IsShownBy D left left' held held' Done x reader = ⊤
IsShownBy D left left' held held' (Refused r) x reader = ShowsLine D left left' held held' r.why r.line x reader
IsShownBy D left left' held held' (Stopped stop) x reader = ⊤

-- the reader stands at the line that is refused; if the source failed no whole line is held
abbrev pub StopsAt : RunEnding → Reading → Type 0
StopsAt Done reader = ⊤
StopsAt (Refused r) reader = r.line ≡ reader.line
StopsAt (Stopped ReadFault) reader = IsHeld (Err Fault.ReadFault) reader
StopsAt (Stopped WriteFault) reader = ⊤
StopsAt (Stopped TooLong) reader = ⊤
StopsAt (Stopped NoMemory) reader = ⊤
