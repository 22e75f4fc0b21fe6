-- What `check` comes to before it writes, and what it tells by what the reader and the bus show.
use Rattle.std.specs.Prelude.{◌≡◌, ◌⊎◌, ℕ, List, [], length, Option, Some, Err, IsFalse, ⊤}
use Rattle.fw_outside.specs.Outside.{Grows, AppendsPrefix}
use Rattle.fw_outside.specs.declared.stop.Stop.TheVariants.{ReadFault, WriteFault, TooLong, NoMemory}
use Rattle.fw_script_command.specs.Form.{HasForm}
use Rattle.fw_script_command.specs.declared.command.Command.{Command}
use Rattle.fw_script.specs.Reading.{Reading}
use Rattle.fw_check.specs.Goods.{good_text}
use Rattle.fw_check.specs.Refusals.{bad_line_text, long_line_text, no_end_text}
use Rattle.fw_check_causes.specs.Causes.{cause}
use Rattle.fw_model_run.specs.Desks.{DeskRelations}
use Rattle.fw_model_run.specs.Good.{IsGood}
use Rattle.fw_model_run.specs.Rules.{Decides}
use Rattle.fw_model_run.specs.State.{State}
use Rattle.fw_order.specs.declared.rule.RuleFault.{RuleFault}
use Rattle.fw_bus.specs.Buses.{BusView, StandsFor}
use Rattle.fw_script_words.specs.declared.ending.RunEnding.{RunEnding}
use Rattle.fw_script_words.specs.declared.ending.RunEnding.TheVariants.{Done, Refused, Stopped}
use Rattle.fw_script_words.specs.declared.ending.Refused.{Refused as RefusedLine}
use Rattle.fw_script_words.specs.declared.ending.Refusal.{Refusal}
use Rattle.fw_script_words.specs.declared.ending.Refusal.TheVariants.{BadLine, LineTooLong, NoEnd, Rule}
use Rattle.fw_script_words.specs.Checks.{WasChecked, counts_of, good_of, told_of, why_of}
use Rattle.fw_script_words.specs.Course.{ShowsLine, refused_course}
use Rattle.fw_script_words.specs.Dubs.{InMemory}
use Rattle.fw_script_words.specs.Ending.{Refuses, PassesScriptLimit, Interrupted}

-- ---- the run

-- a line is the first that is refused in memory, and the reader and the bus show it
pub record IsRefused (D : DeskRelations) (left left' : Option (List ℕ)) (r : RefusedLine) (reader : Reading) (bus : BusView) : Type 0 where
  pub written : List ℕ
  pub runs : Refuses D left left' (Some []) (Some written) r
  pub shown : ShowsLine D left left' (Some []) (Some written) r.why r.line runs reader
  pub stands : StandsFor bus.machine (refused_course D left left' (Some []) (Some written) r.why r.line runs).state
  pub fresh : IsFalse bus.spent

-- what a run in memory came to, and what the reader and the bus show of it
abbrev pub IsChecked : DeskRelations → Option (List ℕ) → Option (List ℕ) → Reading → BusView → ℕ → RunEnding → Type 0
IsChecked D left left' reader bus commands Done = (was : WasChecked D left left') × (length was.1.commands ≡ commands) × StandsFor bus.machine was.1.logged.state × IsFalse bus.spent
IsChecked D left left' reader bus commands (Refused r) = IsRefused D left left' r reader bus
IsChecked D left left' reader bus commands (Stopped ReadFault) = InMemory (Interrupted D left left')
IsChecked D left left' reader bus commands (Stopped WriteFault) = ⊥
IsChecked D left left' reader bus commands (Stopped TooLong) = InMemory (PassesScriptLimit D left left')
IsChecked D left left' reader bus commands (Stopped NoMemory) = ⊤

-- what is told of it
abbrev pub checked_text : (D : DeskRelations) (left left' : Option (List ℕ)) (reader : Reading) (bus : BusView) (commands : ℕ) (ending : RunEnding)
    → IsChecked D left left' reader bus commands ending → List ℕ
checked_text D left left' reader bus commands Done x = good_of x.0
checked_text D left left' reader bus commands (Refused r) x = why_of D left left' r (x.written, x.runs)
checked_text D left left' reader bus commands (Stopped stop) x = []

-- ---- what is told, by what the reader and the bus show

-- a command of this line breaks a rule in a good state for which the bus stands, and the text is of what stands against it
pub record IsOfCause (bus : BusView) (reader : Reading) (rule : RuleFault) (line : ℕ) (text : List ℕ) : Type 0 where
  pub state : State
  pub broken : Command
  pub good : IsGood state
  pub stands : StandsFor bus.machine state
  pub form : HasForm broken reader.text
  pub decided : Decides state broken (Err rule)
  pub told : text ≡ told_of line reader.text (cause state broken rule)

-- why a line is refused
abbrev pub IsWhy : Refusal → ℕ → Reading → BusView → List ℕ → Type 0
IsWhy BadLine line reader bus text = text ≡ bad_line_text line reader.text reader.end
IsWhy LineTooLong line reader bus text = text ≡ long_line_text line reader.text
IsWhy NoEnd line reader bus text = text ≡ no_end_text line
IsWhy (Rule rule) line reader bus text = IsOfCause bus reader rule line text

-- by the ending of the run
abbrev pub IsTold : RunEnding → ℕ → Reading → BusView → List ℕ → Type 0
IsTold Done commands reader bus text = (s : State) × StandsFor bus.machine s × (text ≡ good_text (counts_of commands s))
IsTold (Refused r) commands reader bus text = IsWhy r.why r.line reader bus text
IsTold (Stopped stop) commands reader bus text = text ≡ []

-- what writing a text does, which stands in place of the log of a run with this ending
abbrev pub TellsText : List ℕ → Option (List ℕ) → Option (List ℕ) → RunEnding → RunEnding → Type 0
TellsText text held held' ending result = ((result ≡ ending) × Grows held held' text) ⊎ ((result ≡ Stopped WriteFault) × AppendsPrefix held held' text)
