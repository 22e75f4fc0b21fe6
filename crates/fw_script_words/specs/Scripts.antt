-- Where a script faults, and which are valid.
use Rattle.std.specs.Prelude.{◌≡◌, ℕ, ◌+◌, List, ◌∷◌, ◌++◌, None, Err}
use Rattle.fw_log_entry.specs.declared.entry.Timed.{Timed}
use Rattle.fw_script_words.specs.declared.ending.RunEnding.{RunEnding}
use Rattle.fw_outside.specs.declared.stop.Stop.TheVariants as Stops
use Rattle.fw_script_words.specs.declared.ending.RunEnding.TheVariants.{Done, Refused, Stopped}
use Rattle.fw_script.specs.Reading.{Reading, GivesFirst}
use Rattle.fw_script.specs.Script.{IsScript, start_of}
use Rattle.fw_script.specs.Leading.{Leads}
use Rattle.fw_script_command.specs.declared.command.Command.{Command}
use Rattle.fw_script.specs.declared.ScriptFault.{ScriptFault}
use Rattle.fw_script.specs.declared.ScriptFault.TheVariants.{BadLine, LineTooLong, NoEnd, ReadFault, TooLong}
use Rattle.fw_order.specs.declared.rule.RuleFault.{RuleFault}
use Rattle.fw_model_run.specs.State.{State}
use Rattle.fw_model_run.specs.Rules.{Decides}
use Rattle.fw_model_run.specs.Actions.{Action}
use Rattle.fw_model_run.specs.Runs.{Run}

-- the lines after these commands give this fault, perhaps after skipped ones
pub record FaultsAt (script : List ℕ) (commands : List Command) (fault : ScriptFault) : Type 0 where
  pub before : Reading
  pub after : Reading
  pub leads : Leads (start_of script) commands before
  pub gives : GivesFirst before (Err fault) after

-- How many bytes are taken at most after those that stand before the place of a fault. That place is after the refused line, but
-- before one that is too long.
abbrev pub beyond : ScriptFault → ℕ
beyond BadLine = 4096
beyond LineTooLong = 257 + 4096
beyond NoEnd = 0
beyond ReadFault = 256
beyond TooLong = 256 + 4096

-- no line is refused, neither by its form nor by a rule
pub record IsValid (script : List ℕ) : Type 0 where
  pub commands : List Command
  pub says : IsScript script commands None
  pub allowed : (done later : List Command) (c : Command) (actions : List Action) (log : List Timed) (state : State) (f : RuleFault)
      → commands ≡ done ++ c ∷ later → Run done actions log state → Decides state c (Err f) → ⊥

-- no line was refused, nor was the script too long
abbrev pub IsNoRefusal : RunEnding → Type 0
IsNoRefusal Done = Unit {0}
IsNoRefusal (Refused r) = ⊥
IsNoRefusal (Stopped Stops.ReadFault) = Unit {0}
IsNoRefusal (Stopped Stops.WriteFault) = Unit {0}
IsNoRefusal (Stopped Stops.TooLong) = ⊥
IsNoRefusal (Stopped Stops.NoMemory) = Unit {0}
