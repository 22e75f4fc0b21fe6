-- What each ending of a run says of the input and of the log.
use Rattle.std.specs.Prelude.{◌≡◌, ℕ, ◌+◌, ◌<◌, ◌≤◌, List, [], ◌++◌, length, Option, Some, None, Ok, Err}
use Rattle.fw_outside.specs.Outside.{Takes, Grows, IsAtEnd, AppendsPrefix}
use Rattle.fw_outside.specs.declared.stop.Stop.TheVariants.{ReadFault, WriteFault, TooLong, NoMemory}
use Rattle.fw_log_entry.specs.Log.{header_bytes, LogOpens, LogSpells}
use Rattle.fw_log_entry.specs.declared.version.Version.TheVariants.{Two}
use Rattle.fw_log_entry.specs.declared.entry.Timed.{Timed}
use Rattle.fw_script.specs.Script.{IsScript}
use Rattle.fw_script.specs.Leading.{BeginsWith, IsOnLine, TakesFrom, LinesSay}
use Rattle.fw_script_command.specs.declared.command.Command.{Command}
use Rattle.fw_script.specs.declared.ScriptFault.{ScriptFault}
use Rattle.fw_script.specs.declared.ScriptFault.TheVariants as Fault
use Rattle.fw_order.specs.declared.order.Order.{Order}
use Rattle.fw_order.specs.declared.rule.RuleFault.{RuleFault}
use Rattle.fw_model_run.specs.Giving.{log_bytes}
use Rattle.fw_model_run.specs.State.{State}
use Rattle.fw_model_run.specs.Rules.{Decides}
use Rattle.fw_model_run.specs.Actions.{Action}
use Rattle.fw_model_run.specs.Deeds.{Transitions}
use Rattle.fw_model_run.specs.Carrying.{Carries}
use Rattle.fw_model_run.specs.Desks.{DeskRelations}
use Rattle.fw_model_run.specs.Given.{AreGiven}
use Rattle.fw_model_run.specs.Runs.{Run}
use Rattle.fw_model_run.specs.Headline.{IsSoundThroughout}
use Rattle.fw_model_account.specs.Fold.{entries_of}
use Rattle.fw_model_audit.specs.Audited.{IsAudited}
use Rattle.fw_model_run.specs.Elected.{ElectsOne}
use Rattle.fw_model_run.specs.Reclaiming.{ComesBack}
use Rattle.fw_model_run.specs.Recovery.{RecoversThroughout}
use Rattle.fw_model_run.specs.Settling.{RoundsSuffice}
use Rattle.fw_model_run.specs.Withheld.{WithholdsThroughout}
use Rattle.fw_script_words.specs.declared.ending.RunEnding.{RunEnding}
use Rattle.fw_script_words.specs.declared.ending.RunEnding.TheVariants.{Done, Refused, Stopped}
use Rattle.fw_script_words.specs.declared.ending.Refused.{Refused as RefusedLine}
use Rattle.fw_script_words.specs.declared.ending.Refusal.{Refusal}
use Rattle.fw_script_words.specs.declared.ending.Refusal.TheVariants.{BadLine, LineTooLong, NoEnd, Rule}
use Rattle.fw_script_words.specs.Scripts.{FaultsAt, beyond}

-- The commands were carried out, with what the desk gives; the header and the log of their run were written. It is a log that
-- lacks at most its end, it is sound throughout, and an audit finds no fault in it; what was whole before a bus reset is whole again
-- if its second is over, and enough rounds suffice for that. Between two bus resets one device at most is elected bus manager. What a
-- swap took whose response was lost comes right, and a channel that is withheld has no use.
pub record LogsRun (D : DeskRelations) (held held' : Option (List ℕ)) (commands : List Command) : Type 0 where
  pub actions : List Action
  pub log : List Timed
  pub state : State
  pub run : Run commands actions log state
  pub given : AreGiven D actions
  pub sound : IsSoundThroughout actions log
  pub audited : IsAudited (entries_of log)
  pub restored : ComesBack actions log
  pub elected : ElectsOne actions log
  pub recovers : RecoversThroughout actions
  pub withholds : WithholdsThroughout actions
  pub rounds : RoundsSuffice commands actions log
  pub opens : LogOpens log Two (header_bytes Two ++ log_bytes 0 log)
  pub grew : Grows held held' (header_bytes Two ++ log_bytes 0 log)

-- These bytes were taken, to the end of the input, and no line of them is refused. The log is that of their commands, and
-- whole.
pub record Logged (D : DeskRelations) (left left' held held' : Option (List ℕ)) : Type 0 where
  pub script : List ℕ
  pub taken : Takes left left' script
  pub end : IsAtEnd left'
  pub commands : List Command
  pub says : IsScript script commands None
  pub logged : LogsRun D held held' commands
  pub whole : LogSpells logged.log Two (header_bytes Two ++ log_bytes 0 logged.log)

-- The script's first refused line has this fault and this number, and few bytes after it were taken. The log is that of the
-- commands before it.
pub record RefusesLine (D : DeskRelations) (left left' held held' : Option (List ℕ)) (fault : ScriptFault) (line : ℕ) : Type 0 where
  pub script : List ℕ
  pub takes : TakesFrom left left' script
  pub commands : List Command
  pub says : IsScript script commands (Some (record { fault = fault; line = line }))
  pub at : FaultsAt script commands fault
  pub near : length takes.taken ≤ at.after.before + beyond fault
  pub logged : LogsRun D held held' commands

-- The command on the line with this number is the first that breaks a rule, and this is the rule; at most 4,096 bytes after
-- the line were taken. The log is that of the commands before it.
pub record RefusesCommand (D : DeskRelations) (left left' held held' : Option (List ℕ)) (rule : RuleFault) (line : ℕ) : Type 0 where
  pub script : List ℕ
  pub takes : TakesFrom left left' script
  pub commands : List Command
  pub command : Command
  pub on_line : IsOnLine script commands command line
  pub near : length takes.taken ≤ on_line.after.before + 4096
  pub logged : LogsRun D held held' commands
  pub decided : Decides logged.state command (Err rule)

-- what each reason says of a line
abbrev pub RefusesBy : DeskRelations → Option (List ℕ) → Option (List ℕ) → Option (List ℕ) → Option (List ℕ) → Refusal → ℕ → Type 0
RefusesBy D left left' held held' BadLine line = RefusesLine D left left' held held' Fault.BadLine line
RefusesBy D left left' held held' LineTooLong line = RefusesLine D left left' held held' Fault.LineTooLong line
RefusesBy D left left' held held' NoEnd line = RefusesLine D left left' held held' Fault.NoEnd line
RefusesBy D left left' held held' (Rule rule) line = RefusesCommand D left left' held held' rule line

-- this line is the first that is refused
abbrev pub Refuses : DeskRelations → Option (List ℕ) → Option (List ℕ) → Option (List ℕ) → Option (List ℕ) → RefusedLine → Type 0
Refuses D left left' held held' r = RefusesBy D left left' held held' r.why r.line

-- The script has more than 1,048,576 bytes, and no line within them is refused. The log is that of the commands within them.
pub record PassesScriptLimit (D : DeskRelations) (left left' held held' : Option (List ℕ)) : Type 0 where
  pub line : ℕ
  pub refused : RefusesLine D left left' held held' Fault.TooLong line
  pub long : 1048576 < length refused.script

-- of what a command orders these actions were carried out, and all that it orders could have been; or of no command none
abbrev pub Began : Option Command → State → List Action → Type 0
Began None s done = done ≡ []
Began (Some c) s done = (order : Order) × (later : List Action) × (all : List Timed) × (last : State) × Decides s c (Ok order) × Carries s order (done ++ later) all last

-- the script says these commands first, and then the one that was begun, if any
abbrev pub SaysBegun : List ℕ → List Command → Option Command → Type 0
SaysBegun script commands None = BeginsWith script commands
SaysBegun script commands (Some c) = (line : ℕ) × IsOnLine script commands c line

-- The source failed. The log is that of the commands of exactly the lines whose line feed was taken before; no line, nor the script, was too
-- long as far as it was taken.
pub record Interrupted (D : DeskRelations) (left left' held held' : Option (List ℕ)) : Type 0 where
  pub taken : List ℕ
  pub takes : Takes left left' taken
  pub commands : List Command
  pub lines : LinesSay taken commands
  pub logged : LogsRun D held held' commands

-- The sink failed. Bytes were taken of a script that says these commands first, and then the one that was begun, if any. A
-- prefix was written of the header and the log of their actions, as far as they were carried out with what the desk gives; that log
-- lacks at most its end, and is sound throughout.
pub record PartLogged (D : DeskRelations) (left left' held held' : Option (List ℕ)) : Type 0 where
  pub script : List ℕ
  pub takes : TakesFrom left left' script
  pub commands : List Command
  pub begun : Option Command
  pub says : SaysBegun script commands begun
  pub actions : List Action
  pub log : List Timed
  pub state : State
  pub run : Run commands actions log state
  pub done : List Action
  pub began : Began begun state done
  pub given : AreGiven D (actions ++ done)
  pub out : List Timed
  pub after : State
  pub steps : Transitions state done out after
  pub sound : IsSoundThroughout (actions ++ done) (log ++ out)
  pub audited : IsAudited (entries_of (log ++ out))
  pub restored : ComesBack (actions ++ done) (log ++ out)
  pub elected : ElectsOne (actions ++ done) (log ++ out)
  pub recovers : RecoversThroughout (actions ++ done)
  pub withholds : WithholdsThroughout (actions ++ done)
  pub rounds : RoundsSuffice commands actions log
  pub opens : LogOpens (log ++ out) Two (header_bytes Two ++ log_bytes 0 (log ++ out))
  pub grew : AppendsPrefix held held' (header_bytes Two ++ log_bytes 0 (log ++ out))

-- what each ending says; memory is wanted before anything is read or written
abbrev pub Runs : DeskRelations → Option (List ℕ) → Option (List ℕ) → Option (List ℕ) → Option (List ℕ) → RunEnding → Type 0
Runs D left left' held held' Done = Logged D left left' held held'
Runs D left left' held held' (Refused r) = Refuses D left left' held held' r
Runs D left left' held held' (Stopped TooLong) = PassesScriptLimit D left left' held held'
Runs D left left' held held' (Stopped WriteFault) = PartLogged D left left' held held'
Runs D left left' held held' (Stopped ReadFault) = Interrupted D left left' held held'
Runs D left left' held held' (Stopped NoMemory) = (left' ≡ left) × (held' ≡ held)

-- the ending by a fault of the script at this line
abbrev pub ending_by : ScriptFault → ℕ → RunEnding
ending_by Fault.BadLine line = Refused (record { line = line; why = BadLine })
ending_by Fault.LineTooLong line = Refused (record { line = line; why = LineTooLong })
ending_by Fault.NoEnd line = Refused (record { line = line; why = NoEnd })
ending_by Fault.ReadFault line = Stopped ReadFault
ending_by Fault.TooLong line = Stopped TooLong
