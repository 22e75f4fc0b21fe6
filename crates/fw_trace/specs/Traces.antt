-- What each ending of `trace` says of the input and of what was written: it ends as `run` does with a sink of its own, and in place of the
-- log the text of its parts was written.
use Rattle.std.specs.Prelude.{◌≡◌, ℕ, ◌+◌, ◌-◌, ◌<◌, List, [], ◌∷◌, ◌++◌, length, take, Option, Some, None, ⊤}
use Rattle.fw_outside.specs.Outside.{Grows, AppendsPrefix}
use Rattle.fw_outside.specs.declared.stop.Stop.TheVariants.{ReadFault, WriteFault, TooLong, NoMemory}
use Rattle.fw_script_command.specs.Form.{HasForm}
use Rattle.fw_script_command.specs.Pieces.{IsFree}
use Rattle.fw_script_command.specs.declared.command.Command.TheVariants.{End}
use Rattle.fw_model_run.specs.Actions.{Action}
use Rattle.fw_model_run.specs.Deeds.{Transitions}
use Rattle.fw_model_run.specs.State.{State}
use Rattle.fw_model_run.specs.Desks.{DeskRelations}
use Rattle.fw_model_run.specs.Given.{AreGiven}
use Rattle.fw_script_words.specs.Course.{Course, course_at}
use Rattle.fw_script_words.specs.Ending.{Runs, Began}
use Rattle.fw_script_words.specs.declared.ending.RunEnding.{RunEnding}
use Rattle.fw_script_words.specs.declared.ending.RunEnding.TheVariants.{Done, Refused, Stopped}
use Rattle.fw_trace.specs.declared.lack.Lack.{Lack}
use Rattle.fw_trace.specs.declared.lack.Lack.TheVariants.{Memory, Sink}
use Rattle.fw_trace.specs.Parts.{Part, PartsRun, AreLines, bytes_of, trace_text, lines_of}

-- what of the script is not told: nothing, the refused line and what follows it, what the source failed in, which has no whole line, or what
-- passes the script's limit of 1,048,576 bytes, with no line that ends within it
abbrev pub LeavesOut : RunEnding → List Part → List ℕ → Type 0
LeavesOut Done parts rest = rest ≡ []
LeavesOut (Refused r) parts rest = r.line ≡ lines_of 0 parts + 1
LeavesOut (Stopped ReadFault) parts rest = IsFree 10 rest
LeavesOut (Stopped WriteFault) parts rest = ⊤
LeavesOut (Stopped TooLong) parts rest = (1048576 < length (bytes_of parts) + length rest) × IsFree 10 (take (1048576 - length (bytes_of parts)) rest)
LeavesOut (Stopped NoMemory) parts rest = ⊤

-- The run ended so in memory, and its parts were told.
pub record TellsRun (D : DeskRelations) (left left' held held' : Option (List ℕ)) (ending : RunEnding) : Type 0 where
  pub written : List ℕ
  pub runs : Runs D left left' (Some []) (Some written) ending
  pub parts : List Part
  pub run : PartsRun parts (course_at D left left' (Some []) (Some written) ending runs)
  pub lines : AreLines left left' parts
  pub left_out : LeavesOut ending parts lines.rest
  pub grew : Grows held held' (trace_text parts)

-- of what a part's command orders these actions were carried out, and wrote its entries; a line without a command writes none
abbrev pub IsBegun : DeskRelations → Course → List Part → Type 0
IsBegun D k [] = ⊤
IsBegun D k (Part.line text ∷ ps) = ps ≡ []
IsBegun D k (Part.command text c entries place ∷ ps) =
    (ps ≡ []) × HasForm c text × ((done : List Action) × (after : State) × Began (Some c) k.state done × AreGiven D (k.actions ++ done) × Transitions k.state done entries after)
IsBegun D k (Part.end entries ∷ ps) = (ps ≡ []) × ((done : List Action) × (after : State) × Began (Some End) k.state done × AreGiven D (k.actions ++ done) × Transitions k.state done entries after)

-- The sink or memory failed: a prefix was written of the text of parts that were told, and of one that was begun, if any.
pub record TellsPrefix (D : DeskRelations) (left left' held held' : Option (List ℕ)) : Type 0 where
  pub parts : List Part
  pub course : Course
  pub run : PartsRun parts course
  pub given : AreGiven D course.actions
  pub begun : List Part
  pub begins : IsBegun D course begun
  pub lines : AreLines left left' (parts ++ begun)
  pub grew : AppendsPrefix held held' (trace_text (parts ++ begun))

-- By the ending. Unlike `run`, memory may run out at any time, since the text of an entry takes as much as it needs.
abbrev pub Traces : DeskRelations → Option (List ℕ) → Option (List ℕ) → Option (List ℕ) → Option (List ℕ) → RunEnding → Type 0
Traces D left left' held held' Done = TellsRun D left left' held held' Done
Traces D left left' held held' (Refused r) = TellsRun D left left' held held' (Refused r)
Traces D left left' held held' (Stopped ReadFault) = TellsRun D left left' held held' (Stopped ReadFault)
Traces D left left' held held' (Stopped TooLong) = TellsRun D left left' held held' (Stopped TooLong)
Traces D left left' held held' (Stopped WriteFault) = TellsPrefix D left left' held held'
Traces D left left' held held' (Stopped NoMemory) = TellsPrefix D left left' held held'

-- how a call ends that lacks this
abbrev pub stopped_by : Lack → RunEnding
stopped_by Memory = Stopped NoMemory
stopped_by Sink = Stopped WriteFault

-- what a write fault comes from; one without a cause never comes
abbrev pub fault_by : Option Lack → RunEnding
fault_by None = Stopped NoMemory
fault_by (Some lack) = stopped_by lack

-- how a call ends whose run ends so, by what the sink lacks
abbrev pub ending_by : Option Lack → RunEnding → RunEnding
ending_by lack Done = Done
ending_by lack (Refused r) = Refused r
ending_by lack (Stopped ReadFault) = Stopped ReadFault
ending_by lack (Stopped WriteFault) = fault_by lack
ending_by lack (Stopped TooLong) = Stopped TooLong
ending_by lack (Stopped NoMemory) = Stopped NoMemory
