-- A trace that is under way: what was read, carried out and told so far, and what a line more does.
use Rattle.std.specs.Prelude.{◌≡◌, ◌≢◌, ◌⊎◌, ℕ, ◌+◌, ◌<◌, ◌≤◌, List, [], ◌∷◌, ◌++◌, length, take, true, false, Option, Some, None, Ok, Err}
use Rattle.fw_outside.specs.Outside.{Takes, Grows}
use Rattle.fw_log_entry.specs.Log.{header_bytes}
use Rattle.fw_log_entry.specs.declared.version.Version.TheVariants.{Two}
use Rattle.fw_script.specs.Line.{is_skipped}
use Rattle.fw_script.specs.Passing.{IsCommandNext}
use Rattle.fw_script.specs.Reader.{HoldsLine}
use Rattle.fw_script.specs.Reading.{Reading, Answer, GivesFirst, IsAtEndOfInput, IsLine, PassesLimit, at_stage}
use Rattle.fw_script.specs.declared.ScriptFault.TheVariants.{BadLine, LineTooLong, NoEnd, ReadFault, TooLong}
use Rattle.fw_script.specs.declared.stage.ReaderStage.TheVariants.{Commands, Done}
use Rattle.fw_script_command.specs.Form.{HasForm}
use Rattle.fw_script_command.specs.declared.command.Command.{Command}
use Rattle.fw_script_command.specs.declared.command.Command.TheVariants.{End}
use Rattle.fw_log_entry.specs.declared.entry.Timed.{Timed}
use Rattle.fw_model_run.specs.Rules.{Decides}
use Rattle.fw_order.specs.declared.order.Order.{Order}
use Rattle.fw_model_run.specs.Giving.{log_bytes}
use Rattle.fw_model_run.specs.Desks.{DeskRelations}
use Rattle.fw_bus.specs.Buses.{BusView}
use Rattle.fw_trace_lines.specs.Caused.{Telling, untold}
use Rattle.fw_trace_lines.specs.Commands.{Traced, begun}
use Rattle.fw_trace_lines.specs.Lines.{line_text}
use Rattle.fw_script_words.specs.Going.{Going, course_of, to_read}
use Rattle.fw_script_words.specs.declared.ending.RunEnding.{RunEnding}
use Rattle.fw_trace.specs.Parts.{Part, PartsRun, HaveNoFeed, place_of, bytes_of, lines_of, kept_after, trace_text}
use Rattle.fw_trace.specs.declared.lack.Lack.{Lack}
use Rattle.fw_trace.specs.Passed.{GrowsPrefix}
use Rattle.fw_trace.specs.Traces.{Traces, stopped_by}

-- what is kept of parts for those that follow
abbrev pub kept_from : Telling → List Part → Telling
kept_from t [] = t
kept_from t (p ∷ ps) = kept_from (kept_after t p) ps

-- the lines of the parts were read, and others are held; the last line may have lacked its line feed
abbrev pub IsSplit : List ℕ → List Part → Reading → Type 0
IsSplit taken parts p = (taken ≡ bytes_of parts ++ p.rest) ⊎ ((taken ++ 10 ∷ [] ≡ bytes_of parts) × (p.rest ≡ []) × (p.whole ≡ true))

-- the parts' lines are those that were read
pub record HasLines (left left' : Option (List ℕ)) (parts : List Part) (p : Reading) : Type 0 where
  pub taken : List ℕ
  pub takes : Takes left left' taken
  pub split : IsSplit taken parts p
  pub free : HaveNoFeed parts
  pub number : p.line ≡ lines_of 0 parts
  pub few : p.line ≤ p.before
  pub count : p.before + length p.rest ≡ length taken

-- once the end was given nothing is left
abbrev pub IsOver : Reading → Type 0
IsOver p = p.stage ≡ Done → IsAtEndOfInput p

-- Before a line: the run is under way in memory, and its parts were told.
pub record Tracing (D : DeskRelations) (left left' held held' : Option (List ℕ)) (reader : Reading) (bus : BusView) (tracer : Traced) (history : List ℕ) : Type 0 where
  pub after : List ℕ
  pub going : Going D left left' (Some []) (Some after) reader bus
  pub parts : List Part
  pub run : PartsRun parts (course_of going)
  pub lines : HasLines left left' parts reader
  pub over : IsOver reader
  pub read : history ≡ header_bytes Two ++ log_bytes 0 going.log
  pub keeps : tracer ≡ record { text = []; telling = kept_from untold parts }
  pub told : Grows held held' (trace_text parts)

-- the text of a line, if the next part has one
abbrev pub begun_text : ℕ → Option (List ℕ) → List ℕ
begun_text lines None = []
begun_text lines (Some text) = line_text (lines + 1) text

-- the part of a command on a line, or of the end, which has none
abbrev pub part_of : Option (List ℕ) → Command → List Timed → Option (ℕ × ℕ) → Part
part_of None c out place = Part.end out
part_of (Some text) c out place = Part.command text c out place

-- what is held gives the end, or a fault of the script, and no command
abbrev pub IsNoCommand : Answer → Reading → Reading → Type 0
IsNoCommand (Ok None) p q = ⊥
IsNoCommand (Ok (Some c)) p q = (c ≡ End) × IsAtEndOfInput p × (q ≡ at_stage p Done)
IsNoCommand (Err BadLine) p q = q.line ≡ p.line + 1
IsNoCommand (Err LineTooLong) p q = q.line ≡ p.line + 1
IsNoCommand (Err NoEnd) p q = q.line ≡ p.line + 1
IsNoCommand (Err ReadFault) p q = ⊥
IsNoCommand (Err TooLong) p q = PassesLimit p

pub record HoldsNoCommand (p : Reading) : Type 0 where
  pub answer : Answer
  pub next : Reading
  pub gives : GivesFirst p answer next
  pub none : IsNoCommand answer p next

-- the next line is this command's; or no command stands next, and what is carried out is the end, if it is given
abbrev pub GivesThis : Reading → Option (List ℕ) → Command → Type 0
GivesThis p None c = (c ≡ End) × ((p.stage ≡ Done) ⊎ HoldsNoCommand p)
GivesThis p (Some text) c = (size : ℕ) × IsLine p text size × (is_skipped text ≡ false) × (p.stage ≡ Commands) × HasForm c text × (c ≢ End)

-- Before a command is carried out, or before the end: its line is to be told with what it causes, and its job takes this place.
pub record Begun (D : DeskRelations) (left left' held start : Option (List ℕ)) (reader : Reading) (bus : BusView) (origin : Traced) (earlier : List ℕ) (line : Option (List ℕ)) (c : Command)
    (place : Option (ℕ × ℕ)) : Type 0 where
  pub after : List ℕ
  pub going : Going D left left' (Some []) (Some after) reader bus
  pub parts : List Part
  pub run : PartsRun parts (course_of going)
  pub lines : HasLines left left' parts reader
  pub over : IsOver reader
  pub read : earlier ≡ header_bytes Two ++ log_bytes 0 going.log
  pub text : origin.text ≡ begun_text (lines_of 0 parts) line
  pub kept : origin.telling ≡ begun c (kept_from untold parts)
  pub told : Grows held start (trace_text parts)
  pub gives : GivesThis reader line c
  pub placed : (o : Order) → Decides going.state c (Ok o) → place ≡ place_of o

-- some trace is under way
pub record IsTracing (D : DeskRelations) (left' held' : Option (List ℕ)) (reader : Reading) (bus : BusView) (tracer : Traced) (history : List ℕ) : Type 0 where
  pub left : Option (List ℕ)
  pub held : Option (List ℕ)
  pub tracing : Tracing D left left' held held' reader bus tracer history

-- a line more was told, or the trace has ended
abbrev pub TracesOn : DeskRelations → Option (List ℕ) → Option (List ℕ) → Option (List ℕ) → Option (List ℕ) → Reading → Reading → BusView → Traced → List ℕ → Option RunEnding → Type 0
TracesOn D left left' held held' old reader bus tracer history None = Tracing D left left' held held' reader bus tracer history × (to_read reader < to_read old)
TracesOn D left left' held held' old reader bus tracer history (Some ending) = Traces D left left' held held' ending

-- the same of each trace that is under way
abbrev pub TracesFrom : DeskRelations → Option (List ℕ) → Option (List ℕ) → Option (List ℕ) → Option (List ℕ) → Reading → Reading → BusView → BusView → Traced → Traced → List ℕ → List ℕ
    → Option RunEnding → Type 0
TracesFrom D left' left'' held' held'' old reader bus bus' tracer tracer' history history' result =
    (left held : Option (List ℕ)) → Tracing D left left' held held' old bus tracer history → TracesOn D left left'' held held'' old reader bus' tracer' history' result

-- a command stands next, on a line of this length, which takes so many bytes
abbrev pub HoldsCommand : Reading → ℕ × ℕ → Command → Type 0
HoldsCommand p line c = HoldsLine p line.0 line.1 × IsCommandNext p p (take line.0 p.rest) c

-- the log's header was read, and nothing was told; or the sink, or memory, failed, and nothing was told
abbrev pub IsBeginning : Option (List ℕ) → Option (List ℕ) → Option Lack → Traced → List ℕ → Option RunEnding → Type 0
IsBeginning held held' lack tracer history None = Grows held held' [] × (lack ≡ None) × (tracer ≡ record { text = []; telling = untold }) × (history ≡ header_bytes Two)
IsBeginning held held' lack tracer history (Some ending) = GrowsPrefix held held' [] × (why : Lack) × (ending ≡ stopped_by why)
