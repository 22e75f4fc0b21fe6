-- The parts of a trace: the lines of a script that were told, each with what it caused, and the end.
use Rattle.std.specs.Prelude.{◌≡◌, ◌≢◌, ◌⊎◌, ℕ, ◌+◌, List, [], ◌∷◌, ◌++◌, true, Option, Some, None, Ok, ⊤}
use Rattle.fw_outside.specs.Outside.{Takes}
use Rattle.fw_log_entry.specs.declared.entry.Timed.{Timed}
use Rattle.fw_script_command.specs.Form.{HasForm}
use Rattle.fw_script_command.specs.Pieces.{IsFree}
use Rattle.fw_script_command.specs.declared.command.Command.{Command}
use Rattle.fw_script_command.specs.declared.command.Command.TheVariants.{End}
use Rattle.fw_script.specs.Line.{is_skipped}
use Rattle.fw_order.specs.declared.order.Order.{Order}
use Rattle.fw_order.specs.declared.order.Order.TheVariants as order
use Rattle.fw_model_run.specs.State.{first_state}
use Rattle.fw_model_run.specs.State as Run
use Rattle.fw_model_run.specs.Actions.{Action}
use Rattle.fw_model_run.specs.Carrying.{Carries}
use Rattle.fw_model_run.specs.Rules.{Decides}
use Rattle.fw_trace_lines.specs.Lines.{line_text}
use Rattle.fw_trace_lines.specs.Caused.{Telling, untold}
use Rattle.fw_trace_names.specs.CausedLines.{caused_text}
use Rattle.fw_trace_lines.specs.Commands.{begun, ended, telling_following, command_lines}
use Rattle.fw_script_words.specs.Course.{Course}

-- the controller, by its device, and the slot that a new connection takes
abbrev pub place_of : Order → Option (ℕ × ℕ)
place_of (order.Connect device wanted slot) = Some (device, slot)
place_of o = None

-- a line that says nothing by itself; a command, with the entries that it wrote and the place of its job; the end, with its entries
pub data Part : Type 0 where
  line : (text : List ℕ) → Part
  command : (text : List ℕ) (c : Command) (entries : List Timed) (place : Option (ℕ × ℕ)) → Part
  end : (entries : List Timed) → Part

-- ---- what is told

-- what is told of a part, if so many lines stand before it
abbrev pub part_text : ℕ → Telling → Part → List ℕ
part_text lines t (Part.line text) = line_text (lines + 1) text
part_text lines t (Part.command text c entries place) = line_text (lines + 1) text ++ caused_text (command_lines (begun c t) entries)
part_text lines t (Part.end entries) = caused_text (command_lines t entries)

-- what is kept of it for the parts that follow
abbrev pub kept_after : Telling → Part → Telling
kept_after t (Part.line text) = t
kept_after t (Part.command text c entries place) = ended c place (telling_following (begun c t) entries)
kept_after t (Part.end entries) = ended End None (telling_following t entries)

-- the lines after it
abbrev pub lines_after : ℕ → Part → ℕ
lines_after lines (Part.line text) = lines + 1
lines_after lines (Part.command text c entries place) = lines + 1
lines_after lines (Part.end entries) = lines

-- what is told of parts, one after another
abbrev pub text_from : ℕ → Telling → List Part → List ℕ
text_from lines t [] = []
text_from lines t (p ∷ ps) = part_text lines t p ++ text_from (lines_after lines p) (kept_after t p) ps

-- a trace
abbrev pub trace_text : List Part → List ℕ
trace_text parts = text_from 0 untold parts

-- ---- the run

-- before the first command
abbrev pub first_course : Course
first_course = record { commands = []; actions = []; log = []; state = first_state }

-- The parts go along a run: each command's part has what its command wrote, and the place that its order names; the other lines are empty, a
-- comment, or `end`.
pub data PartsRun : List Part → Course → Type 0 where
  first : PartsRun [] first_course
  and_line : {parts : List Part} {k : Course} → PartsRun parts k → (text : List ℕ) → (is_skipped text ≡ true) ⊎ HasForm End text → PartsRun (parts ++ Part.line text ∷ []) k
  and_command : {parts : List Part} {k : Course} → PartsRun parts k → (text : List ℕ) (c : Command) (o : Order) (more : List Action) (out : List Timed) (t : Run.State)
      → HasForm c text → c ≢ End → Decides k.state c (Ok o) → Carries k.state o more out t
      → PartsRun (parts ++ Part.command text c out (place_of o) ∷ []) (record { commands = k.commands ++ c ∷ []; actions = k.actions ++ more; log = k.log ++ out; state = t })
  and_end : {parts : List Part} {k : Course} → PartsRun parts k → (o : Order) (more : List Action) (out : List Timed) (t : Run.State) → Decides k.state End (Ok o) → Carries k.state o more out t
      → PartsRun (parts ++ Part.end out ∷ []) (record { commands = k.commands ++ End ∷ []; actions = k.actions ++ more; log = k.log ++ out; state = t })

-- ---- the script

-- the bytes of the lines of parts, each with a line feed
abbrev pub bytes_of : List Part → List ℕ
bytes_of [] = []
bytes_of (Part.line text ∷ ps) = text ++ 10 ∷ bytes_of ps
bytes_of (Part.command text c entries place ∷ ps) = text ++ 10 ∷ bytes_of ps
bytes_of (Part.end entries ∷ ps) = bytes_of ps

-- none of them has a line feed within it
abbrev pub HaveNoFeed : List Part → Type 0
HaveNoFeed [] = ⊤
HaveNoFeed (Part.line text ∷ ps) = IsFree 10 text × HaveNoFeed ps
HaveNoFeed (Part.command text c entries place ∷ ps) = IsFree 10 text × HaveNoFeed ps
HaveNoFeed (Part.end entries ∷ ps) = HaveNoFeed ps

-- how many lines parts have
abbrev pub lines_of : ℕ → List Part → ℕ
lines_of lines [] = lines
lines_of lines (p ∷ ps) = lines_of (lines_after lines p) ps

-- Bytes were taken that begin with the lines of the parts, and others may follow; the last line may lack its line feed if none follow.
pub record AreLines (left left' : Option (List ℕ)) (parts : List Part) : Type 0 where
  pub taken : List ℕ
  pub takes : Takes left left' taken
  pub rest : List ℕ
  pub split : (taken ≡ bytes_of parts ++ rest) ⊎ ((taken ++ 10 ∷ [] ≡ bytes_of parts) × (rest ≡ []))
  pub free : HaveNoFeed parts
