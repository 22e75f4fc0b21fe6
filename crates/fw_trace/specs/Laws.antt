-- What holds of every trace.
use Rattle.std.specs.Prelude.{◌≡◌, ℕ, List, [], ◌∷◌, ◌++◌, Option, Some, ⊤}
use Rattle.fw_outside.specs.declared.stop.Stop.TheVariants.{ReadFault, WriteFault, TooLong, NoMemory}
use Rattle.fw_model_run.specs.Desks.{DeskRelations}
use Rattle.fw_script_words.specs.Course.{course_at}
use Rattle.fw_script_words.specs.Ending.{Runs}
use Rattle.fw_script_words.specs.declared.ending.RunEnding.{RunEnding}
use Rattle.fw_script_words.specs.declared.ending.RunEnding.TheVariants.{Done, Refused, Stopped}
use Rattle.fw_trace_names.specs.CausedLines.{Caused}
use Rattle.fw_trace_lines.specs.Caused.{Telling, untold}
use Rattle.fw_trace_lines.specs.Commands.{begun, command_lines}
use Rattle.fw_trace_lines.specs.Laws.{entries_told, entries_due}
use Rattle.fw_trace.specs.Parts.{Part, kept_after}
use Rattle.fw_trace.specs.Traces.{Traces, TellsRun}

-- the lines that a part's command caused
abbrev pub part_lines : Telling → Part → List Caused
part_lines t (Part.line text) = []
part_lines t (Part.command text c entries place) = command_lines (begun c t) entries
part_lines t (Part.end entries) = command_lines t entries

-- those of parts, one after another
abbrev pub caused_lines : Telling → List Part → List Caused
caused_lines t [] = []
caused_lines t (p ∷ ps) = part_lines t p ++ caused_lines (kept_after t p) ps

-- Nothing is left out of a trace that is not cut off: its caused lines, a request and its answer in one line counted as two, are as many as
-- the entries of the run's log, but for cycle starts and packets of streams, which are counted in lines of their own.
abbrev pub LeavesNothingOut : DeskRelations → Type 0
LeavesNothingOut D = (left left' held held' : Option (List ℕ)) (ending : RunEnding) (t : TellsRun D left left' held held' ending)
    → entries_told (caused_lines untold t.parts) ≡ entries_due (course_at D left left' (Some []) (Some t.written) ending t.runs).log

-- how `run` ends that took the same of the same source, and wrote to memory; it does not end for want of a sink or of memory
abbrev pub EndsAs : DeskRelations → Option (List ℕ) → Option (List ℕ) → RunEnding → Type 0
EndsAs D left left' Done = (written : List ℕ) × Runs D left left' (Some []) (Some written) Done
EndsAs D left left' (Refused r) = (written : List ℕ) × Runs D left left' (Some []) (Some written) (Refused r)
EndsAs D left left' (Stopped ReadFault) = (written : List ℕ) × Runs D left left' (Some []) (Some written) (Stopped ReadFault)
EndsAs D left left' (Stopped WriteFault) = ⊤
EndsAs D left left' (Stopped TooLong) = (written : List ℕ) × Runs D left left' (Some []) (Some written) (Stopped TooLong)
EndsAs D left left' (Stopped NoMemory) = ⊤

-- a trace ends as its run ends
abbrev pub EndsAsItsRun : DeskRelations → Type 0
EndsAsItsRun D = (left left' held held' : Option (List ℕ)) (ending : RunEnding) → Traces D left left' held held' ending → EndsAs D left left' ending
