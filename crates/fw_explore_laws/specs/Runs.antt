-- What a call of `run` does with a row's script.
use Rattle.std.specs.Prelude.{ℕ, ◌≡◌, List, ◌++◌, Option, Some}
use Rattle.fw_outside.specs.declared.stop.Stop.TheVariants as Stops
use Rattle.fw_log_entry.specs.declared.entry.Entry.TheVariants.{End as EndEntry}
use Rattle.fw_log_entry.specs.declared.entry.Timed.{Timed}
use Rattle.fw_script_command.specs.declared.command.Command.{Command}
use Rattle.fw_model_run.specs.Desks.{DeskRelations, IsFunction}
use Rattle.fw_model_run.specs.Giving.{at_most}
use Rattle.fw_explore_movers.specs.declared.mover.Explored.{Explored}
use Rattle.fw_explore_endings.specs.declared.rows.Row.{Row}
use Rattle.fw_script_words.specs.Ending.{Logged, Runs}
use Rattle.fw_script_words.specs.declared.ending.RunEnding.{RunEnding}
use Rattle.fw_script_words.specs.declared.ending.RunEnding.TheVariants.{Done, Refused, Stopped}
use Rattle.fw_explore_laws.specs.Rest.{without_end}
use Rattle.fw_explore_laws.specs.Rests.{IsRest}

-- all that a row's script writes: what the script wrote, its first interleaving, the lines after that, and the end
abbrev pub log_of : {D : DeskRelations} {script : List ℕ} {commands : List Command} {x : Explored} {paragraph : List ℕ} {r : Row} → IsRest D script commands x paragraph r → List Timed
log_of rest = (rest.runs.earlier ++ (rest.told.ends.moved ++ rest.told.ends.written)) ++ at_most rest.state.clock.cycle (Some EndEntry)

-- All was carried out, and just this log was written; or the source or the sink failed, or memory was refused. No line was refused, nor the
-- script too long.
abbrev pub IsRunSo : DeskRelations → Option (List ℕ) → Option (List ℕ) → Option (List ℕ) → Option (List ℕ) → List Timed → RunEnding → Type 0
IsRunSo D left left' held held' log Done = (l : Logged D left left' held held') × (l.logged.log ≡ log)
IsRunSo D left left' held held' log (Refused r) = ⊥
IsRunSo D left left' held held' log (Stopped Stops.ReadFault) = Unit {0}
IsRunSo D left left' held held' log (Stopped Stops.WriteFault) = Unit {0}
IsRunSo D left left' held held' log (Stopped Stops.TooLong) = ⊥
IsRunSo D left left' held held' log (Stopped Stops.NoMemory) = Unit {0}

-- So ends each call of `run` over a source that tells a script and, after it, a row's paragraph.
abbrev pub RestsAreRun : DeskRelations → Type 0
RestsAreRun D = IsFunction D → (script : List ℕ) (commands : List Command) (x : Explored) (paragraph : List ℕ) (r : Row) (rest : IsRest D script commands x paragraph r)
    → (left' held held' : Option (List ℕ)) (ending : RunEnding) → Runs D (Some (without_end script ++ paragraph)) left' held held' ending
    → IsRunSo D (Some (without_end script ++ paragraph)) left' held held' (log_of rest) ending
