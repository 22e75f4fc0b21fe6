-- What holds of the words together.
use Rattle.std.specs.Prelude.{◌≢◌, ⊤, ℕ, ◌≤◌, List, ◌++◌, length, Option, Some, None}
use Rattle.fw_log_entry.specs.Log.{header_bytes}
use Rattle.fw_log_entry.specs.declared.version.Version.TheVariants.{Two}
use Rattle.fw_log_entry.specs.declared.entry.Timed.{Timed}
use Rattle.fw_model_run.specs.Desks.{DeskRelations}
use Rattle.fw_model_run.specs.Giving.{log_bytes}
use Rattle.fw_log_loop.specs.Endings.{limit, Reads, IsNoRefusal}
use Rattle.fw_log_loop.specs.declared.ending.LogEnding.{LogEnding}
use Rattle.fw_log_words.specs.Words.{form_by, rules_by}
use Rattle.fw_log_reports.specs.declared.refusal.LogRefusal.{LogRefusal}
use Rattle.fw_log_reports.specs.Trees.{last_reset}
use Rattle.fw_log_words.specs.declared.LogWord.{LogWord}
use Rattle.fw_log_words.specs.declared.LogWord.TheVariants.{Map, Graph}
use Rattle.fw_script_words.specs.Ending.{Logged}

-- a map is asked only of a log with a bus reset, and any other word of any log
abbrev pub HasItsReset : LogWord → List Timed → Type 0
HasItsReset Map log = last_reset log ≢ None
HasItsReset Graph log = last_reset log ≢ None
HasItsReset _ log = ⊤

-- if a source tells the log of a whole run over a desk, within the limit of logs, no word that reads it refuses it: an audit finds
-- no fault in it, and it has its map if it has a bus reset: so it has one as soon as a device was declared
abbrev pub WholeLogsAreRead : DeskRelations → Type 0
WholeLogsAreRead D = (left left' held held' : Option (List ℕ)) (ran : Logged D left left' held held')
    → length (header_bytes Two ++ log_bytes 0 ran.logged.log) ≤ limit
    → (word : LogWord) → HasItsReset word ran.logged.log → (told' kept kept' : Option (List ℕ)) (e : LogEnding LogRefusal)
    → Reads (form_by word) (rules_by word) (Some (header_bytes Two ++ log_bytes 0 ran.logged.log)) told' kept kept' e → IsNoRefusal e
