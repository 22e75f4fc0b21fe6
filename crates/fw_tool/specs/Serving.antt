-- What the program's call says, whatever its words, its source, its sink, its notes and its desk are. The promises of `fire`, and of
-- `program` with the program's own desk.
use Rattle.std.specs.Prelude.{◌≡◌, ◌≤◌, ◌⊎◌, ℕ, List, length, Some, String}
use Rattle.std.specs.declared.alloc.Global.{Global}
use Rattle.fw_log_entry.specs.declared.entry.Timed.{Timed}
use Rattle.fw_log.specs.History.{IsLog}
use Rattle.fw_script_gen.specs.Gen.{script_of}
pub use Rattle.fw_model_run.specs.Desks.{DeskRelations}
use Rattle.fw_log_loop.specs.Endings.{limit, Reads}
use Rattle.fw_log_loop.specs.declared.ending.LogEnding.{LogEnding}
use Rattle.fw_log_words.specs.Words.{form_by, rules_by, Accepts}
use Rattle.fw_log_reports.specs.declared.refusal.LogRefusal.{LogRefusal}
use Rattle.fw_log_words.specs.declared.LogWord.{LogWord}
use Rattle.fw_script_words.specs.Scripts.{IsValid}
use Rattle.fw_script_words.specs.Sums.{Sums}
use Rattle.fw_tool.specs.Scripts.{RunsAs}
use Rattle.fw_script_words.specs.declared.ending.RunEnding.{RunEnding}
use Rattle.fw_tool.specs.declared.scripts.ScriptWord.{ScriptWord}
use Rattle.fw_tool.specs.About.{about_text, IsSaid}
use Rattle.fw_tool.specs.Closing.{IsClosed}
use Rattle.fw_tool.specs.Explorations.{ExploresAs}
use Rattle.fw_tool.specs.Faults.{IsFirstFaults, IsToldByStatus}
use Rattle.fw_tool.specs.Logs.{by_log}
use Rattle.fw_tool.specs.Notes.{IsTold}
use Rattle.fw_tool.specs.Runs.{by_run}
use Rattle.fw_tool.specs.Turns.{SourceTurn, SinkTurn, NotesTurn, PassesAtOnce, NoReadFailed, NoWriteFailed, NoNoteFailed}
use Rattle.fw_tool.specs.Words.{IsWord, IsListed, IsExploration}
use Rattle.fw_tool.specs.declared.about.About.{About as AnAbout}
use Rattle.fw_tool.specs.declared.ending.Ending.{Ending}
use Rattle.fw_tool.specs.declared.ending.Ending.TheVariants.{Usage}
use Rattle.fw_tool.specs.declared.words.Word.TheVariants.{Script, Gen, Log, About}

-- What the words came to, and what is told of it with this status: the sink passed on what it kept back, and the same is told, or the
-- write fault that only this last flush showed.
abbrev pub IsToldAs : {S K N : Type 0} → SourceTurn S → SinkTurn K → NotesTurn N → ℕ → Ending → Ending → Type 0
IsToldAs source sink notes status ending told =
    IsClosed (PassesAtOnce sink) (source.faults source.old) (source.faults source.new) (sink.faults sink.old) (sink.faults sink.new) (sink.kept sink.new) ending told
    × IsTold notes.held notes.faults notes.old notes.new told status

-- What a call says of its words, over what a desk may give, and of the status that it answers.
pub record Serves {S K N : Type 0} (desk : DeskRelations) (words : List (String Global))
    (source : SourceTurn S) (sink : SinkTurn K) (notes : NotesTurn N) (status : ℕ) : Type 0 where
  -- A word that runs a script: what its ending says of the bytes that were taken, of the run of their commands and of what was written.
  pub scripts : (word : ScriptWord) → IsWord words (Script word) → (e : RunEnding) × (told : Ending)
      × RunsAs desk word (source.left source.old) (source.left source.new) (sink.held sink.old) (sink.held sink.new) e
      × IsToldAs source sink notes status (by_run e) told
  -- `gen`: what its ending says of the run of its seed's script, and of the summary that was written. The source stays as it was.
  pub sums : (seed : ℕ) → IsWord words (Gen seed) → (source.new ≡ source.old) × ((e : RunEnding) × (told : Ending)
      × Sums desk seed (sink.held sink.old) (sink.held sink.new) e
      × IsToldAs source sink notes status (by_run e) told)
  -- A word that reads a log: what its ending says of the bytes that were taken, of their entries, and of what was written.
  pub logs : (word : LogWord) → IsWord words (Log word) → (e : LogEnding LogRefusal) × (told : Ending)
      × Reads (form_by word) (rules_by word) (source.left source.old) (source.left source.new) (sink.held sink.old) (sink.held sink.new) e
      × IsToldAs source sink notes status (by_log e) told
  -- `explore`: what its ending says of the words after it, of the script's run, of its interleavings and of what was written.
  pub explorations : (more : List (List ℕ)) → IsExploration words more → (e : Ending) × (told : Ending)
      × ExploresAs desk more (source.left source.old) (source.left source.new) (sink.held sink.old) (sink.held sink.new) e
      × IsToldAs source sink notes status e told
  -- `help` and `version`: their text was written whole, or a prefix of it if the sink failed. The source stays as it was.
  pub about : (about : AnAbout) → IsWord words (About about) → (source.new ≡ source.old) × ((e : Ending) × (told : Ending)
      × IsSaid (sink.held sink.old) (sink.held sink.new) (about_text about) e
      × IsToldAs source sink notes status e told)
  -- Other words: nothing was read or written, and the usage is told.
  pub usage : (IsListed words → ⊥) → (source.new ≡ source.old) × (sink.held sink.new ≡ sink.held sink.old) × ((told : Ending)
      × IsToldAs source sink notes status Usage told)
  -- Which counts of faults rose in the call, by the status alone.
  pub first : IsToldByStatus status (source.faults source.old) (source.faults source.new) (sink.faults sink.old) (sink.faults sink.new)
      (notes.faults notes.old) (notes.faults notes.new)
  -- If the sink passes each piece on at once, the first fault decides, and other words leave the sink as it was.
  pub first_at_once : PassesAtOnce sink → IsFirstFaults status (source.faults source.old) (source.faults source.new)
      (sink.faults sink.old) (sink.faults sink.new) (notes.faults notes.old) (notes.faults notes.new)
  pub usage_at_once : PassesAtOnce sink → (IsListed words → ⊥) → sink.new ≡ sink.old
  -- A script of which no line is refused ends with 0, or with 8 for want of memory, if nothing failed.
  pub complete : (word : ScriptWord) → IsWord words (Script word) → (script : List ℕ) → source.left source.old ≡ Some script → IsValid script
      → NoReadFailed source → NoWriteFailed sink → NoNoteFailed notes → (status ≡ 0) ⊎ (status ≡ 8)
  -- So does `gen` with such a script.
  pub complete_sums : (seed : ℕ) → IsWord words (Gen seed) → IsValid (script_of seed)
      → NoWriteFailed sink → NoNoteFailed notes → (status ≡ 0) ⊎ (status ≡ 8)
  -- So does a log within the limit that the word does not refuse.
  pub complete_log : (word : LogWord) → IsWord words (Log word)
      → (entries : List Timed) → (bytes : List ℕ) → source.left source.old ≡ Some bytes
      → IsLog entries bytes → length bytes ≤ limit → Accepts word entries
      → NoReadFailed source → NoWriteFailed sink → NoNoteFailed notes → (status ≡ 0) ⊎ (status ≡ 8)
  -- `help` and `version` end with 0 if no write failed.
  pub complete_about : (about : AnAbout) → IsWord words (About about) → NoWriteFailed sink → status ≡ 0
