-- What the words say that run a script.
use Rattle.std.specs.Prelude.{ℕ, List, Option}
use Rattle.fw_model_run.specs.Desks.{DeskRelations}
use Rattle.fw_script_words.specs.Checks.{Checks}
use Rattle.fw_script_words.specs.Dubs.{Dubs}
use Rattle.fw_script_words.specs.Ending.{Runs}
use Rattle.fw_script_words.specs.declared.ending.RunEnding.{RunEnding}
use Rattle.fw_trace.specs.Traces.{Traces}
use Rattle.fw_tool.specs.declared.scripts.ScriptWord.{ScriptWord}
use Rattle.fw_tool.specs.declared.scripts.ScriptWord.TheVariants.{Run, Trace, Dub, Check}

-- by the word: of the source before and after, of the sink before and after, and of the ending
abbrev pub RunsAs : DeskRelations → ScriptWord → Option (List ℕ) → Option (List ℕ) → Option (List ℕ) → Option (List ℕ) → RunEnding → Type 0
RunsAs D Run left left' held held' ending = Runs D left left' held held' ending
RunsAs D Trace left left' held held' ending = Traces D left left' held held' ending
RunsAs D Dub left left' held held' ending = Dubs D left left' held held' ending
RunsAs D Check left left' held held' ending = Checks D left left' held held' ending
