-- What a call of `check` wrote that ends with a refused line.
use Rattle.std.specs.Prelude.{◌≡◌, ℕ, List, [], ◌∷◌, ◌++◌, codes, decimal, String}
use Rattle.std.specs.declared.alloc.Global.{Global}
use Rattle.fw_outside.specs.Outside.{Grows}
use Rattle.fw_model_run.specs.Desks.{DeskRelations}
use Rattle.fw_script_words.specs.declared.ending.Refused.{Refused as RefusedLine}
use Rattle.fw_tool.specs.declared.scripts.ScriptWord.TheVariants.{Check}
use Rattle.fw_tool.specs.Serving.{Serves}
use Rattle.fw_tool.specs.Turns.{SourceTurn, SinkTurn, NotesTurn}
use Rattle.fw_tool.specs.Words.{IsWord}
use Rattle.fw_tool.specs.declared.words.Word.TheVariants.{Script}
use Rattle.fw_check_laws.specs.Named.{TellsRefused, refusal_word}

-- the notes have grown by a line's number and the name of its refusal, and the output by a text of that line with the same name
pub record TellsItsNote {K N : Type 0} (sink : SinkTurn K) (notes : NotesTurn N) : Type 0 where
  pub line : RefusedLine
  pub noted : Grows (notes.held notes.old) (notes.held notes.new) (codes "line " ++ decimal line.line ++ codes ": " ++ refusal_word line.why ++ 10 ∷ [])
  pub told : TellsRefused (sink.held sink.old) (sink.held sink.new) line

-- so does a call of `check` that ends with 3
abbrev pub CallsTellTheirNote : {S K N : Type 0} → DeskRelations → SourceTurn S → SinkTurn K → NotesTurn N → List (String Global) → Type 0
CallsTellTheirNote desk source sink notes words = IsWord words (Script Check) → Serves desk words source sink notes 3 → TellsItsNote sink notes
