-- The paragraphs of a text that `explore` writes.
use Rattle.std.specs.Prelude.{ℕ, ◌≡◌, ◌+◌, List, ◌++◌, Option, Some, slice_get}
use Rattle.fw_model_run.specs.Desks.{DeskRelations, IsFunction}
use Rattle.fw_explore_movers.specs.declared.mover.Explored.{Explored}
use Rattle.fw_explore_movers.specs.Words.{IsExploredBy}
use Rattle.fw_explore_endings.specs.declared.rows.Row.{Row}
use Rattle.fw_explore_endings.specs.Texts.{row_text}
use Rattle.fw_explore.specs.Outcome.{HasExplored}
use Rattle.fw_explore_laws.specs.Rests.{RowIsRest}

-- A row of what was told: its paragraph stands in the text, and is the rest of the script that was read.
pub record IsParagraph (D : DeskRelations) (x : Explored) (left left' : Option (List ℕ)) (text : List ℕ) (e : HasExplored D x left left' text) (number : ℕ) (r : Row) : Type 0 where
  pub before : List ℕ
  pub following : List ℕ
  pub stands : text ≡ before ++ row_text x number r ++ following
  pub rest : RowIsRest D e.carried.read.script e.carried.commands x number r

-- So is each row of a text that `explore` writes.
abbrev pub ParagraphsAreRests : DeskRelations → Type 0
ParagraphsAreRests D = IsFunction D → (words : List (List ℕ)) (x : Explored) → IsExploredBy words x
    → (left left' : Option (List ℕ)) (text : List ℕ) (e : HasExplored D x left left' text) (k : ℕ) (r : Row) → slice_get e.told.rows k ≡ Some r
    → IsParagraph D x left left' text e (k + 1) r
