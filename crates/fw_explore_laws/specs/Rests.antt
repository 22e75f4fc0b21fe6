-- A row's paragraph is the rest of a script, which `run` carries out, and which ends as the row says.
use Rattle.std.specs.Prelude.{ℕ, ◌≡◌, ◌+◌, ◌≤◌, List, [], ◌∷◌, ◌++◌, true, None, Some, length, slice_get}
use Rattle.fw_script_command.specs.declared.command.Command.{Command}
use Rattle.fw_script_command.specs.declared.command.Command.TheVariants.{End}
use Rattle.fw_model_run.specs.Desks.{DeskRelations, IsFunction}
use Rattle.fw_model_run.specs.State.{State}
use Rattle.fw_script.specs.Script.{IsScript}
use Rattle.fw_explore_movers.specs.declared.mover.Explored.{Explored}
use Rattle.fw_explore_movers.specs.Words.{IsExploredBy}
use Rattle.fw_explore_endings.specs.declared.rows.Row.{Row}
use Rattle.fw_explore_endings.specs.Texts.{rest_text, row_text}
use Rattle.fw_explore_meaning.specs.Moves.{Subsequent}
use Rattle.fw_explore_meaning.specs.Rows.{Explores, HasLines}
use Rattle.fw_explore_laws.specs.Rest.{without_end, has_short_lines}

-- A paragraph has room after a script: no line of it is too long, nor both together. Its lines are never too long, but a remark may be:
-- it repeats a line of the words, and says more.
pub record HasRoom (script paragraph : List ℕ) : Type 0 where
  pub short : has_short_lines paragraph ≡ true
  pub within : length (without_end script ++ paragraph) ≤ 1048576

-- The script but for its `end`, and after it the paragraph, are a script that says the commands of the one and then these. They are
-- carried out after the script without a refusal, and write just what the row's first interleaving wrote and the lines after it that
-- were not refused: that of which the row's ending tells.
pub record IsRest (D : DeskRelations) (script : List ℕ) (commands : List Command) (x : Explored) (paragraph : List ℕ) (r : Row) : Type 0 where
  pub rest : List Command
  pub says : IsScript (without_end script ++ paragraph) (commands ++ rest ++ End ∷ []) None
  pub told : HasLines D commands x r
  pub state : State
  pub runs : Subsequent D commands rest (told.ends.moved ++ told.ends.written) state

-- So are the row's lines below its remarks, if the script has room for them; and with its remarks the whole paragraph.
pub record RowIsRest (D : DeskRelations) (script : List ℕ) (commands : List Command) (x : Explored) (number : ℕ) (r : Row) : Type 0 where
  pub lines : length (without_end script ++ rest_text x r) ≤ 1048576 → IsRest D script commands x (rest_text x r) r
  pub paragraph : HasRoom script (row_text x number r) → IsRest D script commands x (row_text x number r) r

-- So is each row of an exploration after a script.
abbrev pub RowsAreRests : DeskRelations → Type 0
RowsAreRests D = IsFunction D → (words : List (List ℕ)) (x : Explored) → IsExploredBy words x
    → (script : List ℕ) (commands : List Command) → IsScript script (commands ++ End ∷ []) None
    → (rows : List Row) (ended cut longest : ℕ) → Explores D commands x rows ended cut longest
    → (k : ℕ) (r : Row) → slice_get rows k ≡ Some r → RowIsRest D script commands x (k + 1) r
