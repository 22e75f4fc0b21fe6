-- What an exploration tells: sound, complete, counted exactly, and each ending with its first interleaving.
use Rattle.std.specs.Prelude.{ℕ, ◌≡◌, ◌<◌, ◌≤◌, List, length, slice_index_or}
use Rattle.std.specs.List.{All, AllPairs}
use Rattle.fw_script_command.specs.declared.command.Command.{Command}
use Rattle.fw_model_run.specs.Desks.{DeskRelations}
use Rattle.fw_explore_levels.specs.Counting.{Counts}
use Rattle.fw_explore_levels.specs.Order.{IsEarlier}
use Rattle.fw_explore_movers.specs.declared.mover.Explored.{Explored}
use Rattle.fw_explore_movers.specs.declared.mover.Line.{Line}
use Rattle.fw_explore_told.specs.Sayings.{lines_text}
use Rattle.fw_explore_endings.specs.declared.rows.Row.{Row}
use Rattle.fw_explore_meaning.specs.Moves.{IsInterleaving, IsCutOff}
use Rattle.fw_explore_meaning.specs.Endings.{EndsWith}

-- the endings of moves
pub record Comes (D : DeskRelations) (script : List Command) (x : Explored) (w ending : List ℕ) : Type 0 where
  pub kept : List Line
  pub ends : EndsWith D script x w ending kept

-- ---- the rows

-- an interleaving that comes to the ending, and ended
pub record EndsThere (D : DeskRelations) (script : List Command) (x : Explored) (ending : List ℕ) (w : List ℕ) : Type 0 where
  pub is : IsInterleaving D script x w
  pub comes : Comes D script x w ending
  pub whole : IsCutOff D script x w → ⊥

-- and one that was cut off
pub record IsCutThere (D : DeskRelations) (script : List Command) (x : Explored) (ending : List ℕ) (w : List ℕ) : Type 0 where
  pub is : IsInterleaving D script x w
  pub comes : Comes D script x w ending
  pub cut : IsCutOff D script x w

-- the lines of a row are those that were carried out after its first interleaving, which comes to its ending
pub record HasLines (D : DeskRelations) (script : List Command) (x : Explored) (r : Row) : Type 0 where
  pub kept : List Line
  pub ends : EndsWith D script x r.first.items r.ending.items kept
  pub lines : r.lines.items ≡ lines_text kept

-- one row: its first interleaving is one, and ends so; the counts are those of its ending; and none comes before it
pub record IsRow (D : DeskRelations) (script : List Command) (x : Explored) (r : Row) : Type 0 where
  pub sound : IsInterleaving D script x r.first.items
  pub lines : HasLines D script x r
  pub ended : Counts (EndsThere D script x r.ending.items) r.ended
  pub cut : Counts (IsCutThere D script x r.ending.items) r.cut
  pub first : (w : List ℕ) → IsInterleaving D script x w → Comes D script x w r.ending.items → IsEarlier w r.first.items → ⊥

-- exactly one row has this ending
pub record HasOneRow (rows : List Row) (ending : List ℕ) : Type 0 where
  pub place : ℕ
  pub row : Row
  pub within : place < length rows
  pub at : slice_index_or rows place row ≡ row
  pub has : row.ending.items ≡ ending
  pub only : (k : ℕ) (other : Row) → k < length rows → (slice_index_or rows k other).ending.items ≡ ending → k ≡ place

-- all that is told
pub record Explores (D : DeskRelations) (script : List Command) (x : Explored) (rows : List Row) (ended cut longest : ℕ) : Type 0 where
  pub each : All (IsRow D script x) rows
  pub ends : (w : List ℕ) → IsInterleaving D script x w → (ending : List ℕ) × Comes D script x w ending
  pub complete : (w ending : List ℕ) → IsInterleaving D script x w → Comes D script x w ending → HasOneRow rows ending
  pub sorted : AllPairs (λ r q. IsEarlier r.first.items q.first.items) rows
  -- of all interleavings together
  pub all_ended : Counts (λ w. IsInterleaving D script x w × (IsCutOff D script x w → ⊥)) ended
  pub all_cut : Counts (λ w. IsInterleaving D script x w × IsCutOff D script x w) cut
  pub bounded : (w : List ℕ) → IsInterleaving D script x w → length w ≤ longest
  pub reached : (w : List ℕ) × IsInterleaving D script x w × (length w ≡ longest)
