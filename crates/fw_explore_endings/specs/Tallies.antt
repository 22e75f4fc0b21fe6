-- Rows as entries of tables: by their endings, how many ended, and how many were cut off.
use Rattle.std.specs.Prelude.{ℕ, ◌≡◌, ◌++◌, ◌⊎◌, List, [], ◌∷◌, map}
use Rattle.fw_explore_levels.specs.Tables.{Entry}
use Rattle.fw_explore_levels.specs.Whole.{TwoRows}
use Rattle.fw_explore_endings.specs.declared.rows.Row.{Row}

abbrev pub ended_of : Row → Entry
ended_of r = record { key = r.ending.items; ways = r.ended; first = r.first.items }

abbrev pub cut_of : Row → Entry
cut_of r = record { key = r.ending.items; ways = r.cut; first = r.first.items }

abbrev pub ended_entries : List Row → List Entry
ended_entries rows = map ended_of rows

abbrev pub cut_entries : List Row → List Entry
cut_entries rows = map cut_of rows

abbrev pub tallies : List Row → TwoRows
tallies rows = record { ended = ended_entries rows; cut = cut_entries rows }

-- what is told of a row besides its counts: its ending, its first interleaving, and the lines after that
pub record Telling : Type 0 where
  pub ending : List ℕ
  pub first : List ℕ
  pub lines : List ℕ

abbrev pub telling_of : Row → Telling
telling_of r = record { ending = r.ending.items; first = r.first.items; lines = r.lines.items }

-- of the rows the same is told as before, or of one more
abbrev pub KeepsLast : List Row → List Row → Row → Type 0
KeepsLast old new row = (map telling_of new ≡ map telling_of old) ⊎ (map telling_of new ≡ map telling_of old ++ telling_of row ∷ [])
