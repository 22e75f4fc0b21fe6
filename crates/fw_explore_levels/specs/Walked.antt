-- What a walk from one level to the next has: both levels, with the first schedule of each place.
use Rattle.std.specs.Prelude.{ℕ, ◌<◌, List, [], length, map, slice_index_or}
use Rattle.std.specs.List.{All}
use Rattle.fw_explore_levels.specs.Tables.{Entry}
use Rattle.fw_explore_levels.specs.Spots.{Spotted}

pub record Walked : Type 0 where
  pub level : List Entry
  pub next : List Entry

abbrev pub entry_of : List (List ℕ) → Spotted → Entry
entry_of paths s = record { key = s.key; ways = s.ways; first = slice_index_or paths s.step [] }

abbrev pub entries_of : List (List ℕ) → List Spotted → List Entry
entries_of paths spots = map (entry_of paths) spots

-- each spot's step is there
abbrev pub HaveSteps : List (List ℕ) → List Spotted → Type 0
HaveSteps paths spots = All (λ s. s.step < length paths) spots
