-- How many lists of moves are so.
use Rattle.std.specs.Prelude.{ℕ, ◌≡◌, ◌-◌, ◌^◌, ◌↔◌, min, List, length}
use Rattle.std.specs.List.{Contains, IsDistinct}
use Rattle.std.specs.Str.{bytes_eq}

-- counts are told exactly below this
abbrev pub most_told : ℕ
most_told = 2 ^ 128 - 1

-- So many lists are so: there is a list of exactly these, each once. From `most_told` on it is not told how many.
pub record Counts (IsSo : List ℕ → Type 0) (n : ℕ) : Type 0 where
  pub all : List (List ℕ)
  pub once : IsDistinct bytes_eq all
  pub exactly : (w : List ℕ) → Contains all w ↔ IsSo w
  pub count : n ≡ min most_told (length all)
