-- The decimal digits of small numbers.
use Rattle.std.specs.Prelude.{◌≡◌, ℕ, ◌<◌, ◌≤◌, List, [], slice_index, slice_index_or, take, decimal}

-- so many bytes of the row are the digits of the number
pub record IsNumber (n : ℕ) (row : List ℕ) (size : ℕ) : Type 0 where
  pub within : size ≤ 4
  pub digits : take size row ≡ decimal n

-- The tables have a row with the digits of each number below this one, and how many they are, at its place.
abbrev pub IsNumbers : ℕ → List (List ℕ) → List ℕ → Type 0
IsNumbers n rows sizes = (i : ℕ) → i < n → IsNumber i (slice_index_or rows i []) (slice_index sizes i)
