-- What a reel keeps.
use Rattle.std.specs.Prelude.{ℕ, nat_lt, List, [], ◌∷◌, ◌++◌, length, if◌then◌else◌, flat_map}

-- the block after the others, if fewer than so many are kept
abbrev pub kept : ℕ → List ℕ → List (List ℕ) → List (List ℕ)
kept limit block reel = if nat_lt (length reel) limit then reel ++ block ∷ [] else reel

-- their bytes, one block after another
abbrev pub bytes_of : List (List ℕ) → List ℕ
bytes_of reel = flat_map (λ block. block) reel
