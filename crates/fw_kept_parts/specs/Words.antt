-- Lists of numbers below 2^32 as bytes, four each.
use Rattle.std.specs.Prelude.{ℕ, List, [], ◌∷◌, flat_map}
use Rattle.std.specs.Int.{w32, to_le_bytes, from_le_bytes}

-- the bytes of numbers, the low byte of each first
abbrev pub bytes_of : List ℕ → List ℕ
bytes_of words = flat_map (to_le_bytes w32) words

-- the numbers of bytes
unfoldable pub words_of : List ℕ → List ℕ
words_of (a ∷ b ∷ c ∷ d ∷ bytes) = from_le_bytes w32 (a ∷ b ∷ c ∷ d ∷ []) ∷ words_of bytes
words_of bytes = []
