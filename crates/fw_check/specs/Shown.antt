-- Lines of a script, and their words, as they are shown.
use Rattle.std.specs.Prelude.{ℕ, ◌-◌, ◌&&◌, nat_le, nat_lt, List, [], ◌∷◌, ◌++◌, length, map, take, slice_index_or, codes, decimal, Bool, if◌then◌else◌}
use Rattle.fw_script_command.specs.Pieces.{pieces}

-- from the space to the tilde
abbrev pub is_printable : ℕ → Bool
is_printable b = nat_le 32 b && nat_le b 126

-- a byte, or `?` in its place
abbrev pub shown_byte : ℕ → ℕ
shown_byte b = if is_printable b then b else 63

-- the first 100 bytes of a line, and ` ..` if it has more
abbrev pub shown : List ℕ → List ℕ
shown line = map shown_byte (take 100 line) ++ (if nat_lt 100 (length line) then codes " .." else [])

-- a line's number, and what is shown of it
abbrev pub headed : ℕ → List ℕ → List ℕ
headed number what = codes "line " ++ decimal number ++ codes ": " ++ what ++ 10 ∷ []

-- the word of a line with a number from 1; none beyond the last
abbrev pub word_at : List ℕ → ℕ → List ℕ
word_at line number = slice_index_or (pieces 32 line) (number - 1) []

-- the first 40 bytes of a word, and `..` if it has more, in quotes
abbrev pub quoted : List ℕ → List ℕ
quoted w = 34 ∷ take 40 w ++ (if nat_lt 40 (length w) then codes ".." else []) ++ 34 ∷ []

-- a word of a line, by its number
abbrev pub named_word : List ℕ → ℕ → List ℕ
named_word line number = codes "word " ++ decimal number ++ codes " is " ++ quoted (word_at line number)
