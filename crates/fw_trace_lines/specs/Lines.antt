-- The lines of a script, as they are told.
use Rattle.std.specs.Prelude.{ℕ, ◌-◌, ◌==◌, ◌||◌, nat_lt, List, [], ◌∷◌, ◌++◌, length, map, replicate, codes, decimal, if◌then◌else◌}

-- text, and before it as many spaces as it lacks of so many characters
abbrev pub right : ℕ → List ℕ → List ℕ
right width text = replicate (width - length text) 32 ++ text

-- a byte of a line: a question mark in place of what no line of text has
abbrev pub shown_byte : ℕ → ℕ
shown_byte b = if nat_lt b 32 || (b == 127) then 63 else b

-- a line of a script, with its number and a line feed; nothing of an empty one
unfoldable pub line_text : ℕ → List ℕ → List ℕ
line_text number [] = []
line_text number (b ∷ bs) = right 5 (decimal number) ++ codes " " ++ map shown_byte (b ∷ bs) ++ 10 ∷ []
