-- A script without its `end`, and lines that may stand after it.
use Rattle.std.specs.Prelude.{ℕ, ◌==◌, not, nat_le, List, [], ◌∷◌, ◌++◌, Bool, codes, length, if◌then◌else◌}
use Rattle.std.specs.List.{filter, flat_map, list_all}
use Rattle.std.specs.Str.{bytes_eq}
use Rattle.fw_script_command.specs.Pieces.{onto}

-- the lines of some bytes; the last may lack its line feed
abbrev pub lines_in : List ℕ → List (List ℕ)
lines_in [] = []
lines_in (b ∷ bytes) = if b == 10 then [] ∷ lines_in bytes else onto b (lines_in bytes)

-- lines as they stand in a script, each with its line feed
abbrev pub joined : List (List ℕ) → List ℕ
joined lines = flat_map (λ line. line ++ 10 ∷ []) lines

abbrev pub is_end : List ℕ → Bool
is_end line = bytes_eq line (codes "end")

-- the bytes of a script but for its line `end`, as `grep -v '^end$'` has them
abbrev pub without_end : List ℕ → List ℕ
without_end script = joined (filter (λ line. not (is_end line)) (lines_in script))

-- no line has more than the 256 bytes that a line of a script may have
abbrev pub has_short_lines : List ℕ → Bool
has_short_lines bytes = list_all (λ line. nat_le (length line) 256) (lines_in bytes)
