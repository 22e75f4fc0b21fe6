-- The text of an exploration.
use Rattle.std.specs.Prelude.{ℕ, zero, suc, ◌+◌, ◌-◌, ◌==◌, ◌&&◌, List, [], ◌∷◌, ◌++◌, Bool, true, false, length}
use Rattle.std.specs.Prelude.{take, codes, decimal, Option, Some, None, slice_get, slice_index_or, if◌then◌else◌}
use Rattle.std.specs.List.{list_any}
use Rattle.fw_explore_movers.specs.declared.mover.Mover.{Mover}
use Rattle.fw_explore_movers.specs.declared.mover.MoverKind.TheVariants.{HalfSteps, Once}
use Rattle.fw_explore_movers.specs.declared.mover.Explored.{Explored}
use Rattle.std.specs.Str.{bytes_eq}
use Rattle.fw_model_run.specs.Named.{names_of}
use Rattle.fw_explore_told.specs.Telling.{remark}
use Rattle.fw_explore_levels.specs.Counting.{most_told}
use Rattle.fw_explore_endings.specs.declared.rows.Row.{Row}

-- a count: if it may be more, that is said
abbrev pub count_text : ℕ → List ℕ
count_text n = decimal n ++ (if n == most_told then codes " or more" else [])

-- how many interleavings ended, and how many were cut off
abbrev pub counts_text : ℕ → ℕ → List ℕ
counts_text ended cut = codes "ended " ++ count_text ended ++ codes ", cut off " ++ count_text cut

-- ---- moves as lines

-- so many half steps of a mover, whose line ends in a count of 1
abbrev pub steps_text : List ℕ → ℕ → List ℕ
steps_text line n = take (length line - 1) line ++ decimal n ++ 10 ∷ []

-- So many half steps of a mover in a row are one line; a line is told as often as it was carried out.
abbrev pub run_text : Option Mover → ℕ → List ℕ
run_text None n = []
run_text (Some m) n = elim m.kind [ HalfSteps ↦ steps_text m.line.items n | Once ↦ m.line.items ++ 10 ∷ [] ]

abbrev pub takes_half_steps : Option Mover → Bool
takes_half_steps None = false
takes_half_steps (Some m) = elim m.kind [ HalfSteps ↦ true | Once ↦ false ]

-- a move is told with the next: half steps of one mover
abbrev pub goes_on : Option Mover → ℕ → Option ℕ → Bool
goes_on m p None = false
goes_on m p (Some q) = (p == q) && takes_half_steps m

-- the moves after `n` half steps of the mover `p`, which are still to be told
unfoldable pub moves_following : Explored → ℕ → ℕ → List ℕ → List ℕ
moves_following x p n [] = run_text (slice_get x.movers.items p) n
moves_following x p n (q ∷ w) =
    if (p == q) && takes_half_steps (slice_get x.movers.items p) then moves_following x p (n + 1) w
    else run_text (slice_get x.movers.items p) n ++ moves_following x q 1 w

abbrev pub moves_text : Explored → List ℕ → List ℕ
moves_text x [] = []
moves_text x (p ∷ w) = moves_following x p 1 w

-- ---- paragraphs

-- the lines of a paragraph below its remarks: the rest of a script
abbrev pub rest_text : Explored → Row → List ℕ
rest_text x r = moves_text x r.first.items ++ r.lines.items ++ codes "end" ++ 10 ∷ []

abbrev pub row_head : ℕ → Row → List ℕ
row_head number r = codes "ending " ++ decimal number ++ codes ": " ++ counts_text r.ended r.cut ++ codes "; first in " ++ decimal (length r.first.items) ++ codes " moves"

-- an empty line, and then what is told of an ending
abbrev pub row_text : Explored → ℕ → Row → List ℕ
row_text x number r = 10 ∷ remark (row_head number r) ++ r.ending.items ++ rest_text x r

unfoldable pub rows_text : Explored → ℕ → List Row → List ℕ
rows_text x number [] = []
rows_text x number (r ∷ rows) = row_text x number r ++ rows_text x (number + 1) rows

-- ---- the head

-- the moves of the first interleaving of all
abbrev pub shortest : List Row → ℕ
shortest [] = 0
shortest (r ∷ rows) = length r.first.items

-- the other is this name, if it is one
abbrev pub is_name : List ℕ → Option (List ℕ) → Bool
is_name name None = false
is_name name (Some other) = bytes_eq name other

-- a mover names this device
abbrev pub names_device : List Mover → List ℕ → Bool
names_device movers name = list_any (λ m. list_any (bytes_eq name) (names_of m.command)) movers

-- a device, with its number
abbrev pub device_line : ℕ → List ℕ → List ℕ
device_line d name = remark (codes "device " ++ decimal d ++ codes " " ++ name)

-- the devices below a number that movers name, in order of declaration
unfoldable pub devices_text : List Mover → List (List ℕ) → ℕ → List ℕ
devices_text movers names zero = []
devices_text movers names (suc d) = devices_text movers names d ++ (if names_device movers (slice_index_or names d []) then device_line d (slice_index_or names d []) else [])

-- the first line
abbrev pub first_text : List Row → ℕ → ℕ → ℕ → List ℕ
first_text rows ended cut longest =
    remark (codes "interleavings: " ++ counts_text ended cut ++ codes "; moves " ++ decimal (shortest rows) ++ codes " to " ++ decimal longest ++ codes "; endings " ++ decimal (length rows))

abbrev pub text_of : Explored → List (List ℕ) → List Row → ℕ → ℕ → ℕ → List ℕ
text_of x names rows ended cut longest = first_text rows ended cut longest ++ devices_text x.movers.items names (length names) ++ rows_text x 1 rows
