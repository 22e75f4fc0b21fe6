-- The next line of some bytes, and what it means.
use Rattle.std.specs.Prelude.{◌≡◌, ◌≢◌, ◌⊎◌, ℕ, ◌+◌, ◌<◌, ◌≤◌, ◌==◌, nat_lt, List, [], ◌∷◌, ◌++◌, length, take, drop, Bool, true, false, not, if◌then◌else◌}
use Rattle.fw_script_command.specs.Pieces.{IsFree}
use Rattle.fw_script_command.specs.Form.{HasForm}
use Rattle.fw_script_command.specs.declared.command.Command.{Command}
use Rattle.fw_script_command.specs.declared.command.Command.TheVariants as Commands
use Rattle.fw_script.specs.declared.line.Prefix.{Prefix}
use Rattle.fw_script.specs.declared.line.Prefix.TheVariants.{Line, LongLine, Limit, Cut, Nothing}
use Rattle.fw_script.specs.declared.line.Meaning.{Meaning}
use Rattle.fw_script.specs.declared.line.Meaning.TheVariants.{Skipped, Command as Said, End, Refused}

-- an empty line, or a comment
abbrev pub is_skipped : List ℕ → Bool
is_skipped [] = true
is_skipped (b ∷ text) = b == 35

-- what stands next, if the first bytes have no line feed: as many as are there, within the script's limit or fit a line and one more
abbrev pub unfed_of : ℕ → ℕ → Bool → Prefix
unfed_of total count whole =
    if nat_lt 256 count then LongLine
    else if nat_lt count total then Limit
    else if not whole then Cut
    else if count == 0 then Nothing
    else Line count count

-- the line ends with a line feed, or with all bytes, if no others follow
abbrev pub IsEnded : List ℕ → Bool → ℕ → ℕ → Type 0
IsEnded rest whole n size =
    ((rest ≡ take n rest ++ 10 ∷ drop size rest) × (size ≡ n + 1))
    ⊎ ((rest ≡ take n rest) × (whole ≡ true) × (drop size rest ≡ []) × (size ≡ n) × (0 < n))

-- what stands next, if the first bytes, as many as there is room, are within the script's limit
abbrev pub IsPrefix : List ℕ → ℕ → Bool → Prefix → Type 0
IsPrefix rest room whole (Line n size) = (n ≤ 256) × (size ≤ room) × (size ≤ length rest) × IsFree 10 (take n rest) × (n ≡ length (take n rest)) × IsEnded rest whole n size
IsPrefix rest room whole LongLine = (257 ≤ length rest) × (257 ≤ room) × IsFree 10 (take 257 rest)
IsPrefix rest room whole Limit = (room < length rest) × (room ≤ 256) × IsFree 10 (take room rest)
IsPrefix rest room whole Cut = (whole ≡ false) × (length rest ≤ 256) × (length rest ≤ room) × IsFree 10 rest
IsPrefix rest room whole Nothing = (rest ≡ []) × (whole ≡ true)

-- what a line means, if commands may stand or only skipped lines, with its command, if it is one
abbrev pub IsMeaning : List ℕ → Bool → Meaning → Command → Type 0
IsMeaning text commands Skipped c = is_skipped text ≡ true
IsMeaning text commands Said c = (is_skipped text ≡ false) × (commands ≡ true) × HasForm c text × (c ≢ Commands.End)
IsMeaning text commands End c = (is_skipped text ≡ false) × (commands ≡ true) × HasForm Commands.End text
IsMeaning text commands Refused c = (is_skipped text ≡ false) × ((commands ≡ false) ⊎ ((other : Command) → HasForm other text → ⊥))
