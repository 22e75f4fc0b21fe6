-- The word that is told of a line is the first that its form refuses.
use Rattle.std.specs.Prelude.{◌≡◌, ◌↔◌, ℕ, ◌+◌, ◌<◌, ◌≤◌, List, [], length, slice_get, slice_index_or, true, false, Some, None}
use Rattle.fw_script_command.specs.Form.{HasArguments}
use Rattle.fw_script_command.specs.Types.{fits, may_lack, types_of}
use Rattle.fw_script_command.specs.declared.command.Command.{Command}
use Rattle.fw_script_command.specs.declared.keyword.Keyword.{Keyword}
use Rattle.fw_script_command.specs.declared.word_type.WordType.{WordType}
use Rattle.fw_script_command.specs.declared.word_type.WordType.TheVariants.{Name}
use Rattle.fw_check.specs.Misfits.{first_misfit}
use Rattle.fw_check.specs.declared.misfit.Misfit.{Misfit}
use Rattle.fw_check.specs.declared.misfit.Misfit.TheVariants.{Missing, Unfit, Extra}

-- the number of the word, from 1 in its line
abbrev pub number_of : Misfit → ℕ
number_of (Missing number t) = number
number_of (Unfit number t) = number
number_of (Extra number) = number

-- a form refuses no word exactly if the words are a command of its keyword
abbrev pub NoneIsACommand : Type 0
NoneIsACommand = (k : Keyword) (ws : List (List ℕ)) → (first_misfit 2 (types_of k) ws ≡ None) ↔ ((c : Command) × HasArguments k ws c)

-- each word before the one that is told is of its type
abbrev pub EarlierFit : Type 0
EarlierFit = (k : Keyword) (ws : List (List ℕ)) (m : Misfit) → first_misfit 2 (types_of k) ws ≡ Some m
    → (i : ℕ) → i < length ws → i + 2 < number_of m → fits (slice_index_or (types_of k) i Name) (slice_index_or ws i []) ≡ true

-- words that are numbered from this number on are refused at one of them: it is missing though its type asks for it, is not of its type, or is one too many
abbrev pub IsRefusedAt : ℕ → List WordType → List (List ℕ) → Misfit → Type 0
IsRefusedAt first ts ws (Missing number t) = (i : ℕ) × (number ≡ i + first) × (slice_get ts i ≡ Some t) × (length ws ≤ i) × (may_lack t ≡ false)
IsRefusedAt first ts ws (Unfit number t) = (i : ℕ) × (number ≡ i + first) × (slice_get ts i ≡ Some t) × (i < length ws) × (fits t (slice_index_or ws i []) ≡ false)
IsRefusedAt first ts ws (Extra number) = (number ≡ length ts + first) × (length ts < length ws)

-- the word that is told is refused
abbrev pub ToldIsRefused : Type 0
ToldIsRefused = (k : Keyword) (ws : List (List ℕ)) (m : Misfit) → first_misfit 2 (types_of k) ws ≡ Some m → IsRefusedAt 2 (types_of k) ws m
