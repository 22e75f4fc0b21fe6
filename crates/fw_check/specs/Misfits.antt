-- The first word that a form refuses.
use Rattle.std.specs.Prelude.{ℕ, ◌+◌, ◌<◌, ⊤, List, [], ◌∷◌, Option, Some, None, if◌then◌else◌}
use Rattle.fw_script_command.specs.Form.{after_first}
use Rattle.fw_script_command.specs.Types.{fits, may_lack}
use Rattle.fw_script_command.specs.declared.word_type.WordType.{WordType}
use Rattle.fw_check.specs.declared.misfit.Misfit.{Misfit}
use Rattle.fw_check.specs.declared.misfit.Misfit.TheVariants.{Missing, Unfit, Extra}

-- the word with this number is missing, or is not of its type
abbrev pub misfit_at : ℕ → WordType → List (List ℕ) → Option Misfit
misfit_at k t [] = if may_lack t then None else Some (Missing k t)
misfit_at k t (w ∷ ws) = if fits t w then None else Some (Unfit k t)

-- it is one too many
abbrev pub surplus_at : ℕ → List (List ℕ) → Option Misfit
surplus_at k [] = None
surplus_at k (w ∷ ws) = Some (Extra k)

-- the first, or else the other
abbrev pub or_misfit : Option Misfit → Option Misfit → Option Misfit
or_misfit (Some m) other = Some m
or_misfit None other = other

-- the first word, numbered from this number on, that is missing, is not of its type, or is one too many
abbrev pub first_misfit : ℕ → List WordType → List (List ℕ) → Option Misfit
first_misfit k [] ws = surplus_at k ws
first_misfit k (t ∷ ts) ws = or_misfit (misfit_at k t ws) (first_misfit (k + 1) ts (after_first ws))

-- the word has a number from 1
abbrev pub HasNumber : Option Misfit → Type 0
HasNumber None = ⊤
HasNumber (Some (Missing number t)) = 0 < number
HasNumber (Some (Unfit number t)) = 0 < number
HasNumber (Some (Extra number)) = 0 < number
