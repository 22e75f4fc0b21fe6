-- Lines that are looked at before they are read, and read one by one if they say nothing.
use Rattle.std.specs.Prelude.{◌≡◌, ◌≢◌, ◌⊎◌, ℕ, List, take, true, false, Option, Some, None}
use Rattle.fw_script_command.specs.Form.{HasForm}
use Rattle.fw_script_command.specs.declared.command.Command.{Command}
use Rattle.fw_script_command.specs.declared.command.Command.TheVariants.{End}
use Rattle.fw_script.specs.Line.{is_skipped}
use Rattle.fw_script.specs.Reader.{HoldsLine}
use Rattle.fw_script.specs.Reading.{Reading, IsLongLine, PassesLimit, IsAtEndOfInput, TakesMore, following, at_stage}
use Rattle.fw_script.specs.declared.reader.passing.Said.{Said}
use Rattle.fw_script.specs.declared.reader.passing.Said.TheVariants.{Nothing, Command as ACommand, Refused}
use Rattle.fw_script.specs.declared.stage.ReaderStage.TheVariants.{Commands, AfterEnd, Done, Failed}

-- no line stands next: the end was given, the next line is too long or passes the script's limit, or no bytes are left
abbrev pub HasNoLine : Reading → Type 0
HasNoLine p = (p.stage ≡ Done) ⊎ IsLongLine p ⊎ PassesLimit p ⊎ IsAtEndOfInput p

-- the next line is held whole, with its length and how many bytes it takes, if a line stands next
abbrev pub HoldsNext : Reading → Option (ℕ × ℕ) → Type 0
HoldsNext p None = HasNoLine p
HoldsNext p (Some line) = HoldsLine p line.0 line.1

-- the source failed, perhaps after bytes were taken, and no line was read
pub record FailsThere (old new : Reading) (left left' : Option (List ℕ)) : Type 0 where
  pub known : Reading
  pub takes : TakesMore old known left left'
  pub now : new ≡ at_stage known Failed

-- an empty line or a comment was read
pub record PassesSkipped (p q : Reading) (text : List ℕ) (size : ℕ) : Type 0 where
  pub skipped : is_skipped text ≡ true
  pub now : q ≡ following p text size

-- the line `end` was read
pub record PassesEnd (p q : Reading) (text : List ℕ) (size : ℕ) : Type 0 where
  pub said : is_skipped text ≡ false
  pub stage : p.stage ≡ Commands
  pub form : HasForm End text
  pub now : q ≡ at_stage (following p text size) AfterEnd

-- a command stands there, which is not read
pub record IsCommandNext (p q : Reading) (text : List ℕ) (c : Command) : Type 0 where
  pub said : is_skipped text ≡ false
  pub stage : p.stage ≡ Commands
  pub form : HasForm c text
  pub other : c ≢ End
  pub now : q ≡ p

-- a line stands there that is refused, which is not read: it has no form, or it follows `end`
pub record IsRefusedNext (p q : Reading) (text : List ℕ) : Type 0 where
  pub said : is_skipped text ≡ false
  pub why : (p.stage ≡ AfterEnd) ⊎ ((c : Command) → HasForm c text → ⊥)
  pub now : q ≡ p

-- what a line of n bytes says that takes so many, and where the reading stands then
abbrev pub Passes : Reading → ℕ → ℕ → Said → Command → Reading → Type 0
Passes p n size Nothing c q = PassesSkipped p q (take n p.rest) size ⊎ PassesEnd p q (take n p.rest) size
Passes p n size ACommand c q = IsCommandNext p q (take n p.rest) c
Passes p n size Refused c q = IsRefusedNext p q (take n p.rest)
