-- The commands of a script, one after another: what they lead through, and what of it was read.
use Rattle.std.specs.Prelude.{◌≡◌, ◌≢◌, ℕ, ◌+◌, ◌≤◌, List, [], ◌∷◌, ◌++◌, length, drop, Bool, true, false, Option, Some, Ok, Err}
use Rattle.fw_outside.specs.Outside.{Takes, IsAtEnd}
use Rattle.fw_script_command.specs.Pieces.{IsFree}
use Rattle.fw_script.specs.Reading.{Reading, GivesFirst, with_taken}
use Rattle.fw_script.specs.Script.{Tells, begun, start_of}
use Rattle.fw_script_command.specs.declared.command.Command.{Command}
use Rattle.fw_script_command.specs.declared.command.Command.TheVariants.{End}
use Rattle.fw_script.specs.declared.ScriptFault.TheVariants.{ReadFault}

-- from one reading on the lines give these commands, one after another, and the other stands after the last line
pub data Leads (p : Reading) : List Command → Reading → Type 0 where
  nothing : Leads p [] p
  and_then : {commands : List Command} {q : Reading} → Leads p commands q → (c : Command) → c ≢ End → (next : Reading) → GivesFirst q (Ok (Some c)) next → Leads p (commands ++ c ∷ []) next

-- the script gives these commands first
pub record BeginsWith (script : List ℕ) (commands : List Command) : Type 0 where
  pub following : Reading
  pub leads : Leads (start_of script) commands following

-- the command after these is on the line with this number
pub record IsOnLine (script : List ℕ) (commands : List Command) (c : Command) (line : ℕ) : Type 0 where
  pub before : Reading
  pub after : Reading
  pub leads : Leads (start_of script) commands before
  pub gives : GivesFirst before (Ok (Some c)) after
  pub number : line ≡ after.line

-- Bytes of the script were taken, and others may be after them. A source that tells what it has told the whole script.
pub record TakesFrom (left left' : Option (List ℕ)) (script : List ℕ) : Type 0 where
  pub taken : List ℕ
  pub following : List ℕ
  pub parts : script ≡ taken ++ following
  pub takes : Takes left left' taken
  pub told : Tells left script

-- The lines whose line feed is among the bytes give exactly these commands, one after another, and none of them is refused. What is left
-- after them is not too long for a line, and within the script's limit.
pub record LinesSay (bytes : List ℕ) (commands : List Command) : Type 0 where
  pub following : Reading
  pub last : Reading
  pub leads : Leads (begun bytes false) commands following
  pub passed : GivesFirst following (Err ReadFault) last
  pub free : IsFree 10 last.rest
  pub few : length last.rest ≤ 256
  pub within : last.before + length last.rest ≤ 1048576

-- so many of the bytes that were taken are read, and the others are held
pub record IsReadOf (taken : List ℕ) (now : Reading) : Type 0 where
  pub within : now.before ≤ length taken
  pub held : drop now.before taken ≡ now.rest

-- What calls have read of a script, from when the reader was new: whatever more is left, if the input's end was not met,
-- the script leads through the commands that they gave to where the reading stands.
pub record HasRead (left left' : Option (List ℕ)) (given : List Command) (now : Reading) : Type 0 where
  pub taken : List ℕ
  pub takes : Takes left left' taken
  pub met : now.whole ≡ true → IsAtEnd left'
  pub read : IsReadOf taken now
  pub leads : (more : List ℕ) (whole : Bool) → (now.whole ≡ true → (more ≡ []) × (whole ≡ true))
      → Leads (begun (taken ++ more) whole) given (with_taken now more whole)
