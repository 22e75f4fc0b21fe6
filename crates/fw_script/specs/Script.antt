-- Whole scripts.
use Rattle.std.specs.Prelude.{◌≡◌, ◌≢◌, ℕ, ◌≤◌, ◌<◌, List, [], ◌∷◌, Bool, true, Option, Some, None, Ok, Err}
use Rattle.fw_script.specs.Reading.{Reading, GivesFirst}
use Rattle.fw_script_command.specs.declared.command.Command.{Command}
use Rattle.fw_script_command.specs.declared.command.Command.TheVariants.{End}
use Rattle.fw_script.specs.declared.ScriptFault.{ScriptFault}
use Rattle.fw_script.specs.declared.ScriptFault.TheVariants.{NoEnd, ReadFault, TooLong}
use Rattle.fw_script.specs.declared.stage.ReaderStage.TheVariants.{Commands}

-- why a line is refused, and its number
pub record Refusal : Type 0 where
  pub fault : ScriptFault
  pub line : ℕ

-- the commands of the lines from here on, and the first refused line, if any
pub data Says : Reading → List Command → Option Refusal → Type 0 where
  ends : {p q : Reading} → GivesFirst p (Ok (Some End)) q → Says p (End ∷ []) None
  refuses : {p q : Reading} {f : ScriptFault} → GivesFirst p (Err f) q → f ≢ ReadFault → Says p [] (Some (record { fault = f; line = q.line }))
  goes_on : {p q : Reading} {c : Command} {cs : List Command} {r : Option Refusal}
      → GivesFirst p (Ok (Some c)) q → c ≢ End → Says q cs r → Says p (c ∷ cs) r

-- bytes of which nothing is read yet; others may follow them if they are not whole
abbrev pub begun : List ℕ → Bool → Reading
begun bytes whole = record { rest = bytes; whole = whole; before = 0; line = 0; stage = Commands; text = []; end = 0 }

-- a script of which nothing is read yet
abbrev pub start_of : List ℕ → Reading
start_of script = begun script true

-- the commands of a script, and its first refused line, if any
abbrev pub IsScript : List ℕ → List Command → Option Refusal → Type 0
IsScript bytes cs r = Says (start_of bytes) cs r

-- a script that the source tells, if it tells
abbrev pub Tells : Option (List ℕ) → List ℕ → Type 0
Tells None script = Unit {0}
Tells (Some xs) script = xs ≡ script

-- A script of so many bytes is too long only if it passes the limit, and reaches its end only within it.
abbrev pub FitsLimit : ℕ → Option Refusal → Type 0
FitsLimit n None = n ≤ 1048576
FitsLimit n (Some x) = (x.fault ≡ TooLong → 1048576 < n) × (x.fault ≡ NoEnd → n ≤ 1048576)
