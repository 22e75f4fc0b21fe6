-- How a script is read, line by line.
use Rattle.std.specs.Prelude.{◌≡◌, ◌≢◌, ◌⊎◌, ◌↔◌, ℕ, ◌+◌, ◌<◌, ◌≤◌, ◌-◌, List, [], ◌∷◌, ◌++◌, length, take, drop, Bool, true, false, Option, Some, None, Result, Ok, Err}
use Rattle.fw_outside.specs.Outside.{Takes, IsAtEnd}
use Rattle.fw_script_command.specs.Pieces.{IsFree}
use Rattle.fw_script.specs.Line.{is_skipped}
use Rattle.fw_script_command.specs.Form.{HasForm}
use Rattle.fw_script_command.specs.declared.command.Command.{Command}
use Rattle.fw_script_command.specs.declared.command.Command.TheVariants.{End}
use Rattle.fw_script.specs.declared.ScriptFault.{ScriptFault}
use Rattle.fw_script.specs.declared.ScriptFault.TheVariants.{BadLine, LineTooLong, NoEnd, ReadFault, TooLong}
use Rattle.fw_script.specs.declared.stage.ReaderStage.{ReaderStage}
use Rattle.fw_script.specs.declared.stage.ReaderStage.TheVariants.{Commands, AfterEnd, Done, Failed}

-- what a call answers
abbrev pub Answer : Type 0
Answer = Result (Option Command) ScriptFault

-- where a reading stands: the bytes from the next line on, as far as they were taken from the source, which is all that
-- is held; whether its end was met after them; how many bytes of the script stand before them; the number of the line last read or
-- refused; what is read next; the text of the line last read or refused, of one that is too long its first 257 bytes; and the number of
-- the line `end`, 0 before it was read
pub record Reading : Type 0 where
  pub rest : List ℕ
  pub whole : Bool
  pub before : ℕ
  pub line : ℕ
  pub stage : ReaderStage
  pub text : List ℕ
  pub end : ℕ

-- the reading of a new reader
abbrev pub unread : Reading
unread = record { rest = []; whole = false; before = 0; line = 0; stage = Commands; text = []; end = 0 }

-- more bytes were taken, and perhaps the source's end was met
abbrev pub with_taken : Reading → List ℕ → Bool → Reading
with_taken p taken whole = record { rest = p.rest ++ taken; whole = whole; before = p.before; line = p.line; stage = p.stage; text = p.text; end = p.end }

-- the number of the line `end` where another stage begins: that of the line last read if only skipped lines may follow it
abbrev pub end_at : Reading → ReaderStage → ℕ
end_at p Commands = p.end
end_at p AfterEnd = p.line
end_at p Done = p.end
end_at p Failed = p.end

-- the same with another stage
abbrev pub at_stage : Reading → ReaderStage → Reading
at_stage p stage = record { rest = p.rest; whole = p.whole; before = p.before; line = p.line; stage = stage; text = p.text; end = end_at p stage }

-- the line after the last one is refused, which begins with this text
abbrev pub refused : Reading → List ℕ → Reading
refused p text = record { rest = p.rest; whole = p.whole; before = p.before; line = p.line + 1; stage = Failed; text = text; end = p.end }

-- after a line of this text that takes so many bytes
abbrev pub following : Reading → List ℕ → ℕ → Reading
following p text size = record { rest = drop size p.rest; whole = p.whole; before = p.before + size; line = p.line + 1; stage = p.stage; text = text; end = p.end }

-- the next line is this text, and takes so many bytes with its line feed; only the last line may lack it
abbrev pub EndsLine : Reading → List ℕ → ℕ → Type 0
EndsLine p text size =
    ((p.rest ≡ text ++ 10 ∷ drop size p.rest) × (size ≡ length text + 1))
    ⊎ ((p.rest ≡ text) × (p.whole ≡ true) × (size ≡ length text) × (0 < size))

-- the next line is this text, it has at most 256 bytes, and it ends within the script's limit
pub record IsLine (p : Reading) (text : List ℕ) (size : ℕ) : Type 0 where
  pub ends : EndsLine p text size
  pub free : IsFree 10 text
  pub short : length text ≤ 256
  pub within : p.before + size ≤ 1048576

-- the next line has more than 256 bytes, and its 257th byte lies within the script's limit
pub record IsLongLine (p : Reading) : Type 0 where
  pub long : 257 ≤ length p.rest
  pub free : IsFree 10 (take 257 p.rest)
  pub within : p.before + 257 ≤ 1048576

-- the script passes its limit, and the next line doesn't end within it, nor does its 257th byte lie within it
pub record PassesLimit (p : Reading) : Type 0 where
  pub start : p.before ≤ 1048576
  pub more : 1048576 < p.before + length p.rest
  pub free : IsFree 10 (take (1048576 - p.before) p.rest)
  pub short : 1048576 ≤ p.before + 256

-- no line is left
abbrev pub IsAtEndOfInput : Reading → Type 0
IsAtEndOfInput p = (p.rest ≡ []) × (p.whole ≡ true)

-- what the lines from here on give first: a command or a fault, and where the reading stands then
pub data GivesFirst : Reading → Answer → Reading → Type 0 where
  -- an empty line or a comment
  skipped : {p q : Reading} {r : Answer} (text : List ℕ) (size : ℕ)
      → IsLine p text size → is_skipped text ≡ true → GivesFirst (following p text size) r q → GivesFirst p r q
  -- a command
  command : {p : Reading} (c : Command) (text : List ℕ) (size : ℕ)
      → IsLine p text size → is_skipped text ≡ false → p.stage ≡ Commands → HasForm c text → c ≢ End
      → GivesFirst p (Ok (Some c)) (following p text size)
  -- the line `end`: only skipped lines may follow
  end_line : {p q : Reading} {r : Answer} (text : List ℕ) (size : ℕ)
      → IsLine p text size → is_skipped text ≡ false → p.stage ≡ Commands → HasForm End text
      → GivesFirst (at_stage (following p text size) AfterEnd) r q → GivesFirst p r q
  -- a line without a form, or one that follows `end`
  bad_line : {p : Reading} (text : List ℕ) (size : ℕ)
      → IsLine p text size → is_skipped text ≡ false → (p.stage ≡ AfterEnd) ⊎ ((c : Command) → HasForm c text → ⊥)
      → GivesFirst p (Err BadLine) (at_stage (following p text size) Failed)
  -- a line of more than 256 bytes
  long_line : {p : Reading} → IsLongLine p → GivesFirst p (Err LineTooLong) (refused p (take 257 p.rest))
  -- a line that ends after the script's limit
  too_long : {p : Reading} → PassesLimit p → GivesFirst p (Err TooLong) (at_stage p Failed)
  -- the input's end, after `end` or without it
  end_of_input : {p : Reading} → IsAtEndOfInput p → p.stage ≡ AfterEnd → GivesFirst p (Ok (Some End)) (at_stage p Done)
  no_end : {p : Reading} → IsAtEndOfInput p → p.stage ≡ Commands → GivesFirst p (Err NoEnd) (refused p [])
  -- the source failed
  read_fault : {p : Reading} → GivesFirst p (Err ReadFault) (at_stage p Failed)

-- nothing is given after the end
abbrev pub GivesNext : ReaderStage → Reading → Answer → Reading → Type 0
GivesNext Commands p r q = GivesFirst p r q
GivesNext AfterEnd p r q = GivesFirst p r q
GivesNext Done p r q = (r ≡ Ok None) × (q ≡ p)
GivesNext Failed p r q = GivesFirst p r q

-- Some bytes were taken from the source, none once its end was met.
pub record TakesMore (old new : Reading) (left left' : Option (List ℕ)) : Type 0 where
  pub taken : List ℕ
  pub takes : Takes left left' taken
  pub kept : old.whole ≡ true → (taken ≡ []) × (new.whole ≡ true)
  pub met : old.whole ≡ false → new.whole ≡ true → IsAtEnd left'
  pub now : new ≡ with_taken old taken new.whole

-- a call took some bytes, and gave what then comes first
pub record Advances (old new : Reading) (left left' : Option (List ℕ)) (r : Answer) : Type 0 where
  pub known : Reading
  pub takes : TakesMore old known left left'
  pub gives : GivesNext old.stage known r new

-- The end is given once and nothing after it, and a fault is the last answer.
abbrev pub IsStageAfter : ReaderStage → Answer → ReaderStage → Type 0
IsStageAfter old (Ok None) new = (old ≡ Done) × (new ≡ Done)
IsStageAfter old (Ok (Some c)) new = (old ≢ Done) × (new ≢ Failed) × ((c ≡ End) ↔ (new ≡ Done))
IsStageAfter old (Err f) new = (old ≢ Done) × (new ≡ Failed)

-- what is held gives a command, or a fault that is not the source's: nothing more need be known
abbrev pub HoldsAnswer : Reading → Type 0
HoldsAnswer p = (r : Answer) × (q : Reading) × GivesFirst p r q × (r ≢ Err ReadFault)

-- How many bytes are held after an answer: at most 4,096 after the line of a command or of a refused one, of a line that is too
-- long at most 4,096 after its first 257. If the source failed no whole line is held, nor more than a line may have, nor what passes the
-- script's limit.
abbrev pub IsHeld : Answer → Reading → Type 0
IsHeld (Ok None) q = Unit {0}
IsHeld (Ok (Some c)) q = length q.rest ≤ 4096
IsHeld (Err BadLine) q = length q.rest ≤ 4096
IsHeld (Err LineTooLong) q = length q.rest ≤ 257 + 4096
IsHeld (Err NoEnd) q = q.rest ≡ []
IsHeld (Err TooLong) q = length q.rest ≤ 256 + 4096
IsHeld (Err ReadFault) q = IsFree 10 q.rest × (length q.rest ≤ 256) × (q.whole ≡ false) × (q.before + length q.rest ≤ 1048576)
