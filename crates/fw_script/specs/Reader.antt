-- What a reader keeps between its steps.
use Rattle.std.specs.Prelude.{◌≡◌, ℕ, ◌+◌, ◌*◌, ◌-◌, ◌<◌, ◌≤◌, List, length, take, Bool, true, false, Option, Some, None, Result, Ok, Err, if◌then◌else◌}
use Rattle.fw_script_command.specs.Pieces.{IsFree}
use Rattle.fw_script.specs.Line.{is_skipped}
use Rattle.fw_script_command.specs.Form.{HasForm}
use Rattle.fw_script.specs.Reading.{Reading, Answer, GivesFirst, IsLine, IsLongLine, PassesLimit, IsAtEndOfInput, TakesMore, at_stage, following}
use Rattle.fw_script_command.specs.declared.command.Command.{Command}
use Rattle.fw_script_command.specs.declared.command.Command.TheVariants.{End}
use Rattle.fw_script.specs.declared.ScriptFault.{ScriptFault}
use Rattle.fw_script.specs.declared.ScriptFault.TheVariants.{ReadFault}
use Rattle.fw_script.specs.declared.line.Prefix.{Prefix}
use Rattle.fw_script.specs.declared.line.Prefix.TheVariants.{Line, LongLine, Limit, Cut, Nothing}
use Rattle.fw_script.specs.declared.stage.ReaderStage.{ReaderStage}
use Rattle.fw_script.specs.declared.stage.ReaderStage.TheVariants.{Commands, AfterEnd, Done, Failed}

-- lines are read
abbrev pub IsOpen : ReaderStage → Type 0
IsOpen Commands = Unit {0}
IsOpen AfterEnd = Unit {0}
IsOpen Done = ⊥
IsOpen Failed = ⊥

-- a line of at most 256 bytes and 4,096 more are held at most, and what passes the 4,096 has no line feed
pub record IsNear (rest : List ℕ) : Type 0 where
  pub few : length rest ≤ 256 + 4096
  pub free : IsFree 10 (take (length rest - 4096) rest)

-- from the one reading on, lines are passed over that say nothing, and `end`, up to the other
pub data PassesOver : Reading → Reading → Type 0 where
  nowhere : {p : Reading} → PassesOver p p
  over_skipped : {p q : Reading} (text : List ℕ) (size : ℕ)
      → IsLine p text size → is_skipped text ≡ true → PassesOver (following p text size) q → PassesOver p q
  over_end : {p q : Reading} (text : List ℕ) (size : ℕ)
      → IsLine p text size → is_skipped text ≡ false → p.stage ≡ Commands → HasForm End text
      → PassesOver (at_stage (following p text size) AfterEnd) q → PassesOver p q

-- bytes were taken, and lines were passed over that say nothing
pub record ReadsOn (old new : Reading) (left left' : Option (List ℕ)) : Type 0 where
  pub known : Reading
  pub takes : TakesMore old known left left'
  pub goes : PassesOver known new

-- what is read and taken at most before an answer
abbrev pub to_read : Reading → ℕ
to_read p = (2101506 - (2 * p.before + length p.rest)) + (if p.whole then 0 else 1)

-- a step: lines are passed over or bytes taken, and the reading goes on, or an answer is given
abbrev pub Steps : Reading → Option (List ℕ) → Option (List ℕ) → Answer → Reading → Type 0
Steps old left left' (Ok None) new = ReadsOn old new left left' × IsOpen new.stage × (to_read new < to_read old)
Steps old left left' (Ok (Some c)) new = (mid : Reading) × ReadsOn old mid left left' × GivesFirst mid (Ok (Some c)) new
Steps old left left' (Err f) new = (mid : Reading) × ReadsOn old mid left left' × GivesFirst mid (Err f) new

-- what a call answers that says whether it put a command into its room
abbrev pub answer_of : Result Bool ScriptFault → Command → Answer
answer_of (Ok true) c = Ok (Some c)
answer_of (Ok false) c = Ok None
answer_of (Err f) c = Err f

-- what a call answers that put a command into its room
abbrev pub given_of : Result Unit ScriptFault → Command → Answer
given_of (Ok u) c = Ok (Some c)
given_of (Err f) c = Err f

-- a line was read: it says nothing, and the reading goes on, or it gives a command or a fault
abbrev pub ReadsLine : Reading → Answer → Reading → Type 0
ReadsLine p (Ok None) q = PassesOver p q × IsOpen q.stage × (to_read q < to_read p)
ReadsLine p (Ok (Some c)) q = GivesFirst p (Ok (Some c)) q
ReadsLine p (Err f) q = GivesFirst p (Err f) q

-- the next line has n bytes, and takes so many with its line feed
pub record HoldsLine (p : Reading) (n size : ℕ) : Type 0 where
  pub line : IsLine p (take n p.rest) size
  pub there : n ≤ length p.rest
  pub some : 0 < size
  pub all : size ≤ length p.rest

-- a prefix of the next line is held, and not its end
pub record IsCut (p : Reading) : Type 0 where
  pub on : p.whole ≡ false
  pub short : length p.rest ≤ 256
  pub within : p.before + length p.rest ≤ 1048576
  pub free : IsFree 10 p.rest

-- what stands next
abbrev pub StandsNext : Reading → Prefix → Type 0
StandsNext p (Line n size) = HoldsLine p n size
StandsNext p LongLine = IsLongLine p
StandsNext p Limit = PassesLimit p
StandsNext p Cut = IsCut p
StandsNext p Nothing = IsAtEndOfInput p

-- bytes were taken, some or the source's end, or the source failed
abbrev pub Fills : Reading → Option (List ℕ) → Option (List ℕ) → Result Unit ScriptFault → Reading → Type 0
Fills old left left' (Ok u) new = TakesMore old new left left' × (new.stage ≡ old.stage) × (to_read new < to_read old)
Fills old left left' (Err f) new = (f ≡ ReadFault) × TakesMore old old left left' × (new ≡ at_stage old Failed)
