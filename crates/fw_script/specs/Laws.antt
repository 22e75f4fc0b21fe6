-- What holds of every script.
use Rattle.std.specs.Prelude.{◌≡◌, ◌≢◌, ℕ, List, [], ◌∷◌, ◌++◌, length, take, Option, Some, None, Ok, Err}
use Rattle.fw_outside.specs.Outside.{Takes, IsAtEnd}
use Rattle.fw_script_command.specs.Pieces.{pieces, separated, AreFree}
use Rattle.fw_script_command.specs.Form.{HasForm}
use Rattle.fw_script.specs.Passing.{Passes}
use Rattle.fw_script.specs.Reader.{HoldsLine, PassesOver}
use Rattle.fw_script.specs.Reading.{Reading, Answer, GivesFirst, Advances, TakesMore, IsHeld, following, at_stage, with_taken, unread}
use Rattle.fw_script.specs.Script.{Refusal, IsScript, Tells, FitsLimit}
use Rattle.fw_script.specs.Leading.{HasRead, BeginsWith, LinesSay, IsReadOf}
use Rattle.fw_script_command.specs.declared.command.Command.{Command}
use Rattle.fw_script_command.specs.declared.command.Command.TheVariants.{End}
use Rattle.fw_script.specs.declared.ScriptFault.{ScriptFault}
use Rattle.fw_script.specs.declared.ScriptFault.TheVariants.{BadLine, ReadFault}
use Rattle.fw_script.specs.declared.reader.passing.Said.TheVariants.{Nothing, Command as ACommand, Refused}
use Rattle.fw_script.specs.declared.stage.ReaderStage.TheVariants.{Failed}

-- the pieces of bytes are what stands between their separators
abbrev pub PiecesPartTheBytes : Type 0
PiecesPartTheBytes = (separator : ℕ) (bytes : List ℕ) → (separated separator (pieces separator bytes) ≡ bytes) × AreFree separator (pieces separator bytes)

-- a line is one command at most
abbrev pub LineIsOneCommand : Type 0
LineIsOneCommand = (c d : Command) (line : List ℕ) → HasForm c line → HasForm d line → c ≡ d

-- lines give one thing, unless the source fails
abbrev pub LinesGiveOneAnswer : Type 0
LinesGiveOneAnswer = (p q z : Reading) (r s : Answer) → GivesFirst p r q → GivesFirst p s z → r ≢ Err ReadFault → s ≢ Err ReadFault → (r ≡ s) × (q ≡ z)

-- a script has one list of commands, and one first refused line or none
abbrev pub ScriptSaysOneThing : Type 0
ScriptSaysOneThing = (bytes : List ℕ) (cs ds : List Command) (r s : Option Refusal) → IsScript bytes cs r → IsScript bytes ds s → (cs ≡ ds) × (r ≡ s)

-- a script of more bytes than the limit is refused, and no other is too long
abbrev pub LimitDecides : Type 0
LimitDecides = (bytes : List ℕ) (cs : List Command) (r : Option Refusal) → IsScript bytes cs r → FitsLimit (length bytes) r

-- a new reader has read nothing
abbrev pub ReadingBegins : Type 0
ReadingBegins = (left : Option (List ℕ)) → HasRead left left [] unread

-- a call that gives a command gives the next one of the script
abbrev pub CommandIsNext : Type 0
CommandIsNext = (left mid left' : Option (List ℕ)) (given : List Command) (old new : Reading) (c : Command)
    → HasRead left mid given old → Advances old new mid left' (Ok (Some c)) → c ≢ End → HasRead left left' (given ++ c ∷ []) new

-- what was given comes first among the commands of the script that the source tells
abbrev pub GivenComesFirst : Type 0
GivenComesFirst = (script : List ℕ) (left' : Option (List ℕ)) (given ds : List Command) (now : Reading) (r : Option Refusal)
    → HasRead (Some script) left' given now → IsScript script ds r → (cs : List Command) × (ds ≡ given ++ cs)

-- if the end is given, the input was a script, and was read to its end
abbrev pub EndIsLast : Type 0
EndIsLast = (left mid left' : Option (List ℕ)) (given : List Command) (old new : Reading)
    → HasRead left mid given old → Advances old new mid left' (Ok (Some End))
    → (script : List ℕ) × Takes left left' script × IsAtEnd left' × IsScript script (given ++ End ∷ []) None

-- if a fault is answered that is not the source's, it is the script's
abbrev pub FaultIsTheScripts : Type 0
FaultIsTheScripts = (left mid left' : Option (List ℕ)) (given : List Command) (old new : Reading) (f : ScriptFault)
    → HasRead left mid given old → Advances old new mid left' (Err f) → f ≢ ReadFault
    → (script : List ℕ) × Tells left script × IsScript script given (Some (record { fault = f; line = new.line }))

-- if the source failed, the commands that were given are exactly those of the lines whose line feed was taken before
abbrev pub WholeLinesWereGiven : Type 0
WholeLinesWereGiven = (left mid left' : Option (List ℕ)) (given : List Command) (old new : Reading)
    → HasRead left mid given old → Advances old new mid left' (Err ReadFault) → IsHeld (Err ReadFault) new
    → (taken : List ℕ) × Takes left left' taken × LinesSay taken given

-- what a call took beyond what was read is held
abbrev pub TakenIsHeld : Type 0
TakenIsHeld = (left mid left' : Option (List ℕ)) (given : List Command) (old new : Reading) (r : Answer)
    → HasRead left mid given old → Advances old new mid left' r → (taken : List ℕ) × Takes left left' taken × IsReadOf taken new

-- if a script gives these commands first, they come first in all that it says
abbrev pub BeginningIsFirst : Type 0
BeginningIsFirst = (script : List ℕ) (commands ds : List Command) (r : Option Refusal)
    → BeginsWith script commands → IsScript script ds r → (cs : List Command) × (ds ≡ commands ++ cs)

-- the first commands of a script are the script's beginning, unless they are all that it says
abbrev pub FirstIsBeginning : Type 0
FirstIsBeginning = (script : List ℕ) (commands ds : List Command) (c : Command) (r : Option Refusal)
    → IsScript script (commands ++ c ∷ ds) r → BeginsWith script commands

-- bytes that are taken after what was read leave it read
abbrev pub TakingGoesOn : Type 0
TakingGoesOn = (left mid left' : Option (List ℕ)) (given : List Command) (old new : Reading)
    → HasRead left mid given old → TakesMore old new mid left' → HasRead left left' given new

-- a line that says nothing by itself is passed over
abbrev pub NothingIsPassedOver : Type 0
NothingIsPassedOver = (p q : Reading) (n size : ℕ) (c : Command) → HoldsLine p n size → Passes p n size Nothing c q → PassesOver p q

-- a command that is seen is what the lines give first, and they give it on that line
abbrev pub CommandIsGiven : Type 0
CommandIsGiven = (p q : Reading) (n size : ℕ) (c : Command) → HoldsLine p n size → Passes p n size ACommand c q → GivesFirst p (Ok (Some c)) (following p (take n p.rest) size)

-- a line that is seen to be refused is the first that is
abbrev pub RefusalIsGiven : Type 0
RefusalIsGiven = (p q : Reading) (n size : ℕ) (c : Command) → HoldsLine p n size → Passes p n size Refused c q
    → GivesFirst p (Err BadLine) (at_stage (following p (take n p.rest) size) Failed)

-- what is held is what a call gives, unless the source fails, and it reads no further; more may be taken
abbrev pub HeldIsGiven : Type 0
HeldIsGiven = (p q new : Reading) (left left' : Option (List ℕ)) (r s : Answer) → GivesFirst p r q → r ≢ Err ReadFault
    → Advances p new left left' s → s ≢ Ok None → s ≢ Err ReadFault → (s ≡ r) × (taken : List ℕ) × (new ≡ with_taken q taken new.whole)
