-- What a sink that tells has read and told since a command began.
use Rattle.std.specs.Prelude.{◌≡◌, ℕ, ◌^◌, ◌-◌, ◌≤◌, Bool, true, false, List, [], ◌++◌, length, take, Option, Some, None, Result, Ok, Err, ⊤}
use Rattle.fw_log_entry.specs.declared.entry.Timed.{Timed}
use Rattle.fw_log.specs.History.{HasRead}
use Rattle.fw_log.specs.Reader.{State}
use Rattle.fw_trace_names.specs.CausedLines.{caused_text}
use Rattle.fw_trace_lines.specs.Caused.{entry_lines, telling_after}
use Rattle.fw_trace_lines.specs.Commands.{Traced, lines_from, telling_following}
use Rattle.fw_trace.specs.declared.lack.Lack.{Lack}
use Rattle.fw_trace.specs.declared.lack.Lack.TheVariants.{Memory, Sink}

-- Entries were read of a piece, as far as its first bytes, and their lines were added.
pub record TakesPart (entries : List Timed) (bytes part : List ℕ) (t t' : Traced) (reader' : State) : Type 0 where
  pub out : List Timed
  pub read : HasRead (entries ++ out) (bytes ++ part) reader'
  pub text : t'.text ≡ t.text ++ caused_text (lines_from t.telling out)
  pub kept : t'.telling ≡ telling_following t.telling out

-- The lines of an entry were added.
pub record TakesEntry (e : Timed) (t t' : Traced) : Type 0 where
  pub text : t'.text ≡ t.text ++ caused_text (entry_lines t.telling e)
  pub kept : t'.telling ≡ telling_after t.telling e

-- they were, unless memory ran out
abbrev pub PutsEntry : {E : Type 0} → Timed → Traced → Traced → Result (Unit {0}) E → Type 0
PutsEntry e t t' (Ok _) = TakesEntry e t t'
PutsEntry e t t' (Err _) = ⊤

-- the first so many bytes of a piece were read
abbrev pub TakesOne : {E : Type 0} → List Timed → List ℕ → List ℕ → Traced → Traced → State → Result ℕ E → Type 0
TakesOne entries bytes piece t t' reader' (Ok used) = TakesPart entries bytes (take used piece) t t' reader'
TakesOne entries bytes piece t t' reader' (Err _) = ⊤

-- so many of them were read, or none
abbrev pub TakesKnown : {E : Type 0} → List Timed → List ℕ → List ℕ → Traced → Traced → State → Result (Option ℕ) E → Type 0
TakesKnown entries bytes piece t t' reader' (Ok (Some used)) = TakesPart entries bytes (take used piece) t t' reader'
TakesKnown entries bytes piece t t' reader' (Ok None) = ⊤
TakesKnown entries bytes piece t t' reader' (Err _) = ⊤

-- a piece was read
abbrev pub TakesPiece : {E : Type 0} → List Timed → List ℕ → List ℕ → Traced → Traced → State → Result (Unit {0}) E → Type 0
TakesPiece entries bytes piece t t' reader' (Ok _) = TakesPart entries bytes piece t t' reader'
TakesPiece entries bytes piece t t' reader' (Err _) = ⊤

-- part way through a piece
pub record TakesSome (entries : List Timed) (bytes piece rest : List ℕ) (t t' : Traced) (reader' : State) : Type 0 where
  pub done : List ℕ
  pub parts : piece ≡ done ++ rest
  pub taken : TakesPart entries bytes done t t' reader'

-- All bytes were read, some of them before the command began; what was passed on and what is still to be is the text of the command's
-- entries, after what was to be passed on when it began. Before a byte of them is read nothing is passed on.
pub record Tells (origin now : Traced) (reader : State) (count : ℕ) (earlier bytes passed : List ℕ) : Type 0 where
  pub before : List Timed
  pub out : List Timed
  pub begun : State
  pub began : HasRead before earlier begun
  pub read : HasRead (before ++ out) bytes reader
  pub counted : count ≡ length bytes
  pub text : passed ++ now.text ≡ origin.text ++ caused_text (lines_from origin.telling out)
  pub kept : now.telling ≡ telling_following origin.telling out
  pub later : length earlier ≤ length bytes
  pub waits : bytes ≡ earlier → passed ≡ []

-- No more is told: some of the bytes were read, and what was passed on is a prefix of their text.
pub record ToldPart (origin : Traced) (earlier bytes passed : List ℕ) : Type 0 where
  pub before : List Timed
  pub out : List Timed
  pub begun : State
  pub began : HasRead before earlier begun
  pub prefix : List ℕ
  pub more : List ℕ
  pub last : State
  pub parts : bytes ≡ prefix ++ more
  pub read : HasRead (before ++ out) prefix last
  pub rest : List ℕ
  pub text : passed ++ rest ≡ origin.text ++ caused_text (lines_from origin.telling out)

-- by whether something lacks
abbrev pub TellsBy : Option Lack → Traced → Traced → State → ℕ → List ℕ → List ℕ → List ℕ → Type 0
TellsBy None origin now reader count earlier bytes passed = Tells origin now reader count earlier bytes passed
TellsBy (Some lack) origin now reader count earlier bytes passed = ToldPart origin earlier bytes passed

-- whether the sink that is written to failed
abbrev pub fails_by : Option Lack → Bool
fails_by None = false
fails_by (Some Memory) = false
fails_by (Some Sink) = true

-- how often a sink that tells has failed: it fails for good
abbrev pub faults_by : Option Lack → ℕ
faults_by None = 0
faults_by (Some lack) = 2 ^ 64 - 1
