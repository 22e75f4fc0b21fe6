-- The bytes of a read, of which a part is read at a time.
use Rattle.std.specs.Prelude.{ℕ, ◌+◌, ◌≤◌, List, [], ◌++◌, length, Option, Result, Ok, Err}
use Rattle.fw_outside.specs.Outside.{Takes}
use Rattle.fw_outside.specs.declared.stop.Stop.{Stop}
use Rattle.fw_outside.specs.declared.stop.Stop.TheVariants.{ReadFault, WriteFault, TooLong, NoMemory}
use Rattle.fw_log_entry.specs.declared.entry.Timed.{Timed}
use Rattle.fw_log.specs.Reader.{State}
use Rattle.fw_log_loop.specs.Readings.{Form, Rules, bare}
use Rattle.fw_log_loop.specs.Endings.{piece_size}
use Rattle.fw_log_loop.specs.Pieces.{DecodedTo, ReadsTo}
use Rattle.fw_log_loop.specs.declared.ending.LogEnding.{LogEnding}
use Rattle.fw_log_loop.specs.declared.ending.LogEnding.TheVariants.{Done, NoLog, Refused, Stopped}

-- All that came before the rest of the bytes of a read was read, and this many bytes more are read after that rest; the others follow it.
pub record PartsLeft (form : Form) (Took : List Timed → Type 0) (left left' held held' : Option (List ℕ)) (reader : State) (rest following : List ℕ) (room : ℕ) : Type 0 where
  pub mid : Option (List ℕ)
  pub decoded : DecodedTo form Took left mid held held' reader (room + length rest)
  pub takes : Takes mid left' (rest ++ following)
  pub few : length rest + length following ≤ piece_size

-- All of the bytes were read, and the others follow, or the ending says what was read of the log.
abbrev pub ReadsParts : {R : Type 0} → Form → Rules R → (List Timed → Type 0) → Option (List ℕ) → Option (List ℕ) → Option (List ℕ) → Option (List ℕ) → List ℕ → State → ℕ
    → Result (Unit {0}) (LogEnding R) → Type 0
ReadsParts form rules Took left left' held held' following reader room (Ok _) = PartsLeft form Took left left' held held' reader [] following room
ReadsParts form rules Took left left' held held' following reader room (Err ending) = ReadsTo (bare form) rules Took left left' held held' ending

-- the bytes of a read may end a call so
abbrev pub EndsWithin : {R : Type 0} → LogEnding R → Type 0
EndsWithin Done = ⊥
EndsWithin (NoLog fault) = Unit {0}
EndsWithin (Refused refusal) = Unit {0}
EndsWithin (Stopped ReadFault) = ⊥
EndsWithin (Stopped WriteFault) = Unit {0}
EndsWithin (Stopped TooLong) = ⊥
EndsWithin (Stopped NoMemory) = Unit {0}

-- why a call stops that was given no more bytes: no limit is met where they are asked for
abbrev pub unread : Stop → Stop
unread ReadFault = ReadFault
unread WriteFault = WriteFault
unread TooLong = NoMemory
unread NoMemory = NoMemory
