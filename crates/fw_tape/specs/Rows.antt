-- The tape subunit's table of commands (AV/C Tape Recorder/Player Subunit 2.1, in this profile).
use Rattle.std.specs.Prelude.{ℕ, List, [], ◌∷◌, ◌==◌, if◌then◌else◌}
use Rattle.fw_fcp.specs.Tables.{Pattern, End, OneOf, Any, Row}
use Rattle.fw_tape.specs.declared.transport.Transport.TheVariants.{Stop, Rewind, FastForward, Play, PlayPause, Reverse, ReversePause, Record, RecordPause}
use Rattle.fw_tape.specs.declared.row.TapeRow.{TapeRow}
use Rattle.fw_tape.specs.declared.row.TapeRow.TheVariants.{Eject, Enter, TransportState, TimeCode}

-- one byte
abbrev pub only : ℕ → Pattern
only b = OneOf (b ∷ []) End

-- a row of the table
abbrev pub row : ℕ → Pattern → TapeRow → Row TapeRow
row opcode operands meaning = record { opcode = opcode; operands = operands; meaning = meaning }

-- the CONTROL commands of the tape subunit
abbrev pub control_rows : List (Row TapeRow)
control_rows =
    row 0xC1 (only 0x60) Eject
    ∷ row 0xC2 (only 0x75) (Enter Record)
    ∷ row 0xC2 (only 0x7D) (Enter RecordPause)
    ∷ row 0xC3 (only 0x75) (Enter Play)
    ∷ row 0xC3 (only 0x7D) (Enter PlayPause)
    ∷ row 0xC3 (only 0x65) (Enter Reverse)
    ∷ row 0xC3 (only 0x6D) (Enter ReversePause)
    ∷ row 0xC4 (only 0x60) (Enter Stop)
    ∷ row 0xC4 (only 0x65) (Enter Rewind)
    ∷ row 0xC4 (only 0x75) (Enter FastForward)
    ∷ []

-- the STATUS commands of the tape subunit
abbrev pub status_rows : List (Row TapeRow)
status_rows = row 0xD0 (only 0x7F) TransportState ∷ row 0x51 (OneOf (0x71 ∷ []) (Any (Any (Any (Any End))))) TimeCode ∷ []

-- the NOTIFY commands of the tape subunit
abbrev pub notify_rows : List (Row TapeRow)
notify_rows = row 0xD0 (only 0x7F) TransportState ∷ []

-- the rows of a command type
abbrev pub rows_of : ℕ → List (Row TapeRow)
rows_of code = if code == 0 then control_rows else if code == 1 then status_rows else if code == 3 then notify_rows else []
