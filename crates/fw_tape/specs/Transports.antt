-- The states of the transport, by the commands that enter them (AV/C Tape Recorder/Player Subunit 2.1).
use Rattle.std.specs.Prelude.{ℕ, ◌==◌, ◌&&◌, Bool, Option, Some, None}
use Rattle.fw_tape.specs.declared.transport.Transport.{Transport}
use Rattle.fw_tape.specs.declared.transport.Transport.TheVariants.{Stop, Rewind, FastForward, Play, PlayPause, Reverse, ReversePause, Record, RecordPause}
use Rattle.fw_tape.specs.declared.transport.Direction.{Direction}
use Rattle.fw_tape.specs.declared.transport.Direction.TheVariants.{Forward, Backward}

-- opcode and operand
abbrev pub codes_of : Transport → ℕ × ℕ
codes_of Stop = (0xC4, 0x60)
codes_of Rewind = (0xC4, 0x65)
codes_of FastForward = (0xC4, 0x75)
codes_of Play = (0xC3, 0x75)
codes_of PlayPause = (0xC3, 0x7D)
codes_of Reverse = (0xC3, 0x65)
codes_of ReversePause = (0xC3, 0x6D)
codes_of Record = (0xC2, 0x75)
codes_of RecordPause = (0xC2, 0x7D)

-- states with the same codes are the same
abbrev pub same_state : Transport → Transport → Bool
same_state t u = ((codes_of t).0 == (codes_of u).0) && ((codes_of t).1 == (codes_of u).1)

-- play and record move the tape forward, reverse play moves it back, and all else holds it
abbrev pub direction_of : Transport → Option Direction
direction_of Play = Some Forward
direction_of Record = Some Forward
direction_of Reverse = Some Backward
direction_of _ = None
