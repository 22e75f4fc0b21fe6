-- What the tape subunit answers to a command, and what a command leaves of it.
use Rattle.std.specs.Prelude.{ℕ, ◌==◌, ◌&&◌, ◌++◌, Bool, ◌∷◌, drop, Option, Some, None, is_some, if◌then◌else◌}
use Rattle.fw_fcp.specs.declared.frame.Frame.{Frame}
use Rattle.fw_fcp.specs.Tables.{row_of, has_opcode, is_padding}
use Rattle.fw_tape.specs.declared.cassette.Cassette.{Cassette}
use Rattle.fw_tape.specs.declared.transport.Transport.{Transport}
use Rattle.fw_tape.specs.declared.row.TapeRow.{TapeRow}
use Rattle.fw_tape.specs.declared.row.TapeRow.TheVariants.{Eject, Enter, TransportState, TimeCode}
use Rattle.fw_tape.specs.Transports.{codes_of}
use Rattle.fw_tape.specs.Motion.{entered, frame_of, transport_of}
use Rattle.fw_tape.specs.TimeCodes.{time_code}
use Rattle.fw_tape.specs.Rows.{control_rows, rows_of}

-- a response that repeats the command
abbrev pub repeated : Frame → ℕ → Frame
repeated f code = record f { code = code }

-- an inquiry is answered IMPLEMENTED if what it asks for is a row, else NOT IMPLEMENTED
abbrev pub inquired : Frame → Bool → Frame
inquired f found = repeated f (if found then 0xC else 8)

-- the state of the transport, in the place of the row's opcode and operand
abbrev pub state_response : Frame → ℕ → Transport → Frame
state_response f code t = record f { code = code; opcode = (codes_of t).0; operands = (codes_of t).1 ∷ drop 1 f.operands }

-- the time code of the frame at which the tape stands, after the row's first operand
abbrev pub time_response : Frame → Cassette → Frame
time_response f c = record f { code = 0xC; operands = (0x71 ∷ time_code c.system (frame_of c)) ++ drop 5 f.operands }

-- what a control or status command is answered, by its row: without a row NOT IMPLEMENTED, and without a tape REJECTED
-- if the row asks for one
abbrev pub row_response : Option Cassette → Frame → Option TapeRow → Frame
row_response t f None = repeated f 8
row_response t f (Some TransportState) = state_response f 0xC (transport_of t)
row_response (Some c) f (Some TimeCode) = time_response f c
row_response (Some c) f (Some Eject) = repeated f 9
row_response (Some c) f (Some (Enter transport)) = repeated f 9
row_response None f (Some row) = repeated f 0xA

-- what a frame is answered: a specific inquiry is read as the control command, and a general inquiry has no operands
abbrev pub response : Option Cassette → Frame → Frame
response t f =
    if f.code == 2 then inquired f (is_some (row_of control_rows f.opcode f.operands))
    else if f.code == 4 then inquired f (has_opcode control_rows f.opcode && is_padding f.operands)
    else row_response t f (row_of (rows_of f.code) f.opcode f.operands)

-- what a control command leaves of the tape, by its row
abbrev pub row_after : Option Cassette → Option TapeRow → Option Cassette
row_after (Some c) (Some Eject) = None
row_after (Some c) (Some (Enter transport)) = Some (entered transport c)
row_after t _ = t

-- what a frame leaves of the tape: only a control command changes it
abbrev pub tape_after : Option Cassette → Frame → Option Cassette
tape_after t f = if f.code == 0 then row_after t (row_of control_rows f.opcode f.operands) else t
