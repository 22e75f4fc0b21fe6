-- The names of AV/C frames (AV/C General 3.0; AV/C Tape Recorder/Player Subunit 2.1), by the tables of `src/names.rt`.
use Rattle.std.specs.Prelude.{ℕ, ◌+◌, ◌*◌, List, Option}
use Rattle.fw_text.specs.Names.{name_in, rows}
use Rattle.fw_log_frames.specs.declared.names.TheConstants.{CODES, SUBUNITS, TAPE_OPCODES, OPCODES, TAPE_OPERANDS, OPERANDS}

-- the name of a command type or response code; 5, 6, 7 and E hexadecimal have none
abbrev pub code_name : ℕ → Option (List ℕ)
code_name code = name_in (rows CODES) code

-- the name of a subunit_type
abbrev pub subunit_name : ℕ → Option (List ℕ)
subunit_name kind = name_in (rows SUBUNITS) kind

-- the name of an opcode that the tape subunit has of its own
abbrev pub tape_opcode_name : ℕ → Option (List ℕ)
tape_opcode_name opcode = name_in (rows TAPE_OPCODES) opcode

-- the name of an opcode of every address
abbrev pub opcode_name : ℕ → Option (List ℕ)
opcode_name opcode = name_in (rows OPCODES) opcode

-- what the first operand says to the tape subunit, or of it
abbrev pub tape_operand_name : ℕ → ℕ → Option (List ℕ)
tape_operand_name opcode operand = name_in (rows TAPE_OPERANDS) (256 * opcode + operand)

-- what the first operand says to every address, or of it
abbrev pub operand_name : ℕ → ℕ → Option (List ℕ)
operand_name opcode operand = name_in (rows OPERANDS) (256 * opcode + operand)
