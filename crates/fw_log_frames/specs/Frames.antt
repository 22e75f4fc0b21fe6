-- The frames that are written to FCP_COMMAND and FCP_RESPONSE in words (own; IEC 61883-1, 9; AV/C General 3.0, frames).
use Rattle.std.specs.Prelude.{ℕ, ◌/◌, ◌%◌, ◌==◌, ◌&&◌, ◌||◌, not, nat_le, nat_lt, Bool, List, [], ◌∷◌, ◌++◌, ◌+◌, length, drop, slice_index, codes, decimal, Option, Some, None, if◌then◌else◌}
use Rattle.std.specs.Option.{is_some}
use Rattle.fw_text.specs.Digits.{byte_digits}
use Rattle.fw_text.specs.Texts.{blank_hex, named}
use Rattle.fw_log_frames.specs.declared.operands.OperandRow.{OperandRow}
use Rattle.fw_log_frames.specs.declared.operands.OperandRow.TheVariants.{TimeCode, Company, Plugs, UnitInfo, Page, Word}
use Rattle.fw_log_frames.specs.Names.{code_name, subunit_name, tape_opcode_name, opcode_name, tape_operand_name, operand_name}

-- an operand in two digits
unfoldable pub operand : List ℕ → ℕ → List ℕ
operand operands n = byte_digits (slice_index operands n)

-- words for the first operands, and those after them in digits
unfoldable pub operands_as : List ℕ → ℕ → List ℕ → List ℕ
operands_as words takes operands = codes " " ++ words ++ blank_hex (drop takes operands)

-- a time code: hours, minutes, seconds and frames, which stand the other way round
abbrev pub time_code : List ℕ → List ℕ
time_code operands = operand operands 4 ++ codes ":" ++ operand operands 3 ++ codes ":" ++ operand operands 2 ++ codes ":" ++ operand operands 1

-- three operands from the n-th on: a company
abbrev pub company : List ℕ → ℕ → List ℕ
company operands n = codes "company " ++ operand operands n ++ operand operands (n + 1) ++ operand operands (n + 2)

-- the operands of PLUG INFO: the numbers of input and output plugs
abbrev pub plugs : List ℕ → List ℕ
plugs operands = codes "inputs " ++ operand operands 1 ++ codes " outputs " ++ operand operands 2

-- the operands of UNIT INFO: the unit's type and company
abbrev pub unit_info : List ℕ → List ℕ
unit_info operands = codes "type " ++ operand operands 1 ++ codes " " ++ company operands 2

-- how many operands a row takes
abbrev pub takes : OperandRow → ℕ
takes TimeCode = 5
takes Company = 3
takes Plugs = 3
takes UnitInfo = 5
takes Page = 1
takes Word = 0

-- the row of the operands of the tape subunit's opcodes: of an absolute time code, or of a word
abbrev pub tape_row : ℕ → List ℕ → OperandRow
tape_row opcode operands = if (opcode == 0x51) && nat_le 5 (length operands) && (slice_index operands 0 == 0x71) then TimeCode else Word

-- the row of the operands of the opcodes of every address: VENDOR DEPENDENT, PLUG INFO of the serial bus, UNIT INFO, SUBUNIT INFO, or of a word
abbrev pub general_row : ℕ → List ℕ → OperandRow
general_row opcode operands =
    if (opcode == 0x00) && nat_le 3 (length operands) then Company
    else if (opcode == 0x02) && nat_le 3 (length operands) && (slice_index operands 0 == 0x00) then Plugs
    else if (opcode == 0x30) && nat_le 5 (length operands) then UnitInfo
    else if (opcode == 0x31) && nat_le 1 (length operands) then Page
    else Word

-- the word for the first operand, if it has one
abbrev pub first_name : (ℕ → Option (List ℕ)) → List ℕ → Option (List ℕ)
first_name table [] = None
first_name table (first ∷ rest) = table first

-- the first operand by its word, and the others as bytes
abbrev pub first_text : Option (List ℕ) → List ℕ → List ℕ
first_text name [] = []
first_text None (first ∷ rest) = blank_hex (first ∷ rest)
first_text (Some name) (first ∷ rest) = codes " " ++ name ++ blank_hex rest

-- operands by their row, with the word for the first
abbrev pub row_text : OperandRow → Option (List ℕ) → List ℕ → List ℕ
row_text TimeCode name operands = operands_as (time_code operands) 5 operands
row_text Company name operands = operands_as (company operands 0) 3 operands
row_text Plugs name operands = operands_as (plugs operands) 3 operands
row_text UnitInfo name operands = operands_as (unit_info operands) 5 operands
row_text Page name operands = operands_as (codes "page " ++ operand operands 0) 1 operands
row_text Word name operands = first_text name operands

-- the operands of the tape subunit's opcodes
abbrev pub tape_operands : ℕ → List ℕ → List ℕ
tape_operands opcode operands = row_text (tape_row opcode operands) (first_name (tape_operand_name opcode) operands) operands

-- the operands of the opcodes of every address
abbrev pub general_operands : ℕ → List ℕ → List ℕ
general_operands opcode operands = row_text (general_row opcode operands) (first_name (operand_name opcode) operands) operands

-- the opcode is one of the tape subunit's own
abbrev pub is_tape : ℕ → ℕ → Bool
is_tape kind opcode = (kind == 4) && is_some (tape_opcode_name opcode)

-- the name of an opcode, or its digits
abbrev pub opcode_or : Option (List ℕ) → ℕ → List ℕ
opcode_or (Some name) opcode = name
opcode_or None opcode = codes "opcode " ++ byte_digits opcode

-- an opcode of the tape subunit's own, and its operands
abbrev pub tape_text : ℕ → List ℕ → List ℕ
tape_text opcode operands = opcode_or (tape_opcode_name opcode) opcode ++ tape_operands opcode operands

-- an opcode of every address, and its operands
abbrev pub general_text : ℕ → List ℕ → List ℕ
general_text opcode operands = opcode_or (opcode_name opcode) opcode ++ general_operands opcode operands

-- an opcode to a subunit of this type, and its operands
unfoldable pub command_text : ℕ → ℕ → List ℕ → List ℕ
command_text kind opcode operands = if is_tape kind opcode then tape_text opcode operands else general_text opcode operands

-- the unit itself, or a subunit by its type and its number
unfoldable pub address_text : ℕ → List ℕ
address_text address =
    if address == 0xFF then codes "unit"
    else named (subunit_name (address / 8)) (codes "type") (address / 8) ++ codes " subunit " ++ decimal (address % 8)

-- the address goes on in the bytes after it
abbrev pub is_extended : ℕ → Bool
is_extended address = not (address == 0xFF) && ((address / 8 == 0x1E) || (address % 8 == 5))

-- a command type or response code
abbrev pub code_text : ℕ → List ℕ
code_text code = named (code_name code) (codes "code") code

-- an address that goes on, with all that stands after it
abbrev pub extended_text : List ℕ → List ℕ
extended_text bytes = codes " extended address" ++ blank_hex (drop 1 bytes)

-- an address, an opcode, and its operands
abbrev pub short_text : List ℕ → List ℕ
short_text bytes = codes " " ++ address_text (slice_index bytes 1) ++ codes " " ++ command_text (slice_index bytes 1 / 8) (slice_index bytes 2) (drop 3 bytes)

-- what stands after the code of a frame
unfoldable pub addressed_text : List ℕ → List ℕ
addressed_text bytes = if is_extended (slice_index bytes 1) then extended_text bytes else short_text bytes

-- a frame: AV/C, its code, its address, its opcode and its operands; or bytes that are no AV/C frame
unfoldable pub frame_text : List ℕ → List ℕ
frame_text bytes =
    if nat_lt (length bytes) 3 || nat_le 16 (slice_index bytes 0) then codes " not AV/C" ++ blank_hex bytes
    else codes " AV/C " ++ code_text (slice_index bytes 0) ++ addressed_text bytes
