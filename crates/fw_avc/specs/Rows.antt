-- The unit's table of commands (AV/C General 3.0, unit commands, in this profile).
use Rattle.std.specs.Prelude.{◌≡◌, ◌≢◌, ℕ, List, [], ◌∷◌, ◌==◌, true, false, if◌then◌else◌}
use Rattle.fw_fcp.specs.Tables.{Pattern, End, Rest, OneOf, Any, Row}
use Rattle.fw_avc.specs.declared.row.UnitRow.{UnitRow}
use Rattle.fw_avc.specs.declared.row.UnitRow.TheVariants.{UnitInfo, SubunitInfo, PlugInfo, SetPower, PowerState, VendorDependent}

-- one byte, and then more
abbrev pub byte : ℕ → Pattern → Pattern
byte b more = OneOf (b ∷ []) more

-- four bytes of any value
abbrev pub any_four : Pattern
any_four = Any (Any (Any (Any End)))

-- page 0 to 7 of the table of subunits, and the extension code 7
abbrev pub pages : List ℕ
pages = 0x07 ∷ 0x17 ∷ 0x27 ∷ 0x37 ∷ 0x47 ∷ 0x57 ∷ 0x67 ∷ 0x77 ∷ []

-- a row of the table
abbrev pub row : ℕ → Pattern → UnitRow → Row UnitRow
row opcode operands meaning = record { opcode = opcode; operands = operands; meaning = meaning }

-- the CONTROL commands of the unit
abbrev pub control_rows : List (Row UnitRow)
control_rows =
    row 0xB2 (byte 0x70 End) (SetPower true)
    ∷ row 0xB2 (byte 0x60 End) (SetPower false)
    ∷ row 0x00 (byte 0xA0 (byte 0xB0 (byte 0xC0 Rest))) VendorDependent
    ∷ []

-- the STATUS commands of the unit
abbrev pub status_rows : List (Row UnitRow)
status_rows =
    row 0x30 (Any any_four) UnitInfo
    ∷ row 0x31 (OneOf pages any_four) SubunitInfo
    ∷ row 0x02 (byte 0x00 any_four) PlugInfo
    ∷ row 0xB2 (byte 0x7F End) PowerState
    ∷ []

-- the NOTIFY commands of the unit
abbrev pub notify_rows : List (Row UnitRow)
notify_rows = row 0xB2 (byte 0x7F End) PowerState ∷ []

-- the rows of a command type
abbrev pub rows_of : ℕ → List (Row UnitRow)
rows_of code = if code == 0 then control_rows else if code == 1 then status_rows else if code == 3 then notify_rows else []

-- how many operands a row has at least
abbrev pub operands_of : UnitRow → ℕ
operands_of UnitInfo = 5
operands_of SubunitInfo = 5
operands_of PlugInfo = 5
operands_of (SetPower on) = 1
operands_of PowerState = 1
operands_of VendorDependent = 3

-- the command types of a row
abbrev pub IsOfType : ℕ → UnitRow → Type 0
IsOfType code UnitInfo = code ≡ 1
IsOfType code SubunitInfo = code ≡ 1
IsOfType code PlugInfo = code ≡ 1
IsOfType code (SetPower on) = code ≡ 0
IsOfType code PowerState = code ≢ 0
IsOfType code VendorDependent = code ≡ 0
