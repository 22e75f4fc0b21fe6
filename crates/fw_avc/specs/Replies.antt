-- What a unit answers to a command frame: the first rule that holds, and then the row of the table.
use Rattle.std.specs.Prelude.{◌≡◌, ℕ, ◌==◌, ◌&&◌, ◌||◌, ◌++◌, Bool, true, false, not, List, [], ◌∷◌, length, drop, slice_index, Option, Some, None, is_some, is_none, if◌then◌else◌}
use Rattle.std.specs.Option.{option_map}
use Rattle.fw_fcp.specs.declared.frame.Frame.{Frame}
use Rattle.fw_fcp.specs.Tables.{row_of, has_opcode, is_padding}
use Rattle.fw_tape.specs.Desks.{VendorRelation}
use Rattle.fw_tape.specs.declared.row.TapeRow.{TapeRow}
use Rattle.fw_tape.specs.declared.row.TapeRow.TheVariants.{Eject, Enter, TransportState, TimeCode}
use Rattle.fw_tape.specs.declared.cassette.Cassette.{Cassette}
use Rattle.fw_tape.specs.Motion.{frame_of, transport_of}
use Rattle.fw_tape.specs.TimeCodes.{time_code}
use Rattle.fw_tape.specs.Commands.{row_after}
use Rattle.fw_tape.specs.Rows as TapeRows
use Rattle.fw_avc.specs.declared.row.UnitRow.{UnitRow}
use Rattle.fw_avc.specs.declared.row.UnitRow.TheVariants.{UnitInfo, SubunitInfo, PlugInfo, SetPower, PowerState, VendorDependent}
use Rattle.fw_avc.specs.declared.notify.Watched.{Watched}
use Rattle.fw_avc.specs.declared.notify.Watched.TheVariants.{Power, Transport}
use Rattle.fw_avc.specs.Rows as UnitRows
use Rattle.fw_avc.specs.State.{UnitState, now_of, with_power, with_kept}
use Rattle.fw_avc.specs.Watched.{codes_of}

-- a row of the unit's own table or of its tape subunit's
pub data TableRow : Type 0 where
  OfUnit : UnitRow → TableRow
  OfTape : TapeRow → TableRow

-- the address of the unit
abbrev pub is_unit : Frame → Bool
is_unit f = (f.kind == 31) && (f.id == 7)

-- the address of the tape subunit
abbrev pub is_tape : Frame → Bool
is_tape f = (f.kind == 4) && (f.id == 0)

-- the row that the frame is at its address, read as a command of this type
abbrev pub row_as : ℕ → Frame → Option TableRow
row_as code f =
    if is_unit f then option_map OfUnit (row_of (UnitRows.rows_of code) f.opcode f.operands)
    else if is_tape f then option_map OfTape (row_of (TapeRows.rows_of code) f.opcode f.operands)
    else None

-- some control command has the frame's opcode at its address
abbrev pub is_controlled : Frame → Bool
is_controlled f = if is_unit f then has_opcode UnitRows.control_rows f.opcode else has_opcode TapeRows.control_rows f.opcode

-- no operands, but for the zeros by which a frame may be longer; all operands of opcode 0 count
abbrev pub is_bare : Frame → Bool
is_bare f = if f.opcode == 0 then length f.operands == 0 else is_padding f.operands

-- a row that is there only with a tape
abbrev pub needs_tape : TableRow → Bool
needs_tape (OfTape TransportState) = false
needs_tape (OfTape row) = true
needs_tape (OfUnit row) = false

-- what becomes of a frame: a response with this code that repeats it, and nothing else; or its row is carried out
pub data Ruling : Type 0 where
  Repeat : ℕ → Ruling
  CarryOut : TableRow → Ruling

-- what becomes of a frame that is a row: REJECTED to the tape subunit without power, without a tape that the row asks for,
-- and to a NOTIFY request when four are kept
abbrev pub row_ruling : UnitState → Frame → TableRow → Ruling
row_ruling u f row =
    if is_tape f && not u.power then Repeat 0xA
    else if needs_tape row && is_none u.tape then Repeat 0xA
    else if (f.code == 3) && (length u.kept == 4) then Repeat 0xA
    else CarryOut row

-- NOT IMPLEMENTED without a row
abbrev pub found_ruling : UnitState → Frame → Option TableRow → Ruling
found_ruling u f None = Repeat 8
found_ruling u f (Some row) = row_ruling u f row

-- the rules, of which the first decides that holds: another address; a specific inquiry, which is read as the control
-- command that it asks for; a general inquiry, which has an opcode alone; and then a command with its row
abbrev pub ruling : UnitState → Frame → Ruling
ruling u f =
    if not (is_unit f || is_tape f) then Repeat 8
    else if f.code == 2 then Repeat (if is_some (row_as 0 f) then 0xC else 8)
    else if f.code == 4 then Repeat (if is_controlled f && is_bare f then 0xC else 8)
    else found_ruling u f (row_as f.code f)

-- STABLE: the first operands become these values, and the others stay
abbrev pub shows : Frame → List ℕ → Frame
shows f values = record f { code = 0xC; operands = values ++ drop (length values) f.operands }

-- a state in the place of opcode and operand, STABLE to a status command and INTERIM to a NOTIFY request
abbrev pub shows_state : Frame → Watched → Frame
shows_state f value = record f { code = if f.code == 3 then 0xF else 0xC; opcode = (codes_of value).0; operands = (codes_of value).1 ∷ drop 1 f.operands }

-- page p of the table of subunits: the tape subunit stands on page 0
abbrev pub subunits : ℕ → List ℕ
subunits page = page ∷ (if page == 0x07 then 0x20 else 0xFF) ∷ 0xFF ∷ 0xFF ∷ 0xFF ∷ []

-- the unit's company, an invented one (own)
abbrev pub company : ℕ
company = 0xA0B0C0

-- the vendor's relation allows each byte for the one in its place
abbrev pub Makes : VendorRelation → List ℕ → List ℕ → Type 0
Makes V [] [] = Unit {0}
Makes V (b ∷ bs) (c ∷ cs) = V company b c × Makes V bs cs
Makes V _ _ = ⊥

-- the response to a row of the vendor: after the company, what the vendor makes of each byte
pub record IsVendorResponse (V : VendorRelation) (f r : Frame) : Type 0 where
  pub bytes : List ℕ
  pub made : Makes V (drop 3 f.operands) bytes
  pub frame : r ≡ record f { code = 9; operands = 0xA0 ∷ 0xB0 ∷ 0xC0 ∷ bytes }

-- the time code of the frame at which a tape stands
abbrev pub time_of : Option Cassette → List ℕ
time_of None = []
time_of (Some c) = time_code c.system (frame_of c)

-- the response to a frame whose row is carried out
abbrev pub IsRowResponse : VendorRelation → UnitState → Frame → TableRow → Frame → Type 0
IsRowResponse V u f (OfUnit UnitInfo) r = r ≡ shows f (0x07 ∷ 0x20 ∷ 0xA0 ∷ 0xB0 ∷ 0xC0 ∷ [])
IsRowResponse V u f (OfUnit SubunitInfo) r = r ≡ shows f (subunits (slice_index f.operands 0))
IsRowResponse V u f (OfUnit PlugInfo) r = r ≡ shows f (0x00 ∷ u.inputs ∷ u.outputs ∷ 0x00 ∷ 0x00 ∷ [])
IsRowResponse V u f (OfUnit (SetPower on)) r = r ≡ record f { code = 9 }
IsRowResponse V u f (OfUnit PowerState) r = r ≡ shows_state f (now_of u (Power true))
IsRowResponse V u f (OfUnit VendorDependent) r = IsVendorResponse V f r
IsRowResponse V u f (OfTape TransportState) r = r ≡ shows_state f (Transport (transport_of u.tape))
IsRowResponse V u f (OfTape TimeCode) r = r ≡ shows f (0x71 ∷ time_of u.tape)
IsRowResponse V u f (OfTape Eject) r = r ≡ record f { code = 9 }
IsRowResponse V u f (OfTape (Enter transport)) r = r ≡ record f { code = 9 }

-- the response to a command: it is repeated with a response code, or its row of the table is carried out
abbrev pub IsResponse : VendorRelation → UnitState → Frame → Ruling → Frame → Type 0
IsResponse V u f (Repeat code) r = r ≡ record f { code = code }
IsResponse V u f (CarryOut row) r = IsRowResponse V u f row r

-- a NOTIFY request is kept, with the value that its response shows; a status command changes nothing
abbrev pub asked : UnitState → ℕ → Frame → Watched → UnitState
asked u from f value = if f.code == 3 then with_kept from value u else u

-- the unit after a row was carried out
abbrev pub row_state : UnitState → ℕ → Frame → TableRow → UnitState
row_state u from f (OfUnit (SetPower on)) = with_power on u
row_state u from f (OfUnit PowerState) = asked u from f (Power u.power)
row_state u from f (OfUnit row) = u
row_state u from f (OfTape TransportState) = asked u from f (Transport (transport_of u.tape))
row_state u from f (OfTape row) = record u { tape = row_after u.tape (Some row) }

-- the unit after a frame from a node
abbrev pub state_after : UnitState → ℕ → Frame → Ruling → UnitState
state_after u from f (Repeat code) = u
state_after u from f (CarryOut row) = row_state u from f row

-- the unit after a command frame from a node
abbrev pub unit_after : UnitState → ℕ → Frame → UnitState
unit_after u from f = state_after u from f (ruling u f)
