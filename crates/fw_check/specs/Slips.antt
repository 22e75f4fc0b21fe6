-- Slips of a line, which are told before its words are looked at. Columns count bytes, from 1.
use Rattle.std.specs.Prelude.{ℕ, ◌+◌, ◌-◌, ◌/◌, ◌%◌, ◌==◌, ◌&&◌, not, nat_lt, nat_eq, List, [], ◌∷◌, ◌++◌, length, position, slice_index, codes, decimal, Bool, false, Option, Some, None}
use Rattle.std.specs.Prelude.{if◌then◌else◌}
use Rattle.std.specs.List.{list_all, starts_with}
use Rattle.std.specs.Option.{option_map}
use Rattle.fw_check.specs.Shown.{is_printable}
use Rattle.fw_check.specs.declared.slip.Slip.{Slip}
use Rattle.fw_check.specs.declared.slip.Slip.TheVariants.{ByteOrderMark, CarriageReturn, Tab, OtherByte, SpacesAlone, SpaceBefore, TwoSpaces, SpaceAfter, FollowingEnd}

-- the last byte is this one
abbrev pub ends_with_byte : ℕ → List ℕ → Bool
ends_with_byte b xs = nat_lt 0 (length xs) && (slice_index xs (length xs - 1) == b)

-- the first byte is this one
abbrev pub begins_with_byte : ℕ → List ℕ → Bool
begins_with_byte b [] = false
begins_with_byte b (x ∷ xs) = x == b

-- a mark at the beginning, or a carriage return at the end
abbrev pub mark_slip : List ℕ → Option Slip
mark_slip line = if starts_with nat_eq line (239 ∷ 187 ∷ 191 ∷ []) then Some ByteOrderMark else if ends_with_byte 13 line then Some CarriageReturn else None

-- a byte that is not printable
abbrev pub byte_at : List ℕ → ℕ → Slip
byte_at line k = if slice_index line k == 9 then Tab (k + 1) else OtherByte (slice_index line k) (k + 1)

-- the first byte that is not printable
abbrev pub byte_slip : List ℕ → Option Slip
byte_slip line = option_map (byte_at line) (position (λ b. not (is_printable b)) line)

abbrev pub is_space : ℕ → Bool
is_space b = b == 32

-- if two spaces stand for the first time, unless nothing but spaces follows
abbrev pub two_spaces : List ℕ → Option ℕ
two_spaces [] = None
two_spaces (b ∷ bs) =
    if is_space b && begins_with_byte 32 bs then (if list_all is_space bs then None else Some 0)
    else option_map (λ k. k + 1) (two_spaces bs)

-- two spaces at a place, or a space at the end
abbrev pub late_space : List ℕ → Option ℕ → Option Slip
late_space line (Some k) = Some (TwoSpaces (k + 1))
late_space line None = if ends_with_byte 32 line then Some SpaceAfter else None

-- spaces that separate no two words
abbrev pub space_slip : List ℕ → Option Slip
space_slip line =
    if list_all is_space line then Some SpacesAlone
    else if begins_with_byte 32 line then Some SpaceBefore
    else late_space line (two_spaces line)

-- the line stands after `end`, which is on the line with this number, 0 if it was not read
abbrev pub end_slip : ℕ → Option Slip
end_slip end = if end == 0 then None else Some (FollowingEnd end)

-- the first slip, or that of the rest
abbrev pub or_slip : Option Slip → Option Slip → Option Slip
or_slip (Some slip) rest = Some slip
or_slip None rest = rest

-- the first slip of a line
abbrev pub slip_of : List ℕ → ℕ → Option Slip
slip_of line end = or_slip (mark_slip line) (or_slip (byte_slip line) (or_slip (space_slip line) (end_slip end)))

-- an upper-case hexadecimal digit
abbrev pub upper_digit : ℕ → ℕ
upper_digit n = if nat_lt n 10 then 48 + n else 55 + n

-- a byte in two digits
abbrev pub byte_text : ℕ → List ℕ
byte_text byte = upper_digit (byte / 16) ∷ upper_digit (byte % 16) ∷ []

-- what is told of a slip
abbrev pub slip_text : Slip → List ℕ
slip_text ByteOrderMark = codes "a byte order mark (EF BB BF) stands before the first word"
slip_text CarriageReturn = codes "the line ends with CR LF; lines end with LF alone"
slip_text (Tab column) = codes "a tab at column " ++ decimal column ++ codes "; words are parted by one space"
slip_text (OtherByte byte column) = codes "the byte " ++ byte_text byte ++ codes " at column " ++ decimal column ++ codes "; words are of printable ASCII"
slip_text SpacesAlone = codes "spaces alone; an empty line has none"
slip_text SpaceBefore = codes "a space before the first word"
slip_text (TwoSpaces column) = codes "two spaces at column " ++ decimal column ++ codes "; words are parted by one"
slip_text SpaceAfter = codes "a space behind the last word"
slip_text (FollowingEnd line) = codes "it stands behind `end` of line " ++ decimal line ++ codes "; only empty lines and comments may follow"
