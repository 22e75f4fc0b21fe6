-- The words of a script's lines (own).
use Rattle.std.specs.Prelude.{ℕ, ◌==◌, ◌&&◌, ◌||◌, not, nat_le, List, [], ◌∷◌, length, slice_index, Bool, true, codes, Option, Some, None, Result, Ok, Err, if◌then◌else◌}
use Rattle.std.specs.List.{list_all}
use Rattle.std.specs.Option.{option_map}
use Rattle.std.specs.Str.{bytes_eq}
use Rattle.std.specs.Char.{is_ascii_digit, is_ascii_lowercase}
use Rattle.std.specs.Str.Parse.{digits_value}
use Rattle.std.specs.Int.{from_be_bytes, w16, w32}
use Rattle.fw_terms.specs.Devices.{code_of, kind_named}
use Rattle.hex.specs.Hex.{decode_of, decode_sized}
use Rattle.hex.specs.declared.error.FromHexError.{FromHexError}
use Rattle.fw_script_command.specs.Pieces.{pieces}

-- the word is this text
abbrev pub is : List ℕ → List ℕ → Bool
is text w = bytes_eq w text

-- the value, if the test holds
abbrev pub only_if : {A : Type 0} → Bool → A → Option A
only_if b x = if b then Some x else None

-- a to z and 0 to 9
abbrev pub is_name_byte : ℕ → Bool
is_name_byte b = is_ascii_lowercase b || is_ascii_digit b

-- three words that name no device
abbrev pub is_taken : List ℕ → Bool
is_taken w = is (codes "manager") w || is (codes "any") w || is (codes "late") w

-- NAME: 1 to 16 letters and digits, the first a letter, and none of three words
abbrev pub is_name : List ℕ → Bool
is_name w = nat_le 1 (length w) && nat_le (length w) 16 && is_ascii_lowercase (slice_index w 0) && list_all is_name_byte w && not (is_taken w)

-- the name that the word is
abbrev pub name_in : List ℕ → Option (List ℕ)
name_in w = only_if (is_name w) w

-- decimal digits without a leading zero
abbrev pub is_decimal : List ℕ → Bool
is_decimal w = nat_le 1 (length w) && list_all is_ascii_digit w && (nat_le (length w) 1 || not (slice_index w 0 == 48))

-- a number in a range
abbrev pub number_in : ℕ → ℕ → List ℕ → Option ℕ
number_in low high w = only_if (is_decimal w && nat_le low (digits_value 10 w) && nat_le (digits_value 10 w) high) (digits_value 10 w)

-- the meaning of the word: that of the first row with this text
abbrev pub meaning_in : {A : Type 0} → List (List ℕ × A) → List ℕ → Option A
meaning_in [] w = None
meaning_in (row ∷ rows) w = if is row.0 w then Some row.1 else meaning_in rows w

-- KIND: the code of the kind with this name
abbrev pub kind_in : List ℕ → Option ℕ
kind_in w = option_map code_of (kind_named w)

-- SPEED in Mbit/s: its code
abbrev pub speed_in : List ℕ → Option ℕ
speed_in w = meaning_in ((codes "100", 0) ∷ (codes "200", 1) ∷ (codes "400", 2) ∷ []) w

-- SYSTEM: the number of lines of a frame
abbrev pub system_in : List ℕ → Option ℕ
system_in w = meaning_in ((codes "525", 525) ∷ (codes "625", 625) ∷ []) w

-- the word `late`
abbrev pub late_in : List ℕ → Option Bool
late_in w = only_if (is (codes "late") w) true

-- the value is one of the possible ones
abbrev pub some_in : {A : Type 0} → Option A → Option (Option A)
some_in (Some x) = Some (Some x)
some_in None = None

-- CHANNEL: none for `any`
abbrev pub channel_in : List ℕ → Option (Option ℕ)
channel_in w = if is (codes "any") w then Some None else some_in (number_in 0 63 w)

-- a name whose register is shown: none for `manager`
abbrev pub shown_in : List ℕ → Option (Option (List ℕ))
shown_in w = if is (codes "manager") w then Some None else some_in (name_in w)

-- both values, if both are there
abbrev pub both : Option (List ℕ) → Option ℕ → Option (List ℕ × ℕ)
both (Some name) (Some n) = Some (name, n)
both (Some name) None = None
both None n = None

-- a name and a number up to a limit
abbrev pub place_by : ℕ → List (List ℕ) → Option (List ℕ × ℕ)
place_by high [] = None
place_by high (name ∷ []) = None
place_by high (name ∷ number ∷ []) = both (name_in name) (number_in 0 high number)
place_by high (name ∷ number ∷ w ∷ ws) = None

-- END and PLUG: a name and a number, separated by a full stop
abbrev pub place_in : ℕ → List ℕ → Option (List ℕ × ℕ)
place_in high w = place_by high (pieces 46 w)

-- what the bytes say, or none if the digits are not read
abbrev pub or_none : {A : Type 0} → (List ℕ → A) → Result (List ℕ) FromHexError → Option A
or_none f (Ok bytes) = Some (f bytes)
or_none f (Err e) = None

-- OFF: three hexadecimal digits
abbrev pub offset_in : List ℕ → Option ℕ
offset_in w = if length w == 3 then or_none (from_be_bytes w16) (decode_sized (48 ∷ w) 2) else None

-- WORD: eight hexadecimal digits
abbrev pub word_in : List ℕ → Option ℕ
word_in w = or_none (from_be_bytes w32) (decode_sized w 4)

-- HEX: 1 to 110 bytes, each two hexadecimal digits
abbrev pub frame_in : List ℕ → Option (List ℕ)
frame_in w = if nat_le 1 (length w) && nat_le (length w) 220 then or_none (λ bytes. bytes) (decode_of w) else None
