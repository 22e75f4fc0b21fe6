-- What is amiss with a word that is not of its type.
use Rattle.std.specs.Prelude.{ℕ, ◌+◌, ◌-◌, ◌==◌, ◌&&◌, ◌||◌, nat_le, nat_eq, min, List, [], length, drop, map, take_while, slice_index, slice_index_or, codes, Bool, true, false, if◌then◌else◌}
use Rattle.std.specs.List.{list_all, starts_with}
use Rattle.std.specs.Char.{is_ascii_digit}
use Rattle.fw_script_command.specs.Pieces.{pieces}
use Rattle.fw_script_command.specs.Words.{is_taken}
use Rattle.fw_script_command.specs.Types.{fits}
use Rattle.fw_script_command.specs.declared.word_type.WordType.{WordType}
use Rattle.fw_script_command.specs.declared.word_type.WordType.TheVariants.{Name, Shown, End, Plug, Offset, Quadlet, Frame}

-- the small letter for a capital
abbrev pub lower : ℕ → ℕ
lower b = if nat_le 65 b && nat_le b 90 then b + 32 else b

-- the word with small letters for its capitals
abbrev pub lowered : List ℕ → List ℕ
lowered w = map lower w

-- a word of the type has a name in it
abbrev pub has_name : WordType → Bool
has_name Name = true
has_name Shown = true
has_name End = true
has_name Plug = true
has_name _ = false

-- a word of the type is hexadecimal digits
abbrev pub is_hexadecimal : WordType → Bool
is_hexadecimal Offset = true
is_hexadecimal Quadlet = true
is_hexadecimal Frame = true
is_hexadecimal _ = false

-- the word, or what stands before its first full stop, is reserved
abbrev pub is_reserved : List ℕ → Bool
is_reserved w = is_taken (slice_index_or (pieces 46 w) 0 [])

-- it begins with 0x or 0X
abbrev pub has_prefix : List ℕ → Bool
has_prefix w = starts_with nat_eq w (codes "0x") || starts_with nat_eq w (codes "0X")

-- how many zeros stand before another digit
abbrev pub zeros : List ℕ → ℕ
zeros w = min (length (take_while (λ b. b == 48) w)) (length w - 1)

-- decimal digits with a zero before another
abbrev pub has_zero : List ℕ → Bool
has_zero w = nat_le 2 (length w) && list_all is_ascii_digit w && (slice_index w 0 == 48)

-- what is amiss with a word that is not of the type, if it is told
abbrev pub word_slip : WordType → List ℕ → List ℕ
word_slip t w =
    if fits t (lowered w) then codes ", with capital letters"
    else if has_name t && is_reserved w then codes ", a reserved word"
    else if is_hexadecimal t && has_prefix w then codes ", with 0x before the digits"
    else if has_zero w && fits t (drop (zeros w) w) then codes ", with a leading 0"
    else []
