-- The parts of a JSON object (RFC 8259) whose texts have nothing to escape. A key is given with its punctuation, as `,"code":`.
use Rattle.std.specs.Prelude.{ℕ, zero, suc, ◌^◌, nat_lt, Bool, List, [], ◌++◌, codes, decimal, Option, Some, None, if◌then◌else◌}
use Rattle.std.specs.List.{join_with_byte}

-- a value under its key
unfoldable pub field : List ℕ → List ℕ → List ℕ
field key value = key ++ value

-- a text
unfoldable pub quoted : List ℕ → List ℕ
quoted text = codes "\"" ++ text ++ codes "\""

-- a name that a table has, or null if it has none
abbrev pub name_value : Option (List ℕ) → List ℕ
name_value None = codes "null"
name_value (Some name) = quoted name

-- a number, or null if there is none
abbrev pub number_value : Option ℕ → List ℕ
number_value None = codes "null"
number_value (Some n) = decimal n

-- true or false
abbrev pub flag_value : Bool → List ℕ
flag_value b = if b then codes "true" else codes "false"

-- a code under its key, and its name in a table under another
unfoldable pub code : List ℕ → ℕ → List ℕ → Option (List ℕ) → List ℕ
code key n name_key name = field key (decimal n) ++ field name_key (name_value name)

-- what stands before the n-th value of a list, counted from 0
abbrev pub comma : ℕ → List ℕ
comma zero = []
comma (suc n) = codes ","

-- values in an array
unfoldable pub array : List (List ℕ) → List ℕ
array values = codes "[" ++ join_with_byte 44 values ++ codes "]"

-- a cycle: a number while each reader of JSON holds it exactly, and its digits as a text from 2^53 on
abbrev pub cycle_value : ℕ → List ℕ
cycle_value cycle = if nat_lt cycle (2 ^ 53) then decimal cycle else quoted (decimal cycle)
