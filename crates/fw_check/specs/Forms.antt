-- The forms of lines as text, and what each type of word is.
use Rattle.std.specs.Prelude.{ℕ, List, [], ◌∷◌, ◌++◌, flat_map, codes, decimal}
use Rattle.fw_script_command.specs.Types.{range_of, types_of, word_of}
use Rattle.fw_script_command.specs.declared.keyword.Keyword.{Keyword}
use Rattle.fw_script_command.specs.declared.word_type.WordType.{WordType}
use Rattle.fw_script_command.specs.declared.word_type.WordType.TheVariants.{Name, Shown, Kind, Speed, System, End, Plug, Channel, Offset, Quadlet, Frame, Late, Number}
use Rattle.fw_script_command.specs.declared.word_type.NumberType.{NumberType}
use Rattle.fw_script_command.specs.declared.word_type.NumberType.TheVariants.{Ports, Overhead, Slot, Count, WrittenCycles, Rounds, Cycles, Tape}

-- the name of a number in a form
abbrev pub number_name : NumberType → List ℕ
number_name Ports = codes "PORTS"
number_name Overhead = codes "OVERHEAD"
number_name Slot = codes "SLOT"
number_name Count = codes "COUNT"
number_name WrittenCycles = codes "COUNT"
number_name Rounds = codes "ROUNDS"
number_name Cycles = codes "CYCLES"
number_name Tape = codes "TAPE"

-- the name of a type in a form
abbrev pub type_name : WordType → List ℕ
type_name Name = codes "NAME"
type_name Shown = codes "NAME"
type_name Kind = codes "KIND"
type_name Speed = codes "SPEED"
type_name System = codes "SYSTEM"
type_name End = codes "END"
type_name Plug = codes "PLUG"
type_name Channel = codes "CHANNEL"
type_name Offset = codes "OFF"
type_name Quadlet = codes "WORD"
type_name Frame = codes "HEX"
type_name Late = codes "late"
type_name (Number n) = number_name n

-- what words a type has
abbrev pub type_words : WordType → List ℕ
type_words Name = codes "1 to 16 of a to z and 0 to 9, a letter first"
type_words Shown = codes "a name, or manager"
type_words Kind = codes "relay, deck, camcorder or computer"
type_words Speed = codes "100, 200 or 400"
type_words System = codes "525 or 625"
type_words End = codes "NAME.PORT, with a PORT from 0 to 26"
type_words Plug = codes "NAME.NUMBER, with a NUMBER from 0 to 30"
type_words Channel = codes "any, or a number from 0 to 63"
type_words Offset = codes "three hexadecimal digits"
type_words Quadlet = codes "eight hexadecimal digits"
type_words Frame = codes "1 to 110 bytes, two hexadecimal digits each"
type_words Late = codes "late or no word"
type_words (Number n) = codes "a number from " ++ decimal (range_of n).0 ++ codes " to " ++ decimal (range_of n).1

-- what is expected of a word
abbrev pub expected : WordType → List ℕ
expected Late = type_words Late
expected t = type_name t ++ codes ": " ++ type_words t

-- a type in a form; the word that may be missing makes a second form
abbrev pub form_word : WordType → List ℕ
form_word Late = codes ", die NAME late"
form_word t = 32 ∷ type_name t

-- the form of a command's line
abbrev pub form_text : Keyword → List ℕ
form_text k = word_of k ++ flat_map form_word (types_of k)

-- the line with the form
abbrev pub form_line : Keyword → List ℕ
form_line k = codes "form: " ++ form_text k ++ 10 ∷ []

-- the two lines with all commands
abbrev pub command_lines : List ℕ
command_lines =
    codes "commands: withhold device cable reset connect broadcast listen break step settle die lose candidate"
    ++ 10 ∷ codes "commands: contend start wait cycles read swap show command insert eject dub end" ++ 10 ∷ []
