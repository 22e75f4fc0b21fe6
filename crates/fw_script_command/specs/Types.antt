-- The table of forms: what the words after each keyword are.
use Rattle.std.specs.Prelude.{ℕ, ◌&&◌, Bool, true, false, List, [], ◌∷◌, is_some, codes}
use Rattle.fw_script_command.specs.Words.{name_in, number_in, place_in, kind_in, speed_in, channel_in, system_in, shown_in, offset_in, word_in, frame_in, late_in}
use Rattle.fw_script_command.specs.declared.keyword.Keyword.{Keyword}
use Rattle.fw_script_command.specs.declared.keyword.Keyword.TheVariants as Keywords
use Rattle.fw_script_command.specs.declared.word_type.WordType.{WordType}
use Rattle.fw_script_command.specs.declared.word_type.WordType.TheVariants.{Name, Shown, Kind, Speed, System, End, Plug, Channel, Offset, Quadlet, Frame, Late, Number}
use Rattle.fw_script_command.specs.declared.word_type.NumberType.{NumberType}
use Rattle.fw_script_command.specs.declared.word_type.NumberType.TheVariants.{Ports, Overhead, Slot, Count, WrittenCycles, Rounds, Cycles, Tape}

-- the least and the greatest number
abbrev pub range_of : NumberType → ℕ × ℕ
range_of Ports = (1, 27)
range_of Overhead = (0, 15)
range_of Slot = (0, 31)
range_of Count = (1, 10000)
range_of WrittenCycles = (1, 8000)
range_of Rounds = (1, 200000)
range_of Cycles = (0, 1000000000)
range_of Tape = (0, 65535)

-- the word is of this type: it is what is read of a line at its place
abbrev pub fits : WordType → List ℕ → Bool
fits Name w = is_some (name_in w)
fits Shown w = is_some (shown_in w)
fits Kind w = is_some (kind_in w)
fits Speed w = is_some (speed_in w)
fits System w = is_some (system_in w)
fits End w = is_some (place_in 26 w)
fits Plug w = is_some (place_in 30 w)
fits Channel w = is_some (channel_in w)
fits Offset w = is_some (offset_in w)
fits Quadlet w = is_some (word_in w)
fits Frame w = is_some (frame_in w)
fits Late w = is_some (late_in w)
fits (Number n) w = is_some (number_in (range_of n).0 (range_of n).1 w)

-- the word may be missing
abbrev pub may_lack : WordType → Bool
may_lack Late = true
may_lack _ = false

-- the words are of these types, one after the other
abbrev pub are_fitting : List WordType → List (List ℕ) → Bool
are_fitting [] [] = true
are_fitting [] (w ∷ ws) = false
are_fitting (t ∷ ts) [] = may_lack t && are_fitting ts []
are_fitting (t ∷ ts) (w ∷ ws) = fits t w && are_fitting ts ws

-- what the words after a keyword are, in their order
abbrev pub types_of : Keyword → List WordType
types_of Keywords.Device = Name ∷ Kind ∷ Number Ports ∷ Speed ∷ []
types_of Keywords.Cable = End ∷ End ∷ []
types_of Keywords.Reset = Name ∷ []
types_of Keywords.Connect = Name ∷ Plug ∷ Plug ∷ Channel ∷ Number Overhead ∷ []
types_of Keywords.Broadcast = Name ∷ Plug ∷ Number Overhead ∷ []
types_of Keywords.Listen = Name ∷ Plug ∷ []
types_of Keywords.Break = Name ∷ Number Slot ∷ []
types_of Keywords.Step = Name ∷ Number Count ∷ []
types_of Keywords.Settle = Number Rounds ∷ []
types_of Keywords.Wait = Number Cycles ∷ []
types_of Keywords.Cycles = Number WrittenCycles ∷ []
types_of Keywords.Die = Name ∷ Late ∷ []
types_of Keywords.Lose = Name ∷ []
types_of Keywords.Start = Name ∷ []
types_of Keywords.Command = Name ∷ Name ∷ Frame ∷ []
types_of Keywords.Read = Name ∷ Name ∷ Offset ∷ []
types_of Keywords.Swap = Name ∷ Name ∷ Offset ∷ Quadlet ∷ Quadlet ∷ []
types_of Keywords.Insert = Name ∷ Number Tape ∷ System ∷ []
types_of Keywords.Eject = Name ∷ []
types_of Keywords.Show = Shown ∷ Offset ∷ []
types_of Keywords.Withhold = []
types_of Keywords.Candidate = Name ∷ []
types_of Keywords.Contend = Name ∷ Number Count ∷ []
types_of Keywords.Dub = Name ∷ []
types_of Keywords.End = []

-- the word that a keyword is
abbrev pub word_of : Keyword → List ℕ
word_of Keywords.Device = codes "device"
word_of Keywords.Cable = codes "cable"
word_of Keywords.Reset = codes "reset"
word_of Keywords.Connect = codes "connect"
word_of Keywords.Broadcast = codes "broadcast"
word_of Keywords.Listen = codes "listen"
word_of Keywords.Break = codes "break"
word_of Keywords.Step = codes "step"
word_of Keywords.Settle = codes "settle"
word_of Keywords.Wait = codes "wait"
word_of Keywords.Cycles = codes "cycles"
word_of Keywords.Die = codes "die"
word_of Keywords.Lose = codes "lose"
word_of Keywords.Start = codes "start"
word_of Keywords.Command = codes "command"
word_of Keywords.Read = codes "read"
word_of Keywords.Swap = codes "swap"
word_of Keywords.Insert = codes "insert"
word_of Keywords.Eject = codes "eject"
word_of Keywords.Show = codes "show"
word_of Keywords.Withhold = codes "withhold"
word_of Keywords.Candidate = codes "candidate"
word_of Keywords.Contend = codes "contend"
word_of Keywords.Dub = codes "dub"
word_of Keywords.End = codes "end"
