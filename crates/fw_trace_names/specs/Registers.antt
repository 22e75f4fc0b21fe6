-- What words and swaps of registers say, with names in place of numbers.
use Rattle.std.specs.Prelude.{ℕ, ◌==◌, List, [], ◌++◌, codes, decimal, if◌then◌else◌}
use Rattle.fw_words.specs.Quadlet.{field}
use Rattle.fw_words.specs.declared.swap.Swap.{Swap}
use Rattle.fw_text.specs.Texts.{quadlet_text}
use Rattle.fw_log_registers.specs.declared.place.RegisterPlace.{RegisterPlace}
use Rattle.fw_log_registers.specs.declared.place.RegisterPlace.TheVariants.{Named}
use Rattle.fw_log_registers.specs.declared.register.NamedRegister.TheVariants.{OutputPlug, InputPlug, BusManagerId}
use Rattle.fw_log_registers.specs.declared.told.RegisterValue.{RegisterValue}
use Rattle.fw_log_registers.specs.declared.told.RegisterValue.TheVariants.{Word as TheWord, Swap as TheSwap}
use Rattle.fw_log_registers.specs.Words.{told_text}
use Rattle.fw_trace_names.specs.Names.{Naming, holder_text}

-- a field of a register, from its first bit to its last, as a number; of a swap only if it changes it, and from what to what
unfoldable pub number_told : RegisterValue → List ℕ → ℕ → ℕ → List ℕ
number_told (TheWord word) label first last = codes ", " ++ label ++ codes " " ++ decimal (field word first last)
number_told (TheSwap old new) label first last =
    if field old first last == field new first last then []
    else codes ", " ++ label ++ codes " " ++ decimal (field old first last) ++ codes " to " ++ decimal (field new first last)

-- how an oPCR or an iPCR is connected, or how a swap changes that: how many connections of each kind, and the channel (IEC 61883-1, 7.7 and 7.9)
abbrev pub connections_told : RegisterValue → List ℕ
connections_told told = number_told told (codes "broadcast") 1 1 ++ number_told told (codes "point-to-point") 2 7 ++ number_told told (codes "channel") 10 15

-- who was bus manager, and who is
unfoldable pub holder_told : Naming → ℕ → ℕ → List ℕ
holder_told n old new = codes ", bus manager " ++ holder_text n old ++ codes " to " ++ holder_text n new

-- who is bus manager
unfoldable pub holder_is : Naming → ℕ → List ℕ
holder_is n number = codes ", bus manager " ++ holder_text n number

-- what is told of BUS_MANAGER_ID
unfoldable pub manager_told : Naming → RegisterValue → List ℕ
manager_told n (TheWord word) = holder_is n (field word 26 31)
manager_told n (TheSwap old new) =
    if field old 26 31 == field new 26 31 then [] else holder_told n (field old 26 31) (field new 26 31)

-- what a word says that stands at a place, or what a swap there changes: of a plug how it is connected, of BUS_MANAGER_ID the node by its
-- name, of all others what `explain` tells
unfoldable pub named_told : Naming → RegisterPlace → RegisterValue → List ℕ
named_told n (Named OutputPlug index) told = connections_told told
named_told n (Named InputPlug index) told = connections_told told
named_told n (Named BusManagerId index) told = manager_told n told
named_told n place told = told_text told place

-- a word that stands at a place, and what it says
unfoldable pub named_word : Naming → RegisterPlace → ℕ → List ℕ
named_word n place word = quadlet_text word ++ named_told n place (TheWord word)

-- what a swap changes
abbrev pub changes_of : Naming → RegisterPlace → Swap → List ℕ
changes_of n place s = named_told n place (TheSwap s.argument s.new)
