-- The first words of a script's lines.
use Rattle.std.specs.Prelude.{ℕ, List, [], ◌∷◌, Option, codes}
use Rattle.fw_script_command.specs.Words.{meaning_in}
use Rattle.fw_script_command.specs.declared.keyword.Keyword.{Keyword}
use Rattle.fw_script_command.specs.declared.keyword.Keyword.TheVariants.{Device, Cable, Reset, Connect, Broadcast, Listen, Break, Step, Settle, Wait, Cycles, Die, Lose}
use Rattle.fw_script_command.specs.declared.keyword.Keyword.TheVariants.{Start, Command, Read, Swap, Insert, Eject, Show, Withhold, Candidate, Contend, Dub, End}

-- the first word of each form
abbrev pub keywords : List (List ℕ × Keyword)
keywords =
    (codes "device", Device)
    ∷ (codes "cable", Cable)
    ∷ (codes "reset", Reset)
    ∷ (codes "connect", Connect)
    ∷ (codes "broadcast", Broadcast)
    ∷ (codes "listen", Listen)
    ∷ (codes "break", Break)
    ∷ (codes "step", Step)
    ∷ (codes "settle", Settle)
    ∷ (codes "wait", Wait)
    ∷ (codes "cycles", Cycles)
    ∷ (codes "die", Die)
    ∷ (codes "lose", Lose)
    ∷ (codes "start", Start)
    ∷ (codes "command", Command)
    ∷ (codes "read", Read)
    ∷ (codes "swap", Swap)
    ∷ (codes "insert", Insert)
    ∷ (codes "eject", Eject)
    ∷ (codes "show", Show)
    ∷ (codes "withhold", Withhold)
    ∷ (codes "candidate", Candidate)
    ∷ (codes "contend", Contend)
    ∷ (codes "dub", Dub)
    ∷ (codes "end", End)
    ∷ []

-- the keyword that the word is
abbrev pub keyword_in : List ℕ → Option Keyword
keyword_in w = meaning_in keywords w
