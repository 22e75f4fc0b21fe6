-- What a script has of which no line is refused.
use Rattle.std.specs.Prelude.{ℕ, ◌==◌, List, [], ◌∷◌, ◌++◌, codes, decimal, if◌then◌else◌}
use Rattle.fw_check.specs.declared.good.Counts.{Counts}

-- a count of things
abbrev pub counted : ℕ → List ℕ → List ℕ
counted n noun = decimal n ++ 32 ∷ noun ++ (if n == 1 then [] else codes "s")

-- the line of counts
abbrev pub good_text : Counts → List ℕ
good_text c =
    codes "good: " ++ counted c.commands (codes "command") ++ codes ", " ++ counted c.devices (codes "device") ++ codes ", " ++ counted c.resets (codes "bus reset")
    ++ codes ", " ++ counted c.half_steps (codes "half step") ++ codes ", " ++ counted c.written (codes "written cycle") ++ codes ", up to cycle " ++ decimal c.cycle ++ 10 ∷ []
