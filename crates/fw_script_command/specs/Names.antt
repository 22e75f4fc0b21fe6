-- How a name's bytes are kept.
use Rattle.std.specs.Prelude.{ℕ, ◌-◌, List, ◌++◌, length, replicate}

-- the bytes, with zeros after them up to 16
abbrev pub filled : List ℕ → List ℕ
filled xs = xs ++ replicate (16 - length xs) 0
