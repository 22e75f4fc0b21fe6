-- What a command caused: lines, each of so many entries.
use Rattle.std.specs.Prelude.{ℕ, List, [], ◌∷◌, ◌++◌, codes, decimal}

-- a line: how many entries it tells, and its text
pub record Caused : Type 0 where
  pub entries : ℕ
  pub text : List ℕ

-- the bytes of lines
abbrev pub caused_text : List Caused → List ℕ
caused_text [] = []
caused_text (l ∷ ls) = l.text ++ 10 ∷ caused_text ls

-- what a line that was caused begins with
abbrev pub at_cycle : ℕ → List ℕ
at_cycle cycle = codes "      " ++ decimal cycle ++ codes " "
