-- The lines of a text: each after a mark, and those with a mark (own).
use Rattle.std.specs.Prelude.{ℕ, ◌==◌, Bool, true, false, List, [], ◌∷◌, ◌++◌, if◌then◌else◌}

-- ---- each line after a mark

-- of a text that begins a line, or goes on within one
abbrev pub marked_from : ℕ → Bool → List ℕ → List ℕ
marked_from m begins [] = []
marked_from m true (c ∷ cs) = m ∷ (c ∷ marked_from m (c == 10) cs)
marked_from m false (c ∷ cs) = c ∷ marked_from m (c == 10) cs

-- the lines of a text, each after a mark
abbrev pub marked : ℕ → List ℕ → List ℕ
marked m text = marked_from m true text

-- ---- those with a mark

-- where a reader stands who looks for lines with a mark: at the beginning of a line, or within one that has the mark, or has not
pub data Place : Type 0 where
  Begins : Place
  Within : Place
  Other : Place

-- after a byte of a line of this kind
abbrev pub going : ℕ → Place → Place
going c place = if c == 10 then Begins else place

-- after the first byte of a line
abbrev pub begun : ℕ → ℕ → Place
begun m c = if c == m then Within else going c Other

-- the lines that begin with a mark, each with this in the mark's place
abbrev pub lines_from : ℕ → List ℕ → Place → List ℕ → List ℕ
lines_from m lead place [] = []
lines_from m lead Begins (c ∷ cs) = (if c == m then lead else []) ++ lines_from m lead (begun m c) cs
lines_from m lead Within (c ∷ cs) = c ∷ lines_from m lead (going c Within) cs
lines_from m lead Other (c ∷ cs) = lines_from m lead (going c Other) cs

-- the lines of a text that begin with a mark, without it
abbrev pub lines_after : ℕ → List ℕ → List ℕ
lines_after m text = lines_from m [] Begins text

-- the lines of a text that begin with a mark
abbrev pub lines_with : ℕ → List ℕ → List ℕ
lines_with m text = lines_from m (m ∷ []) Begins text
