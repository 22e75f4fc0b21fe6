-- A layout: fields from the most significant bit on, each a width and a value.
use Rattle.std.specs.Prelude.{ℕ, ◌+◌, ◌-◌, ◌*◌, ◌^◌, ◌<◌, List, [], ◌∷◌, Bool, true, ◌&&◌, nat_lt}
use Rattle.fw_words.specs.Quadlet.{field}

-- the fields after q, in one number
abbrev pub packed : List (ℕ × ℕ) → ℕ → ℕ
packed [] q = q
packed (f ∷ fs) q = packed fs (q * 2 ^ f.0 + f.1)

-- each value has a width of 1 or more and fits it
abbrev pub FitWidths : List (ℕ × ℕ) → Type 0
FitWidths [] = Unit {0}
FitWidths (f ∷ fs) = (0 < f.0) × (f.1 < 2 ^ f.0) × FitWidths fs

-- how many bits these widths take
abbrev pub total : List ℕ → ℕ
total [] = 0
total (w ∷ ws) = w + total ws

-- the fields of these widths that a quadlet has from a bit on
abbrev pub cut : ℕ → ℕ → List ℕ → List (ℕ × ℕ)
cut q at [] = []
cut q at (w ∷ ws) = (w, field q at (at + w - 1)) ∷ cut q (at + w) ws

-- the widths of the fields
abbrev pub widths : List (ℕ × ℕ) → List ℕ
widths [] = []
widths (f ∷ fs) = f.0 ∷ widths fs

-- no width is 0
abbrev pub no_zero : List ℕ → Bool
no_zero [] = true
no_zero (w ∷ ws) = nat_lt 0 w && no_zero ws

-- the values of the fields
abbrev pub values : List (ℕ × ℕ) → List ℕ
values [] = []
values (f ∷ fs) = f.1 ∷ values fs
