-- Tables of names: constants of the code, which definitions look up too.
use Rattle.std.specs.Prelude.{ℕ, ◌==◌, List, [], ◌∷◌, map, Option, Some, None, if◌then◌else◌}

-- the rows of a table
abbrev pub rows : List (ℕ × record { now : List ℕ }) → List (ℕ × List ℕ)
rows table = map (λ r. (r.0, r.1.now)) table

-- the name in the row with a key
abbrev pub name_in : List (ℕ × List ℕ) → ℕ → Option (List ℕ)
name_in [] key = None
name_in (r ∷ rows) key = if key == r.0 then Some r.1 else name_in rows key
