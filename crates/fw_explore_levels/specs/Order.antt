-- The order of lists of moves.
use Rattle.std.specs.Prelude.{ℕ, ◌≡◌, ◌<◌, ◌⊎◌, List, [], ◌∷◌, length}

-- of lists of one length: the first place at which they differ decides
abbrev pub IsBelow : List ℕ → List ℕ → Type 0
IsBelow [] v = ⊥
IsBelow (p ∷ w) [] = ⊥
IsBelow (p ∷ w) (q ∷ v) = (p < q) ⊎ ((p ≡ q) × IsBelow w v)

-- the shorter comes first, and of those of one length the first in the order of the movers, as words in a dictionary
abbrev pub IsEarlier : List ℕ → List ℕ → Type 0
IsEarlier w v = (length w < length v) ⊎ ((length w ≡ length v) × IsBelow w v)
