-- Schedules: lists of moves, each of which is a move after those before it.
use Rattle.std.specs.Prelude.{ℕ, ◌≡◌, List, [], ◌∷◌, ◌++◌, length}

-- `M w p`: after the moves w there is the move p
pub data Schedule (M : List ℕ → ℕ → Type 0) : List ℕ → Type 0 where
  begun : Schedule M []
  and_then : {w : List ℕ} → Schedule M w → (p : ℕ) → M w p → Schedule M (w ++ p ∷ [])

-- a schedule that no move makes longer
pub record Interleaving (M : List ℕ → ℕ → Type 0) (w : List ℕ) : Type 0 where
  pub schedule : Schedule M w
  pub last : (p : ℕ) → M w p → ⊥

-- a schedule of so many moves
pub record IsOfLength (M : List ℕ → ℕ → Type 0) (n : ℕ) (w : List ℕ) : Type 0 where
  pub schedule : Schedule M w
  pub size : length w ≡ n
