-- A walk over the schedules of one length after those of the length before it.
use Rattle.std.specs.Prelude.{ℕ, ◌≡◌, ◌<◌, ◌⊎◌, List, [], ◌∷◌, ◌++◌, length, slice_index_or}
use Rattle.fw_explore_levels.specs.Schedules.{Interleaving, IsOfLength}
use Rattle.fw_explore_levels.specs.Tables.{Entry, IsTable}

-- ---- levels

-- the places to which the schedules of one length lead
abbrev pub IsLevel : (List ℕ → ℕ → Type 0) → (List ℕ → List ℕ → Type 0) → ℕ → List Entry → Type 0
IsLevel M K n level = IsTable (IsOfLength M n) (IsOfLength M n) (λ _. Unit {0}) K level

-- a schedule of this length that leads to an entry's key
pub record IsAt (M : List ℕ → ℕ → Type 0) (K : List ℕ → List ℕ → Type 0) (n : ℕ) (e : Entry) (w : List ℕ) : Type 0 where
  pub is : IsOfLength M n w
  pub leads : K w e.key

-- an entry of a level
pub record StandsAt (level : List Entry) (place : ℕ) (e : Entry) : Type 0 where
  pub within : place < length level
  pub at : slice_index_or level place e ≡ e

-- a move of a place before that place and move
abbrev pub IsBefore : ℕ → ℕ → ℕ → ℕ → Type 0
IsBefore place last i p = (place < i) ⊎ ((place ≡ i) × (last < p))

-- ---- a level under way: of the places below i all moves are taken, and of place i those below p

pub record IsTaken (M : List ℕ → ℕ → Type 0) (K : List ℕ → List ℕ → Type 0) (n : ℕ) (level : List Entry) (i p : ℕ) (w : List ℕ) : Type 0 where
  pub place : ℕ
  pub entry : Entry
  pub stands : StandsAt level place entry
  pub before : List ℕ
  pub there : IsAt M K n entry before
  pub last : ℕ
  pub moves : M before last
  pub is : w ≡ before ++ last ∷ []
  pub sooner : IsBefore place last i p

-- the first of a place's schedules, and one move more
pub record IsHead (level : List Entry) (i p : ℕ) (w : List ℕ) : Type 0 where
  pub place : ℕ
  pub entry : Entry
  pub stands : StandsAt level place entry
  pub last : ℕ
  pub is : w ≡ entry.first ++ last ∷ []
  pub sooner : IsBefore place last i p

abbrev pub IsUnderWay : (List ℕ → ℕ → Type 0) → (List ℕ → List ℕ → Type 0) → ℕ → List Entry → ℕ → ℕ → List Entry → Type 0
IsUnderWay M K n level i p next = IsTable (IsTaken M K n level i p) (IsTaken M K n level i p) (IsHead level i p) K next

-- what a move at a place leads to: of each schedule that leads there it is a move, to this key
abbrev pub LeadsOn : (List ℕ → ℕ → Type 0) → (List ℕ → List ℕ → Type 0) → ℕ → Entry → ℕ → List ℕ → Type 0
LeadsOn M K n e p key = (w : List ℕ) → IsAt M K n e w → M w p × K (w ++ p ∷ []) key

-- or it is a move of none
abbrev pub IsNoMove : (List ℕ → ℕ → Type 0) → (List ℕ → List ℕ → Type 0) → ℕ → Entry → ℕ → Type 0
IsNoMove M K n e p = (w : List ℕ) → IsAt M K n e w → M w p → ⊥

-- ---- interleavings

-- an interleaving shorter than n, or of that length at a place below i
pub record IsEnded (M : List ℕ → ℕ → Type 0) (K : List ℕ → List ℕ → Type 0) (n : ℕ) (level : List Entry) (i : ℕ) (w : List ℕ) : Type 0 where
  pub ends : Interleaving M w
  pub passed : (length w < n) ⊎ ((length w ≡ n) × (place : ℕ) × (entry : Entry) × (place < i) × StandsAt level place entry × K w entry.key)

-- the first of a row: shorter, or the first of a place below i
pub record IsRowHead (n : ℕ) (level : List Entry) (i : ℕ) (w : List ℕ) : Type 0 where
  pub passed : (length w < n) ⊎ ((length w ≡ n) × (place : ℕ) × (entry : Entry) × (place < i) × StandsAt level place entry × (entry.first ≡ w))

-- the rows: interleavings by their endings, those counted that are `C`
abbrev pub AreRows : (List ℕ → ℕ → Type 0) → (List ℕ → List ℕ → Type 0) → (List ℕ → List ℕ → Type 0) → (List ℕ → Type 0) → ℕ → List Entry → ℕ → List Entry → Type 0
AreRows M K E C n level i rows = IsTable (IsEnded M K n level i) (λ w. IsEnded M K n level i w × C w) (IsRowHead n level i) E rows
