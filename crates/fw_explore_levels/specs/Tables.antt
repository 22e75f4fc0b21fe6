-- Tables of what lists of moves lead to: each key once, by how many lists it is reached, and the first of them.
use Rattle.std.specs.Prelude.{ℕ, ◌≡◌, ◌≢◌, ◌+◌, ◌<◌, ◌⊎◌, min, List, [], ◌∷◌, ◌++◌, length, slice_index_or, slice_set}
use Rattle.std.specs.List.{All, Any, AllPairs}
use Rattle.fw_explore_levels.specs.Counting.{most_told, Counts}
use Rattle.fw_explore_levels.specs.Order.{IsEarlier}

pub record Entry : Type 0 where
  pub key : List ℕ
  pub ways : ℕ  -- up to `most_told`, which stands for all above it
  pub first : List ℕ

-- ---- how a table grows

-- so many lists more lead to a key that is there
pub record IsFound (old new : List Entry) (key : List ℕ) (ways : ℕ) : Type 0 where
  pub place : ℕ
  pub entry : Entry
  pub within : place < length old
  pub at : slice_index_or old place entry ≡ entry
  pub same : entry.key ≡ key
  pub is : new ≡ slice_set old place (record entry { ways = min most_told (entry.ways + ways) })

-- and to one that is not
pub record IsNew (old new : List Entry) (key : List ℕ) (ways : ℕ) (first : List ℕ) : Type 0 where
  pub none : All (λ e. e.key ≢ key) old
  pub is : new ≡ old ++ record { key = key; ways = ways; first = first } ∷ []

abbrev pub IsReached : List Entry → List Entry → List ℕ → ℕ → List ℕ → Type 0
IsReached old new key ways first = IsFound old new key ways ⊎ IsNew old new key ways first

-- ---- what a table tells

-- Of the lists that are `S` some are counted, those that are `C`; a list w leads to the keys that are `K w`.
pub record IsEntry (S C F : List ℕ → Type 0) (K : List ℕ → List ℕ → Type 0) (e : Entry) : Type 0 where
  pub leads : K e.first e.key
  pub is : S e.first
  pub among : F e.first  -- what is known besides of the first
  pub no_earlier : (w : List ℕ) → S w → K w e.key → IsEarlier w e.first → ⊥
  pub counts : Counts (λ w. C w × K w e.key) e.ways

-- keys differ, and entries come in the order of their first lists
pub record Precedes (one other : Entry) : Type 0 where
  pub apart : one.key ≢ other.key
  pub earlier : IsEarlier one.first other.first

pub record IsTable (S C F : List ℕ → Type 0) (K : List ℕ → List ℕ → Type 0) (table : List Entry) : Type 0 where
  pub each : All (IsEntry S C F K) table
  pub whole : (w : List ℕ) → S w → Any (λ e. K w e.key) table
  pub in_order : AllPairs Precedes table
