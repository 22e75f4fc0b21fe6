-- A walk over all schedules, place by place, and what it comes to.
use Rattle.std.specs.Prelude.{ℕ, ◌≡◌, List, Option, Some}
use Rattle.fw_explore_levels.specs.Counting.{Counts}
use Rattle.fw_explore_levels.specs.Schedules.{Interleaving, IsOfLength}
use Rattle.fw_explore_levels.specs.Tables.{Entry, IsTable}
use Rattle.fw_explore_levels.specs.Walks.{IsLevel, IsTaken, IsUnderWay, IsEnded, AreRows}

-- the key that a walk has given a schedule
abbrev pub Keyed : (List ℕ → Option (List ℕ)) → List ℕ → List ℕ → Type 0
Keyed keys w k = keys w ≡ Some k

-- the numbers of all interleavings so far, of those that ended and of those that were cut off
pub record Totals : Type 0 where
  pub ended : ℕ
  pub cut : ℕ

-- the rows so far: by their endings, the same in both, how many ended and how many were cut off
pub record TwoRows : Type 0 where
  pub ended : List Entry
  pub cut : List Entry

-- A walk under way: of the places below i of the level of length n all moves are taken, and of place i those below p. A key says what it
-- stands for, `P`, and of the next level `Q`; each interleaving has an ending, `E`, and is cut off or not, `C`.
pub record Walk (M : List ℕ → ℕ → Type 0) (P Q E : List ℕ → List ℕ → Type 0) (C : List ℕ → Type 0) (n : ℕ) (level : List Entry) (i p : ℕ) (next : List Entry) (rows : TwoRows)
    (totals : Totals) : Type 0 where
  pub keys : List ℕ → Option (List ℕ)
  pub level_is : IsLevel M (Keyed keys) n level
  pub under : IsUnderWay M (Keyed keys) n level i p next
  pub right : (w k : List ℕ) → IsOfLength M n w → Keyed keys w k → P w k
  pub right_next : (w k : List ℕ) → IsTaken M (Keyed keys) n level i p w → Keyed keys w k → Q w k
  pub ended : AreRows M (Keyed keys) E (λ w. C w → ⊥) n level i rows.ended
  pub cut : AreRows M (Keyed keys) E C n level i rows.cut
  pub all_ended : Counts (λ w. IsEnded M (Keyed keys) n level i w × (C w → ⊥)) totals.ended
  pub all_cut : Counts (λ w. IsEnded M (Keyed keys) n level i w × C w) totals.cut

-- What it comes to: each ending once, by how many interleavings it is reached that ended and that were cut off, and the first of both.
pub record Whole (M : List ℕ → ℕ → Type 0) (E : List ℕ → List ℕ → Type 0) (C : List ℕ → Type 0) (rows : TwoRows) (totals : Totals) : Type 0 where
  pub ended : IsTable (Interleaving M) (λ w. Interleaving M w × (C w → ⊥)) (λ _. Unit {0}) E rows.ended
  pub cut : IsTable (Interleaving M) (λ w. Interleaving M w × C w) (λ _. Unit {0}) E rows.cut
  pub all_ended : Counts (λ w. Interleaving M w × (C w → ⊥)) totals.ended
  pub all_cut : Counts (λ w. Interleaving M w × C w) totals.cut
