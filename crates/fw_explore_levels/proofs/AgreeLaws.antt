-- Laws of keys that agree on lists of one length: levels, what is taken, and rows are the same.
use Rattle.std.proofs.Common.{ℕ, ◌≡◌, ◌↔◌, List, length, inl, inr}
use Rattle.fw_explore_levels.specs.Counting.{Counts}
use Rattle.fw_explore_levels.specs.Schedules.{IsOfLength}
use Rattle.fw_explore_levels.specs.Tables.{Entry}
use Rattle.fw_explore_levels.specs.Walks.{IsLevel, IsTaken, IsEnded, IsRowHead, AreRows}
use Rattle.fw_explore_levels.proofs.CountLaws.{counts_same}
use Rattle.fw_explore_levels.proofs.TableLaws.{table_same, table_keys}

module _ (M : List ℕ → ℕ → Type 0) (K K' : List ℕ → List ℕ → Type 0) (n : ℕ) (agree : (w k : List ℕ) → length w ≡ n → K w k ↔ K' w k) (level : List Entry) where
  pub level_keys : IsLevel M K n level → IsLevel M K' n level
  level_keys t = table_keys (IsOfLength M n) (IsOfLength M n) (λ _. Unit {0}) K K' level (λ w c. c) (λ w k s. agree w k s.size) t

  pub taken_keys : (i p : ℕ) (w : List ℕ) → IsTaken M K n level i p w ↔ IsTaken M K' n level i p w
  taken_keys i p w = (
    λ a. record {
      place = a.place;
      entry = a.entry;
      stands = a.stands;
      before = a.before;
      there = record {
        is = a.there.is;
        leads =
            (agree a.before a.entry.key a.there.is.size).0 a.there.leads;
      };
      last = a.last;
      moves = a.moves;
      is = a.is;
      sooner = a.sooner;
    },
    λ a. record {
      place = a.place;
      entry = a.entry;
      stands = a.stands;
      before = a.before;
      there = record {
        is = a.there.is;
        leads =
            (agree a.before a.entry.key a.there.is.size).1 a.there.leads;
      };
      last = a.last;
      moves = a.moves;
      is = a.is;
      sooner = a.sooner;
    },
  )

  pub ended_keys : (i : ℕ) (w : List ℕ) → IsEnded M K n level i w ↔ IsEnded M K' n level i w
  ended_keys i w = (
    λ h. record { ends = h.ends; passed = elim (h.passed) [ inl less ↦ inl less | inr p ↦ inr (p.0, p.1, p.2, p.3, p.4, (agree w p.2.key p.0).0 p.5) ] },
    λ h. record { ends = h.ends; passed = elim (h.passed) [ inl less ↦ inl less | inr p ↦ inr (p.0, p.1, p.2, p.3, p.4, (agree w p.2.key p.0).1 p.5) ] },
  )

  counted_keys : (C : List ℕ → Type 0) (i : ℕ) (w : List ℕ) → (IsEnded M K n level i w × C w) ↔ (IsEnded M K' n level i w × C w)
  counted_keys C i w = (λ p. ((ended_keys i w).0 p.0, p.1), λ p. ((ended_keys i w).1 p.0, p.1))

  pub rows_keys : (E : List ℕ → List ℕ → Type 0) (C : List ℕ → Type 0) (i : ℕ) (rows : List Entry) → AreRows M K E C n level i rows → AreRows M K' E C n level i rows
  rows_keys E C i rows t =
      table_same (IsEnded M K n level i) (λ w. IsEnded M K n level i w × C w) (IsRowHead n level i) (IsEnded M K' n level i) (λ w. IsEnded M K' n level i w × C w) (IsRowHead n level i) E rows
      (ended_keys i) (counted_keys C i) (λ f h. h) t

  pub totals_keys : (C : List ℕ → Type 0) (i total : ℕ) → Counts (λ w. IsEnded M K n level i w × C w) total → Counts (λ w. IsEnded M K' n level i w × C w) total
  totals_keys C i total c = counts_same (λ w. IsEnded M K n level i w × C w) (λ w. IsEnded M K' n level i w × C w) total (counted_keys C i) c
