-- What a walk over all schedules comes to is what an exploration tells.
use Rattle.fw_explore_meaning.proofs.Common.{ℕ, zero, suc, ◌≡◌, ◌+◌, ◌<◌, ◌≤◌, List, [], ◌∷◌, length, get_or, map}
use Rattle.fw_explore_meaning.proofs.Common.{refl, sym, ap, subst, ◌∙◌, inl, inr, arith, All, AllPairs, cases_eq, Command, DeskRelations}
use Rattle.fw_explore_meaning.proofs.Common.{Entry, Explored, Row, tallies, IsMove, IsCutOff, Comes, HasLines, Explores}
use Rattle.std.proofs.lemmas.Bool.{cases_lt}
use Rattle.std.proofs.lemmas.List.{length-map, get_or-map, get_or_default}
use Rattle.fw_explore_levels.specs.Counting.{Counts}
use Rattle.fw_explore_levels.specs.Order.{IsEarlier}
use Rattle.fw_explore_levels.specs.Schedules.{Interleaving}
use Rattle.fw_explore_levels.specs.Tables.{IsEntry, Precedes, IsTable}
use Rattle.fw_explore_levels.specs.Whole.{Totals, Whole}
use Rattle.fw_explore_levels.proofs.CountLaws.{counts_same}
use Rattle.fw_explore_levels.proofs.TableLaws.{HasOneKey}
use Rattle.fw_explore_endings.specs.Tallies.{ended_of, cut_of, ended_entries, cut_entries}
use Rattle.fw_explore_meaning.specs.Moves.{IsInterleaving}
use Rattle.fw_explore_meaning.specs.Rows.{EndsThere, IsCutThere, IsRow, HasOneRow}

-- the row at a place
pub record IsRowAt (rows : List Row) (k : ℕ) : Type 0 where
  pub row : Row
  pub at : (d : Row) → get_or rows k d ≡ row

pub row_there : (rows : List Row) (k : ℕ) → k < length rows → IsRowAt rows k
row_there [] k h = absurd (omega (arith, h))
row_there (r ∷ rows) zero h = record { row = r; at = λ d. refl }
row_there (r ∷ rows) (suc k) h = let t = row_there rows k (omega (arith, h)) in record { row = t.row; at = λ d. t.at d }

-- the ending of an interleaving has one row
record HasRow (D : DeskRelations) (script : List Command) (x : Explored) (rows : List Row) (w : List ℕ) : Type 0 where
  pub ending : List ℕ
  pub comes : Comes D script x w ending
  pub row : HasOneRow rows ending

module _ (D : DeskRelations) (script : List Command) (x : Explored) (one : HasOneKey (Comes D script x)) (rows : List Row) (totals : Totals)
    (whole : Whole (IsMove D script x) (Comes D script x) (IsCutOff D script x) (tallies rows) totals)
    (lines : All (HasLines D script x) rows) where
  abbrev Ended : List ℕ → Type 0
  Ended w = IsInterleaving D script x w × (IsCutOff D script x w → ⊥)

  abbrev Cut : List ℕ → Type 0
  Cut w = IsInterleaving D script x w × IsCutOff D script x w

  abbrev IsOne : (List ℕ → Type 0) → Entry → Type 0
  IsOne C e = IsEntry (IsInterleaving D script x) C (λ _. Unit {0}) (Comes D script x) e

  size_ended : length (ended_entries rows) ≡ length rows
  size_ended = length-map rows ended_of

  size_cut : length (cut_entries rows) ≡ length rows
  size_cut = length-map rows cut_of

  entry_at : (k : ℕ) (d : Row) → k < length rows → get_or (ended_entries rows) k (ended_of d) ≡ ended_of (get_or rows k d)
  entry_at k d h = get_or-map ended_of rows k d (ended_of d) h

  ended_entry : (k : ℕ) (d : Row) → k < length rows → IsOne Ended (ended_of (get_or rows k d))
  ended_entry k d h = subst (IsOne Ended) (entry_at k d h) (whole.ended.each k (ended_of d) (subst (λ n. k < n) (sym size_ended) h))

  cut_entry : (k : ℕ) (d : Row) → k < length rows → IsOne Cut (cut_of (get_or rows k d))
  cut_entry k d h = subst (IsOne Cut) (get_or-map cut_of rows k d (cut_of d) h) (whole.cut.each k (cut_of d) (subst (λ n. k < n) (sym size_cut) h))

  pair_at : (i j : ℕ) (d : Row) → i < j → j < length rows → Precedes (ended_of (get_or rows i d)) (ended_of (get_or rows j d))
  pair_at i j d l h =
      let p = whole.ended.in_order i j (ended_of d) l (subst (λ n. j < n) (sym size_ended) h) in
      let first : i < length rows = omega (arith, l, h) in
      subst (λ e. Precedes e (ended_of (get_or rows j d))) (entry_at i d first) (subst (λ e. Precedes (get_or (ended_entries rows) i (ended_of d)) e) (entry_at j d h) p)

  row_is : (k : ℕ) (d : Row) → k < length rows → IsRow D script x (get_or rows k d)
  row_is k d h =
      let r = get_or rows k d in
      let e = ended_entry k d h in
      record {
        sound = e.is;
        lines = lines k d h;
        ended = counts_same (λ w. Ended w × Comes D script x w r.ending.items) (EndsThere D script x r.ending.items) r.ended
            (λ w. (λ p. record { is = p.0.0; comes = p.1; whole = p.0.1 }, λ t. ((t.is, t.whole), t.comes))) e.counts;
        cut = counts_same (λ w. Cut w × Comes D script x w r.ending.items) (IsCutThere D script x r.ending.items) r.cut
            (λ w. (λ p. record { is = p.0.0; comes = p.1; cut = p.0.1 }, λ t. ((t.is, t.cut), t.comes))) (cut_entry k d h).counts;
        first = e.no_earlier;
      }

  -- no other row has the ending of a row
  only_one : (k j : ℕ) (d : Row) → k < length rows → j < length rows → (get_or rows j d).ending.items ≡ (get_or rows k d).ending.items → j ≡ k
  only_one k j d h l e = elim (cases_lt j k) [
    | inl less ↦ absurd ((pair_at j k d less h).apart e)
    | inr ge ↦ elim (cases_eq j k) [
      | inl here ↦ here
      | inr n ↦ let more : k < j = omega (arith, ge, n) in absurd ((pair_at k j d more l).apart (sym e))
    ]
  ]

  one_row : (w : List ℕ) → IsInterleaving D script x w → HasRow D script x rows w
  one_row w is =
      let a = whole.ended.whole w is in
      let k = a.0 in
      let h : k < length rows = subst (λ n. k < n) size_ended a.2 in
      let t = row_there rows k h in
      let r = t.row in
      let same : a.1 ≡ ended_of r = sym a.3 ∙ get_or_default (ended_entries rows) k a.1 (ended_of r) a.2 ∙ entry_at k r h ∙ ap ended_of (t.at r) in
      record {
        ending = r.ending.items;
        comes = subst (λ e. Comes D script x w e.key) same a.4;
        row = record {
          place = k;
          row = r;
          within = h;
          at = t.at r;
          has = refl;
          only = λ j other l e. only_one k j other h l (e ∙ ap (λ q. q.ending.items) (sym (t.at other)));
        };
      }

  pub explores_of : (longest : ℕ) → ((w : List ℕ) → IsInterleaving D script x w → length w ≤ longest) → (w : List ℕ) → IsInterleaving D script x w → length w ≡ longest
      → Explores D script x rows totals.ended totals.cut longest
  explores_of longest bounded w is size = record {
    each = row_is;
    ends = λ v is. let r = one_row v is in (r.ending, r.comes);
    complete = λ v ending is comes. let r = one_row v is in subst (HasOneRow rows) (one.one v r.ending ending r.comes comes) r.row;
    sorted = λ i j d l h. (pair_at i j d l h).earlier;
    all_ended = whole.all_ended;
    all_cut = whole.all_cut;
    bounded = bounded;
    reached = (w, is, size);
  }
