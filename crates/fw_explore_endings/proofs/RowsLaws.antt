-- Rows as they grow: an ending that is there is counted again, and another is a row more.
use Rattle.std.proofs.Common.{ℕ, ◌≡◌, ◌≢◌, ◌+◌, ◌<◌, List, [], ◌∷◌, ◌++◌, length, get_or, set, map, min, inl, inr, sym, ap, subst, ◌∙◌}
use Rattle.std.specs.List.{All}
use Rattle.std.proofs.lemmas.List.{length-map, map-append, map-set, set-get_or, get_or-map}
use Rattle.std.proofs.lemmas.List.Elements.{All-map}
use Rattle.fw_explore_levels.specs.Counting.{most_told}
use Rattle.fw_explore_levels.specs.Tables.{Entry, IsReached}
use Rattle.fw_explore_endings.specs.declared.rows.Row.{Row}
use Rattle.fw_explore_endings.specs.Tallies.{ended_of, cut_of, ended_entries, cut_entries, telling_of, KeepsLast}

-- a row with other counts
abbrev pub counted : Row → ℕ → ℕ → Row
counted r ended cut = record { ending = r.ending; ended = min most_told (r.ended + ended); cut = min most_told (r.cut + cut); first = r.first; lines = r.lines }

-- what is set to what stands there is as it was
set_same : {T : Type 0} (xs : List T) (i : ℕ) (x : T) → get_or xs i x ≡ x → set xs i x ≡ xs
set_same xs i x e = ap (set xs i) (sym e) ∙ set-get_or xs i x

module _ (old new : List Row) (place : ℕ) (r : Row) (ending first : List ℕ) (ended cut : ℕ) (within : place < length old) (at : get_or old place r ≡ r)
    (same : r.ending.items ≡ ending) (is : new ≡ set old place (counted r ended cut)) where
  pub ended_again : IsReached (ended_entries old) (ended_entries new) ending ended first
  ended_again = inl (record {
    place = place;
    entry = ended_of r;
    within = subst (λ n. place < n) (sym (length-map old ended_of)) within;
    at = get_or-map ended_of old place r (ended_of r) within ∙ ap ended_of at;
    same = same;
    is = ap (map ended_of) is ∙ map-set ended_of old place (counted r ended cut);
  })

  pub cut_again : IsReached (cut_entries old) (cut_entries new) ending cut first
  cut_again = inl (record {
    place = place;
    entry = cut_of r;
    within = subst (λ n. place < n) (sym (length-map old cut_of)) within;
    at = get_or-map cut_of old place r (cut_of r) within ∙ ap cut_of at;
    same = same;
    is = ap (map cut_of) is ∙ map-set cut_of old place (counted r ended cut);
  })

  pub told_again : (row : Row) → KeepsLast old new row
  told_again row = inl (ap (map telling_of) is ∙ map-set telling_of old place (counted r ended cut)
      ∙ set_same (map telling_of old) place (telling_of r) (get_or-map telling_of old place r (telling_of r) within ∙ ap telling_of at))

pub none_of : (old list : List Row) (row : Row) (ending : List ℕ) → list ≡ old → ending ≡ row.ending.items → All (λ (r : Row). r.ending.items ≢ ending) list
    → All (λ (r : Row). r.ending.items ≢ row.ending.items) old
none_of old list row ending l e none =
    subst (λ (rs : List Row). All (λ (r : Row). r.ending.items ≢ row.ending.items) rs) l (subst (λ (x : List ℕ). All (λ (r : Row). r.ending.items ≢ x) list) e none)

module _ (old new : List Row) (row : Row) (none : All (λ (r : Row). r.ending.items ≢ row.ending.items) old) (is : new ≡ old ++ row ∷ []) where
  pub ended_more : IsReached (ended_entries old) (ended_entries new) row.ending.items row.ended row.first.items
  ended_more = inr (record { none = All-map (λ (e : Entry). e.key ≢ row.ending.items) ended_of old none; is = ap (map ended_of) is ∙ map-append ended_of old (row ∷ []) })

  pub cut_more : IsReached (cut_entries old) (cut_entries new) row.ending.items row.cut row.first.items
  cut_more = inr (record { none = All-map (λ (e : Entry). e.key ≢ row.ending.items) cut_of old none; is = ap (map cut_of) is ∙ map-append cut_of old (row ∷ []) })

  pub told_more : KeepsLast old new row
  told_more = inr (ap (map telling_of) is ∙ map-append telling_of old (row ∷ []))

pub same_ending : (old list : List Row) (place : ℕ) (r : Row) (ending key : List ℕ) → list ≡ old → ending ≡ key → get_or old place r ≡ r
    → (get_or list place r).ending.items ≡ ending → r.ending.items ≡ key
same_ending old list place r ending key l e at same =
    sym (ap (λ (x : Row). x.ending.items) at) ∙ ap (λ (rs : List Row). (get_or rs place r).ending.items) (sym l) ∙ same ∙ e
