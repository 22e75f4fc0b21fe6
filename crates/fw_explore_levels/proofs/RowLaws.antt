-- Laws of rows: interleavings by their endings, place by place.
use Rattle.std.proofs.Common.{ℕ, ◌≡◌, ◌+◌, ◌↔◌, ◌⊎◌, min, List, [], length, inl, inr, sym, subst, arith}
use Rattle.std.proofs.lemmas.Bool.{cases_lt}
use Rattle.fw_explore_levels.specs.Counting.{most_told, Counts}
use Rattle.fw_explore_levels.specs.Order.{IsEarlier}
use Rattle.fw_explore_levels.specs.Schedules.{Interleaving}
use Rattle.fw_explore_levels.specs.Tables.{Entry, IsReached, IsTable}
use Rattle.fw_explore_levels.specs.Walks.{IsLevel, IsAt, StandsAt, IsEnded, IsRowHead, AreRows}
use Rattle.fw_explore_levels.proofs.CountLaws.{counts_same, counts_both}
use Rattle.fw_explore_levels.proofs.TableLaws.{HasOneKey, table_more, table_same, no_table}
use Rattle.fw_explore_levels.proofs.ScheduleLaws.{prefix_of}
use Rattle.fw_explore_levels.proofs.WalkLaws.{same_entry_at, entry_at, precedes_at, same_place, first_at, counts_at}

pub none_ended : (M : List ℕ → ℕ → Type 0) (K : List ℕ → List ℕ → Type 0) (level : List Entry) (w : List ℕ) → IsEnded M K 0 level 0 w → ⊥
none_ended M K level w h = elim (h.passed) [ inl less ↦ absurd (omega (arith, less)) | inr p ↦ absurd (omega (arith, p.3)) ]

pub rows_begin : (M : List ℕ → ℕ → Type 0) (K E : List ℕ → List ℕ → Type 0) (C : List ℕ → Type 0) (level : List Entry) → AreRows M K E C 0 level 0 []
rows_begin M K E C level =
    no_table (IsEnded M K 0 level 0) (λ w. IsEnded M K 0 level 0 w × C w) (IsRowHead 0 level 0) E
    (none_ended M K level)

module _ (M : List ℕ → ℕ → Type 0) (K : List ℕ → List ℕ → Type 0) (one_key : HasOneKey K) (n : ℕ) (level : List Entry) (table : IsLevel M K n level)
    (i : ℕ) (e : Entry) (stands : StandsAt level i e) where
  head_more : (f : List ℕ) → IsRowHead n level i f → IsRowHead n level (i + 1) f
  head_more f h = record { passed = elim (h.passed) [ inl less ↦ inl less | inr p ↦ inr (p.0, p.1, p.2, omega (arith, p.3), p.4, p.5) ] }

  ended_more : (w : List ℕ) → IsEnded M K n level i w → IsEnded M K n level (i + 1) w
  ended_more w h = record { ends = h.ends; passed = elim (h.passed) [ inl less ↦ inl less | inr p ↦ inr (p.0, p.1, p.2, omega (arith, p.3), p.4, p.5) ] }

  ended_at : (w : List ℕ) → Interleaving M w → IsAt M K n e w → IsEnded M K n level (i + 1) w
  ended_at w h a = record { ends = h; passed = inr (a.is.size, i, e, omega arith, stands, a.leads) }

  ended_cases : (w : List ℕ) → IsEnded M K n level (i + 1) w → IsEnded M K n level i w ⊎ IsAt M K n e w
  ended_cases w h =
      elim (h.passed) [
        | inl less ↦ inl (record { ends = h.ends; passed = inl less })
        | inr p ↦ elim (cases_lt p.1 i) [
          | inl lt ↦ inl (record { ends = h.ends; passed = inr (p.0, p.1, p.2, lt, p.4, p.5) })
          | inr ge ↦
              let here : p.1 ≡ i = omega (arith, ge, p.3) in
              let same : p.2 ≡ e = same_entry_at level i p.2 e (subst (λ k. StandsAt level k p.2) here p.4) stands in
              inr (record { is = record { schedule = h.ends.schedule; size = p.0 }; leads = subst (λ x. K w x.key) same p.5 })
        ]
      ]

  -- a place that is not passed yet
  not_ended : (w : List ℕ) → IsAt M K n e w → IsEnded M K n level i w → ⊥
  not_ended w a h =
      elim (h.passed) [
        | inl less ↦ absurd (omega (arith, less, a.is.size))
        | inr p ↦ absurd (omega (arith, p.3, same_place M K n level table p.1 i p.2 e p.4 stands (one_key.one w p.2.key e.key p.5 a.leads)))
      ]

  head_later : (f : List ℕ) → IsRowHead n level i f → IsEarlier f e.first
  head_later f h =
      elim (h.passed) [
        | inl less ↦ inl (omega (arith, less, (first_at M K n level table i e stands).is.size))
        | inr p ↦ subst (λ x. IsEarlier x e.first) p.5 (precedes_at M K n level table p.1 i p.2 e p.3 p.4 stands).earlier
      ]

  -- ---- the place has moves

  module _ (moves : (w : List ℕ) → IsAt M K n e w → (p : ℕ) × M w p) where
    pub ended_stays : (w : List ℕ) → IsEnded M K n level i w ↔ IsEnded M K n level (i + 1) w
    ended_stays w = (ended_more w, λ h. elim (ended_cases w h) [ inl x ↦ x | inr a ↦ let m = moves w a in absurd (h.ends.last m.0 m.1) ])

    pub rows_stay : (E : List ℕ → List ℕ → Type 0) (C : List ℕ → Type 0) (rows : List Entry) → AreRows M K E C n level i rows → AreRows M K E C n level (i + 1) rows
    rows_stay E C rows t =
        table_same (IsEnded M K n level i) (λ w. IsEnded M K n level i w × C w) (IsRowHead n level i) (IsEnded M K n level (i + 1)) (λ w. IsEnded M K n level (i + 1) w × C w) (IsRowHead n level
        (i + 1)) E rows
        ended_stays (λ w. (λ p. ((ended_stays w).0 p.0, p.1), λ p. ((ended_stays w).1 p.0, p.1))) head_more t

  -- ---- the place has none: its schedules are interleavings

  module _ (ends : (w : List ℕ) → IsAt M K n e w → (p : ℕ) → M w p → ⊥) where
    pub ends_at : (w : List ℕ) → IsAt M K n e w → Interleaving M w
    ends_at w a = record { schedule = a.is.schedule; last = ends w a }

    pub ended_by : (w : List ℕ) → (IsEnded M K n level i w ⊎ IsAt M K n e w) ↔ IsEnded M K n level (i + 1) w
    ended_by w = (λ s. elim s [ inl h ↦ ended_more w h | inr a ↦ ended_at w (ends_at w a) a ], ended_cases w)

    -- Of them those count that are `C`: so many.
    module _ (C : List ℕ → Type 0) (ways : ℕ) (counts : Counts (λ w. IsAt M K n e w × C w) ways) where
      counted_by : (w : List ℕ) → ((IsEnded M K n level i w × C w) ⊎ (IsAt M K n e w × C w)) ↔ (IsEnded M K n level (i + 1) w × C w)
      counted_by w = (
        λ s. elim s [ inl p ↦ ((ended_by w).0 (inl p.0), p.1) | inr p ↦ ((ended_by w).0 (inr p.0), p.1) ],
        λ p. elim (ended_cases w p.0) [ inl h ↦ inl (h, p.1) | inr a ↦ inr (a, p.1) ],
      )

      pub rows_end : (E : List ℕ → List ℕ → Type 0) (one : HasOneKey E) (ending : List ℕ) → ((w : List ℕ) → IsAt M K n e w → E w ending) → (rows rows' : List Entry)
          → IsReached rows rows' ending ways e.first
          → AreRows M K E C n level i rows → AreRows M K E C n level (i + 1) rows'
      rows_end E one ending at rows rows' r t =
          table_same (λ w. IsEnded M K n level i w ⊎ IsAt M K n e w) (λ w. (IsEnded M K n level i w × C w) ⊎ (IsAt M K n e w × C w)) (λ f. IsRowHead n level i f ⊎ (f ≡ e.first))
          (IsEnded M K n level (i + 1)) (λ w. IsEnded M K n level (i + 1) w × C w) (IsRowHead n level (i + 1)) E rows'
          ended_by counted_by
          (λ f s. elim s [
            | inl h ↦ head_more f h
            | inr is ↦ record {
              passed = inr (
                subst (λ x. length x ≡ n) (sym is)
                    (first_at M K n level table i e stands).is.size,
                i,
                e,
                omega arith,
                stands,
                sym is,
              );
            }
          ])
          (table_more (IsEnded M K n level i) (λ w. IsEnded M K n level i w × C w) (IsRowHead n level i) (IsAt M K n e) (λ w. IsAt M K n e w × C w) E one ending ways e.first
          (record {
            leads = at;
            first_is = first_at M K n level table i e stands;
            no_earlier = λ w a less. (entry_at M K n level table i e stands).no_earlier w a.is a.leads less;
            later = head_later;
            counts = counts;
            within = λ w p. p.0;
            apart = λ w a p. not_ended w a p.0;
          }) rows rows' (λ w p. p.0) r t)

      -- the number of all
      pub total_ends : (total : ℕ) → Counts (λ w. IsEnded M K n level i w × C w) total → Counts (λ w. IsEnded M K n level (i + 1) w × C w) (min most_told (total + ways))
      total_ends total c =
          counts_same (λ w. (IsEnded M K n level i w × C w) ⊎ (IsAt M K n e w × C w)) (λ w. IsEnded M K n level (i + 1) w × C w) (min most_told (total + ways)) counted_by
          (counts_both (λ w. IsEnded M K n level i w × C w) (λ w. IsAt M K n e w × C w) total ways (λ w p a. not_ended w a.0 p.0) c counts)

  -- all of them count
  pub counts_of : (C : List ℕ → Type 0) → ((w : List ℕ) → IsAt M K n e w → C w) → Counts (λ w. IsAt M K n e w × C w) e.ways
  counts_of C all = counts_same (IsAt M K n e) (λ w. IsAt M K n e w × C w) e.ways (λ w. (λ a. (a, all w a), λ p. p.0)) (counts_at M K n level table i e stands)

-- ---- from level to level, and the end

module _ (M : List ℕ → ℕ → Type 0) (K : List ℕ → List ℕ → Type 0) (n : ℕ) (level : List Entry) (table : IsLevel M K n level) where
  pub ended_level : (next : List Entry) (w : List ℕ) → IsEnded M K n level (length level) w ↔ IsEnded M K (n + 1) next 0 w
  ended_level next w = (
    λ h. record { ends = h.ends; passed = inl (elim (h.passed) [ inl less ↦ omega (arith, less) | inr p ↦ omega (arith, p.0) ]) },
    λ h. record {
      ends = h.ends;
      passed = elim (h.passed) [
        | inl less ↦ elim (cases_lt (length w) n) [
          | inl lt ↦ inl lt
          | inr ge ↦
              let size : length w ≡ n = omega (arith, less, ge) in
              let place = table.whole w (record { schedule = h.ends.schedule; size = size }) in
              inr (size, place.0, place.1, place.2, record { within = place.2; at = place.3 }, place.4)
        ]
        | inr p ↦ absurd (omega (arith, p.3))
      ];
    },
  )

  pub rows_level : (E : List ℕ → List ℕ → Type 0) (C : List ℕ → Type 0) (next rows : List Entry) → AreRows M K E C n level (length level) rows → AreRows M K E C (n + 1) next 0 rows
  rows_level E C next rows t =
      table_same (IsEnded M K n level (length level)) (λ w. IsEnded M K n level (length level) w × C w) (IsRowHead n level (length level))
      (IsEnded M K (n + 1) next 0) (λ w. IsEnded M K (n + 1) next 0 w × C w) (IsRowHead (n + 1) next 0) E rows
      (ended_level next) (λ w. (λ p. ((ended_level next w).0 p.0, p.1), λ p. ((ended_level next w).1 p.0, p.1)))
      (λ f h. record { passed = inl (elim (h.passed) [ inl less ↦ omega (arith, less) | inr p ↦ omega (arith, p.0) ]) }) t

-- a level without places: all interleavings are shorter
module _ (M : List ℕ → ℕ → Type 0) (K : List ℕ → List ℕ → Type 0) (n : ℕ) (table : IsLevel M K n []) where
  pub ended_all : (w : List ℕ) → IsEnded M K n [] 0 w ↔ Interleaving M w
  ended_all w = (
    λ h. h.ends,
    λ h. record {
      ends = h;
      passed = elim (cases_lt (length w) n) [
        | inl less ↦ inl less
        | inr ge ↦ let f = prefix_of M n w h.schedule ge in let place = table.whole f.0 f.1 in absurd (omega (arith, place.2))
      ];
    },
  )

  pub rows_whole : (E : List ℕ → List ℕ → Type 0) (C : List ℕ → Type 0) (rows : List Entry) → AreRows M K E C n [] 0 rows
      → IsTable (Interleaving M) (λ w. Interleaving M w × C w) (λ _. Unit {0}) E rows
  rows_whole E C rows t =
      table_same (IsEnded M K n [] 0) (λ w. IsEnded M K n [] 0 w × C w) (IsRowHead n [] 0) (Interleaving M) (λ w. Interleaving M w × C w) (λ _. Unit {0}) E rows
      ended_all (λ w. (λ p. ((ended_all w).0 p.0, p.1), λ p. ((ended_all w).1 p.0, p.1))) (λ f h. tt) t
