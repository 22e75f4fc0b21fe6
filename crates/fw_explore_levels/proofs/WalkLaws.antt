-- Laws of levels: from one level to the next, place by place and move by move.
use Rattle.std.proofs.Common.{ℕ, ◌≡◌, ◌+◌, ◌<◌, ◌↔◌, ◌⊎◌, List, [], ◌∷◌, ◌++◌, length, get_or, inl, inr, refl, sym, subst, ◌∙◌, arith}
use Rattle.std.proofs.lemmas.Bool.{cases_eq, cases_lt}
use Rattle.std.proofs.lemmas.List.{get_or_default, same_from_push, nil_from_length}
use Rattle.fw_explore_levels.specs.Counting.{Counts}
use Rattle.fw_explore_levels.specs.Order.{IsEarlier}
use Rattle.fw_explore_levels.specs.Schedules.{begun, IsOfLength}
use Rattle.fw_explore_levels.specs.Tables.{Entry, IsReached, IsEntry, Precedes}
use Rattle.fw_explore_levels.specs.Walks.{IsLevel, IsAt, StandsAt, IsBefore, IsTaken, IsHead, IsUnderWay, LeadsOn, IsNoMove}
use Rattle.fw_explore_levels.proofs.OrderLaws.{earlier_push, earlier_last, earlier_prefix}
use Rattle.fw_explore_levels.proofs.CountLaws.{counts_same, counts_pushed}
use Rattle.fw_explore_levels.proofs.TableLaws.{HasOneKey, IsMore, table_more, table_same, no_table, one_table}
use Rattle.fw_explore_levels.proofs.ScheduleLaws.{longer_of, of_longer}

-- ---- entries of a level

pub same_entry_at : (level : List Entry) (i : ℕ) (a b : Entry) → StandsAt level i a → StandsAt level i b → a ≡ b
same_entry_at level i a b s t = sym s.at ∙ get_or_default level i a b s.within ∙ t.at

module _ (M : List ℕ → ℕ → Type 0) (K : List ℕ → List ℕ → Type 0) (n : ℕ) (level : List Entry) (table : IsLevel M K n level) where
  pub entry_at : (i : ℕ) (e : Entry) → StandsAt level i e → IsEntry (IsOfLength M n) (IsOfLength M n) (λ _. Unit {0}) K e
  entry_at i e s = subst (IsEntry (IsOfLength M n) (IsOfLength M n) (λ _. Unit {0}) K) s.at (table.each i e s.within)

  pub precedes_at : (i j : ℕ) (a b : Entry) → i < j → StandsAt level i a → StandsAt level j b → Precedes a b
  precedes_at i j a b less s t =
      subst (λ x. Precedes x b) s.at (subst (Precedes (get_or level i a)) (get_or_default level j a b t.within ∙ t.at) (table.in_order i j a less t.within))

  -- two places of one key are one
  pub same_place : (i j : ℕ) (a b : Entry) → StandsAt level i a → StandsAt level j b → a.key ≡ b.key → i ≡ j
  same_place i j a b s t e =
      elim (cases_lt i j) [
        | inl less ↦ absurd ((precedes_at i j a b less s t).apart e)
        | inr more ↦ elim (cases_eq i j) [ inl same ↦ same | inr n ↦ absurd ((precedes_at j i b a (omega (arith, more, n)) t s).apart (sym e)) ]
      ]

  -- the first of a place leads there
  pub first_at : (i : ℕ) (e : Entry) → StandsAt level i e → IsAt M K n e e.first
  first_at i e s = let h = entry_at i e s in record { is = h.is; leads = h.leads }

  pub counts_at : (i : ℕ) (e : Entry) → StandsAt level i e → Counts (IsAt M K n e) e.ways
  counts_at i e s = counts_same (λ w. IsOfLength M n w × K w e.key) (IsAt M K n e) e.ways (λ w. (λ p. record { is = p.0; leads = p.1 }, λ a. (a.is, a.leads))) (entry_at i e s).counts

-- ---- the first level

pub level_begins : (M : List ℕ → ℕ → Type 0) (K : List ℕ → List ℕ → Type 0) (key : List ℕ) → K [] key → IsLevel M K 0 (record { key = key; ways = 1; first = [] } ∷ [])
level_begins M K key k =
    one_table (IsOfLength M 0) (λ _. Unit {0}) K key [] (record { schedule = begun; size = refl }) tt k
    (λ w h. sym (nil_from_length w h.size)) (λ h. elim h [ inl less ↦ absurd (omega (arith, less)) | inr e ↦ absurd (e.1) ])

-- ---- the next

pub none_taken : (M : List ℕ → ℕ → Type 0) (K : List ℕ → List ℕ → Type 0) (n : ℕ) (level : List Entry) (w : List ℕ) → IsTaken M K n level 0 0 w → ⊥
none_taken M K n level w t = elim (t.sooner) [ inl less ↦ absurd (omega (arith, less)) | inr e ↦ absurd (omega (arith, e.1)) ]

pub walk_begins : (M : List ℕ → ℕ → Type 0) (K : List ℕ → List ℕ → Type 0) (n : ℕ) (level : List Entry) → IsUnderWay M K n level 0 0 []
walk_begins M K n level =
    no_table (IsTaken M K n level 0 0) (IsTaken M K n level 0 0) (IsHead level 0 0) K
    (none_taken M K n level)

module _ (M : List ℕ → ℕ → Type 0) (K : List ℕ → List ℕ → Type 0) (one : HasOneKey K) (n : ℕ) (level : List Entry) (table : IsLevel M K n level)
    (i p : ℕ) (e : Entry) (stands : StandsAt level i e) where
  sooner_more : (place last : ℕ) → IsBefore place last i p → IsBefore place last i (p + 1)
  sooner_more place last (inl less) = inl less
  sooner_more place last (inr s) = inr (s.0, omega (arith, s.1))

  sooner_cases : (place last : ℕ) → IsBefore place last i (p + 1) → IsBefore place last i p ⊎ ((place ≡ i) × (last ≡ p))
  sooner_cases place last (inl less) = inl (inl less)
  sooner_cases place last (inr s) = elim (cases_lt last p) [ inl less ↦ inl (inr (s.0, less)) | inr ge ↦ inr (s.0, omega (arith, s.1, ge)) ]

  -- the schedules of the place with the move after them
  abbrev pub With : List ℕ → Type 0
  With w = (v : List ℕ) × (w ≡ v ++ p ∷ []) × IsAt M K n e v

  head_later : (f : List ℕ) → IsHead level i p f → IsEarlier f (e.first ++ p ∷ [])
  head_later f h =
      subst (λ x. IsEarlier x (e.first ++ p ∷ [])) (sym h.is)
      (elim (h.sooner) [
        | inl less ↦ earlier_push h.entry.first e.first h.last p (precedes_at M K n level table h.place i h.entry e less h.stands stands).earlier
        | inr s ↦
            let same : h.entry ≡ e = same_entry_at level i h.entry e (subst (λ k. StandsAt level k h.entry) s.0 h.stands) stands in
            subst (λ x. IsEarlier (x.first ++ h.last ∷ []) (e.first ++ p ∷ [])) (sym same) (earlier_last e.first h.last p s.1)
      ])

  pub not_taken : (w : List ℕ) → With w → IsTaken M K n level i p w → ⊥
  not_taken w a t =
      let parts = same_from_push a.0 t.before p t.last (sym a.1 ∙ t.is) in
      let key-same : e.key ≡ t.entry.key = one.one t.before e.key t.entry.key (subst (λ x. K x e.key) parts.0 a.2.leads) t.there.leads in
      let place-same : i ≡ t.place = same_place M K n level table i t.place e t.entry stands t.stands key-same in
      elim (t.sooner) [ inl less ↦ absurd (omega (arith, less, place-same)) | inr s ↦ absurd (omega (arith, s.1, parts.1)) ]

  more : (key : List ℕ) → LeadsOn M K n e p key → IsMore (IsTaken M K n level i p) (IsTaken M K n level i p) (IsHead level i p) With With K key e.ways (e.first ++ p ∷ [])
  more key on = record {
    leads = λ w a. subst (λ x. K x key) (sym a.1) (on a.0 a.2).1;
    first_is = (e.first, refl, first_at M K n level table i e stands);
    no_earlier = λ w a less. (entry_at M K n level table i e stands).no_earlier a.0 a.2.is a.2.leads (earlier_prefix a.0 e.first p (subst (λ x. IsEarlier x (e.first ++ p ∷ [])) a.1 less));
    later = head_later;
    counts = counts_pushed (IsAt M K n e) e.ways p (counts_at M K n level table i e stands);
    within = λ w d. d;
    apart = not_taken;
  }

  -- taken up to this move, or by it
  pub taken_more : (key : List ℕ) → LeadsOn M K n e p key → (w : List ℕ) → (IsTaken M K n level i p w ⊎ With w) ↔ IsTaken M K n level i (p + 1) w
  taken_more key on w = (
    λ s. elim s [
      | inl t ↦ record {
        place = t.place;
        entry = t.entry;
        stands = t.stands;
        before = t.before;
        there = t.there;
        last = t.last;
        moves = t.moves;
        is = t.is;
        sooner = sooner_more t.place t.last
            t.sooner;
      }
      | inr a ↦ record { place = i; entry = e; stands = stands; before = a.0; there = a.2; last = p; moves = (on a.0 a.2).0; is = a.1; sooner = inr (refl, omega arith) }
    ],
    λ t. elim (sooner_cases t.place t.last t.sooner) [
      | inl s ↦ inl (record { place = t.place; entry = t.entry; stands = t.stands; before = t.before; there = t.there; last = t.last; moves = t.moves; is = t.is; sooner = s })
      | inr s ↦
          let same : t.entry ≡ e = same_entry_at level i t.entry e (subst (λ k. StandsAt level k t.entry) s.0 t.stands) stands in
          inr (t.before, subst (λ q. w ≡ t.before ++ q ∷ []) s.1 t.is, subst (λ x. IsAt M K n x t.before) same t.there)
    ],
  )

  -- the move leads to a key
  pub walk_moves : (key : List ℕ) (next next' : List Entry) → LeadsOn M K n e p key → IsReached next next' key e.ways (e.first ++ p ∷ [])
      → IsUnderWay M K n level i p next → IsUnderWay M K n level i (p + 1) next'
  walk_moves key next next' on r t =
      table_same (λ w. IsTaken M K n level i p w ⊎ With w) (λ w. IsTaken M K n level i p w ⊎ With w) (λ f. IsHead level i p f ⊎ (f ≡ e.first ++ p ∷ [])) (IsTaken M K n level i (p + 1))
      (IsTaken M K n level i (p + 1)) (IsHead level i (p + 1)) K next'
      (taken_more key on) (taken_more key on)
      (λ f s. elim s [
        | inl h ↦ record { place = h.place; entry = h.entry; stands = h.stands; last = h.last; is = h.is; sooner = sooner_more h.place h.last h.sooner }
        | inr is ↦ record { place = i; entry = e; stands = stands; last = p; is = is; sooner = inr (refl, omega arith) }
      ])
      (table_more (IsTaken M K n level i p) (IsTaken M K n level i p) (IsHead level i p) With With K one key e.ways (e.first ++ p ∷ []) (more key on) next next' (λ w c. c) r t)

  -- it is no move there
  pub taken_stays : IsNoMove M K n e p → (w : List ℕ) → IsTaken M K n level i p w ↔ IsTaken M K n level i (p + 1) w
  taken_stays none w = (
    λ a. record {
      place = a.place;
      entry = a.entry;
      stands = a.stands;
      before = a.before;
      there = a.there;
      last = a.last;
      moves = a.moves;
      is = a.is;
      sooner = sooner_more a.place a.last
          a.sooner;
    },
    λ a. elim (sooner_cases a.place a.last a.sooner) [
      | inl s ↦ record { place = a.place; entry = a.entry; stands = a.stands; before = a.before; there = a.there; last = a.last; moves = a.moves; is = a.is; sooner = s }
      | inr s ↦
          let same : a.entry ≡ e = same_entry_at level i a.entry e (subst (λ k. StandsAt level k a.entry) s.0 a.stands) stands in
          absurd (none a.before (subst (λ x. IsAt M K n x a.before) same a.there) (subst (M a.before) s.1 a.moves))
    ],
  )

  pub walk_stays : (next : List Entry) → IsNoMove M K n e p → IsUnderWay M K n level i p next → IsUnderWay M K n level i (p + 1) next
  walk_stays next none t =
      table_same (IsTaken M K n level i p) (IsTaken M K n level i p) (IsHead level i p) (IsTaken M K n level i (p + 1)) (IsTaken M K n level i (p + 1)) (IsHead level i (p + 1)) K next
      (taken_stays none) (taken_stays none)
      (λ f h. record { place = h.place; entry = h.entry; stands = h.stands; last = h.last; is = h.is; sooner = sooner_more h.place h.last h.sooner }) t

module _ (M : List ℕ → ℕ → Type 0) (K : List ℕ → List ℕ → Type 0) (n : ℕ) (level : List Entry) where
  -- all moves of a place are taken: there are none from m on
  module _ (m : ℕ) (bound : (w : List ℕ) (q : ℕ) → M w q → q < m) (i : ℕ) where
    over : (place last : ℕ) → IsBefore place last i m → IsBefore place last (i + 1) 0
    over place last s = elim s [ inl less ↦ inl (omega (arith, less)) | inr e ↦ inl (omega (arith, e.0)) ]

    back : (place last : ℕ) → last < m → IsBefore place last (i + 1) 0 → IsBefore place last i m
    back place last b s = elim s [
      | inl less ↦ elim (cases_lt place i) [ inl lt ↦ inl lt | inr ge ↦ inr (omega (arith, less, ge), b) ]
      | inr e ↦ absurd (omega (arith, e.1))
    ]

    pub taken_next : (w : List ℕ) → IsTaken M K n level i m w ↔ IsTaken M K n level (i + 1) 0 w
    taken_next w = (
      λ a. record { place = a.place; entry = a.entry; stands = a.stands; before = a.before; there = a.there; last = a.last; moves = a.moves; is = a.is; sooner = over a.place a.last a.sooner },
      λ a. record {
        place = a.place;
        entry = a.entry;
        stands = a.stands;
        before = a.before;
        there = a.there;
        last = a.last;
        moves = a.moves;
        is = a.is;
        sooner = back a.place a.last
            (bound a.before a.last a.moves) a.sooner;
      },
    )

    pub walk_next : (next : List Entry) → IsUnderWay M K n level i m next → IsUnderWay M K n level (i + 1) 0 next
    walk_next next t =
        table_same (IsTaken M K n level i m) (IsTaken M K n level i m) (IsHead level i m) (IsTaken M K n level (i + 1) 0) (IsTaken M K n level (i + 1) 0) (IsHead level
        (i + 1) 0) K next taken_next taken_next
        (λ f h. record { place = h.place; entry = h.entry; stands = h.stands; last = h.last; is = h.is; sooner = over h.place h.last h.sooner }) t

  -- all places are passed
  module _ (table : IsLevel M K n level) where
    pub taken_all : (w : List ℕ) → IsTaken M K n level (length level) 0 w ↔ IsOfLength M (n + 1) w
    taken_all w = (
      λ a. of_longer M n w (record { before = a.before; of = a.there.is; last = a.last; moves = a.moves; is = a.is }),
      λ h. let l = longer_of M n w h in let place = table.whole l.before l.of in record {
        place = place.0;
        entry = place.1;
        stands = record { within = place.2; at = place.3 };
        before = l.before;
        there = record { is = l.of; leads = place.4 };
        last = l.last;
        moves = l.moves;
        is = l.is;
        sooner = inl place.2;
      },
    )

    pub walk_ends : (next : List Entry) → IsUnderWay M K n level (length level) 0 next → IsLevel M K (n + 1) next
    walk_ends next t =
        table_same (IsTaken M K n level (length level) 0) (IsTaken M K n level (length level) 0) (IsHead level (length level) 0) (IsOfLength M (n + 1)) (IsOfLength M (n + 1))
        (λ _. Unit {0}) K next taken_all taken_all (λ f h. tt) t
