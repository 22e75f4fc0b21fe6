-- Rows of which the theorem holds, and the same ending in other rows.
use Rattle.fw_explore_meaning.proofs.Common.{ℕ, zero, suc, ◌≡◌, ◌+◌, ◌<◌, ◌≤◌, List, [], ◌∷◌, ◌++◌, Bool, true, false, length, get_or, map, min, inl, inr, refl, sym, ap, subst, ◌∙◌, arith, codes, All}
use Rattle.fw_explore_meaning.proofs.Common.{AllPairs, Contains, Command, DeskRelations, IsFunction, Explored, Row, Comes, Explores}
use Rattle.std.proofs.Common.{◌⊎◌, ◌==◌}
use Rattle.std.proofs.Common.{Decides, decimal}
use Rattle.std.proofs.lemmas.Bool.{cases_lt}
use Rattle.fw_explore_levels.specs.Order.{IsBelow, IsEarlier}
use Rattle.fw_explore_levels.proofs.OrderLaws.{earlier_trans}
use Rattle.fw_explore_meaning.specs.Moves.{IsInterleaving}
use Rattle.fw_explore_meaning.specs.Rows.{IsRow}
use Rattle.fw_explore_meaning.proofs.WholeRows.{row_there}

-- ---- the order is total

below_or : (w v : List ℕ) → length w ≡ length v → (w ≡ v) ⊎ (IsBelow w v ⊎ IsBelow v w)
below_or [] [] e = inl refl
below_or [] (q ∷ v) e = absurd (omega (arith, e))
below_or (p ∷ w) [] e = absurd (omega (arith, e))
below_or (p ∷ w) (q ∷ v) e =
    let size : length w ≡ length v = omega (arith, e) in
    elim (cases_lt p q) [
      | inl less ↦ inr (inl (inl less))
      | inr ge ↦ elim (cases_lt q p) [
        | inl more ↦ inr (inr (inl more))
        | inr le ↦
            let same : p ≡ q = omega (arith, ge, le) in
            elim (below_or w v size) [
              | inl one ↦ inl (ap (λ z. z ∷ w) same ∙ ap (λ z. q ∷ z) one)
              | inr other ↦ elim other [
                | inl less ↦ inr (inl (inr (same, less)))
                | inr more ↦ inr (inr (inr (sym same, more)))
              ]
            ]
      ]
    ]

earlier_or : (w v : List ℕ) → (w ≡ v) ⊎ (IsEarlier w v ⊎ IsEarlier v w)
earlier_or w v = elim (cases_lt (length w) (length v)) [
  | inl less ↦ inr (inl (inl less))
  | inr ge ↦ elim (cases_lt (length v) (length w)) [
    | inl more ↦ inr (inr (inl more))
    | inr le ↦
        let size : length w ≡ length v = omega (arith, ge, le) in
        elim (below_or w v size) [
          | inl one ↦ inl one
          | inr other ↦ elim other [
            | inl less ↦ inr (inl (inr (size, less)))
            | inr more ↦ inr (inr (inr (sym size, more)))
          ]
        ]
  ]
]

-- none of which comes before the other are the same
pub none_earlier : (w v : List ℕ) → (IsEarlier w v → ⊥) → (IsEarlier v w → ⊥) → w ≡ v
none_earlier w v a b = elim (earlier_or w v) [
  | inl one ↦ one
  | inr other ↦ elim other [ inl less ↦ absurd (a less) | inr more ↦ absurd (b more) ]
]

-- ---- a row of each

-- rows of one ending have one first interleaving
pub one_first : (D : DeskRelations) (script : List Command) (x : Explored) (r q : Row) → IsRow D script x r → IsRow D script x q → r.ending.items ≡ q.ending.items → r.first.items ≡ q.first.items
one_first D script x r q a b same = none_earlier r.first.items q.first.items
    (b.first r.first.items a.sound (subst (Comes D script x r.first.items) same (record { kept = a.lines.kept; ends = a.lines.ends })))
    (a.first q.first.items b.sound (subst (Comes D script x q.first.items) (sym same) (record { kept = b.lines.kept; ends = b.lines.ends })))

below_none : (w : List ℕ) → IsBelow w w → ⊥
below_none [] h = h
below_none (p ∷ w) (inl less) = omega (arith, less)
below_none (p ∷ w) (inr both) = below_none w both.1

pub not_itself : (w : List ℕ) → IsEarlier w w → ⊥
not_itself w (inl less) = omega (arith, less)
not_itself w (inr both) = below_none w both.1

-- ---- the row of an ending, in other rows

module _ (D : DeskRelations) (script : List Command) (x : Explored) (rows others : List Row) (e c l e' c' l' : ℕ) (a : Explores D script x rows e c l) (b : Explores D script x others e' c' l') where
  pub record Partner (j : ℕ) : Type 0 where
    pub row : Row
    pub at : (d : Row) → get_or rows j d ≡ row
    pub is : IsRow D script x row
    pub place : ℕ
    pub within : place < length others
    pub other : Row
    pub other_at : (d : Row) → get_or others place d ≡ other
    pub other_is : IsRow D script x other
    pub ending : row.ending.items ≡ other.ending.items

  pub partner : (j : ℕ) → j < length rows → Partner j
  partner j h =
      let r = row_there rows j h in
      let is = subst (IsRow D script x) (r.at r.row) (a.each j r.row h) in
      let one = b.complete r.row.first.items r.row.ending.items is.sound (record { kept = is.lines.kept; ends = is.lines.ends }) in
      let q = row_there others one.place one.within in
      record {
        row = r.row;
        at = r.at;
        is = is;
        place = one.place;
        within = one.within;
        other = q.row;
        other_at = q.at;
        other_is = subst (IsRow D script x) (q.at q.row) (b.each one.place q.row one.within);
        ending = sym one.has ∙ ap (λ (z : Row). z.ending.items) (sym one.at ∙ q.at one.row);
      }

  pub first_same : (j : ℕ) (p : Partner j) → p.row.first.items ≡ p.other.first.items
  first_same j p = one_first D script x p.row p.other p.is p.other_is p.ending

  -- partners come in the order of their rows
  partners_in_order : (i j : ℕ) (p : Partner i) (q : Partner j) → i < j → j < length rows → p.place < q.place
  partners_in_order i j p q less h = elim (cases_lt p.place q.place) [
    | inl before ↦ before
    | inr ge ↦ absurd (elim (cases_lt q.place p.place) [
      | inl after ↦
          let back = subst (λ (z : Row). IsEarlier z.first.items p.other.first.items) (q.other_at q.other) (subst (λ (z : Row). IsEarlier (get_or others q.place q.other).first.items z.first.items)
          (p.other_at q.other)
          (b.sorted q.place p.place q.other after p.within)) in
          not_itself p.row.first.items (earlier_trans p.row.first.items q.row.first.items p.row.first.items ahead
          (subst (λ z. IsEarlier z p.row.first.items) (sym (first_same j q)) (subst (λ z. IsEarlier q.other.first.items z) (sym (first_same i p)) back)))
      | inr le ↦
          let here : p.place ≡ q.place = omega (arith, ge, le) in
          let one : p.other ≡ q.other = sym (p.other_at p.other) ∙ ap (λ z. get_or others z p.other) here ∙ q.other_at p.other in
          let firsts : q.row.first.items ≡ p.row.first.items = first_same j q ∙ ap (λ (z : Row). z.first.items) (sym one) ∙ sym (first_same i p) in
          not_itself p.row.first.items (subst (IsEarlier p.row.first.items) firsts ahead)
    ])
  ]
    where
      ahead : IsEarlier p.row.first.items q.row.first.items
      ahead = subst (λ (z : Row). IsEarlier z.first.items q.row.first.items) (p.at q.row) (subst (λ (z : Row). IsEarlier (get_or rows i q.row).first.items z.first.items) (q.at q.row) (a.sorted i j
          q.row less h))

  -- so none comes sooner than its row
  pub not_sooner : (j : ℕ) (h : j < length rows) → j ≤ (partner j h).place
  not_sooner zero h = omega arith
  not_sooner (suc j) h =
      let less : j < length rows = omega (arith, h) in
      let before = partners_in_order j (suc j) (partner j less) (partner (suc j) h) (omega arith) h in
      let so_far = not_sooner j less in
      omega (arith, before, so_far)
