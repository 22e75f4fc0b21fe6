-- In a tree whose numbers are those of self-identification, the numbers tell who hangs on whom.
use Rattle.fw_map.proofs.Common.{◌≡◌, inl, inr, ℕ, ◌+◌, ◌-◌, ◌<◌, ◌≤◌, ◌&&◌, nat_lt, List, [], ◌∷◌, ◌++◌, Bool, true, false, arith, refl, sym, ap, ◌∙◌, All, cases_eq, cases_lt, nat_tests, Fits}
use Rattle.fw_map.proofs.Common.{ResetEntry, counted, comes_before, Tree, field_of, Hangs, at_root, down_to, HasPackets, Grown}
use Rattle.fw_tree.specs.Paths.{is_prefix}
use Rattle.fw_tree.proofs.CountLaws.{counted_less}
use Rattle.fw_tree.proofs.StepLaws.{irreflexive}
use Rattle.fw_map.specs.Growing.{IsDone}
use Rattle.fw_map.proofs.PathLaws.{transitive, total, child_first, sibling_port, between, prefix_of_child, prefix_first}
use Rattle.fw_map.proofs.FieldLaws.{no_field}
use Rattle.fw_map.proofs.ShapeLaws.{one_way, root_or_hangs}

low_and : (c n : ℕ) (a : Bool) → c < n → a ≡ true → (nat_lt c n && a) ≡ true
low_and c n a h k = grind (arith, nat_tests)

and_not : (c n : ℕ) (a : Bool) → a ≡ false → (nat_lt c n && a) ≡ false
and_not c n a h = grind (arith, nat_tests)

and_more : (c n : ℕ) (a b : Bool) → (a ≡ true → b ≡ true) → (nat_lt c n && a) ≡ true → (nat_lt c n && b) ≡ true
and_more c n a b e h = grind (arith, nat_tests)

module _ (e : ResetEntry) (t : Tree) (h : HasPackets e t) (few : t.count ≤ 63) where
  path : ℕ → List ℕ
  path = h.numbers.paths

  pub below : (c d p : ℕ) → Hangs t c d p → h.numbers.paths c ≡ h.numbers.paths d ++ p ∷ []
  below c d p g =
      let w = h.nodes c d g.parent in
      one_way t e.root (h.numbers.paths c) (h.numbers.paths d ++ p ∷ []) c c h.top (h.numbers.lead c w.0) (down_to (h.numbers.lead d w.1) p g refl) refl

  pub first_lower : (x y : ℕ) → x < t.count → y < t.count → comes_before (h.numbers.paths x) (h.numbers.paths y) ≡ true → x < y
  first_lower x y a b l =
      let less = counted_less (λ c. nat_lt c t.count && comes_before (h.numbers.paths c) (h.numbers.paths y)) (λ c. nat_lt c t.count && comes_before (h.numbers.paths c) (h.numbers.paths x)) 63 x
      (omega arith)
      (λ k m. and_more k t.count (comes_before (h.numbers.paths k) (h.numbers.paths x)) (comes_before (h.numbers.paths k) (h.numbers.paths y))
      (λ i. transitive (h.numbers.paths k) (h.numbers.paths x) (h.numbers.paths y) i l) m)
      (and_not x t.count (comes_before (h.numbers.paths x) (h.numbers.paths x)) (irreflexive (h.numbers.paths x)))
      (low_and x t.count (comes_before (h.numbers.paths x) (h.numbers.paths y)) a l) in
      let p = h.numbers.places x a in
      let q = h.numbers.places y b in
      omega arith

  pub same_path : (x y : ℕ) → x < t.count → y < t.count → h.numbers.paths x ≡ h.numbers.paths y → x ≡ y
  same_path x y a b s = h.numbers.places x a ∙ (ap (λ v. counted (λ c. nat_lt c t.count && comes_before (h.numbers.paths c) v) 63) s ∙ sym (h.numbers.places y b))

  pub lower_first : (x y : ℕ) → x < y → y < t.count → comes_before (h.numbers.paths x) (h.numbers.paths y) ≡ true
  lower_first x y l b = elim (total (h.numbers.paths x) (h.numbers.paths y)) [
    | inl f ↦ f
    | inr r ↦ elim r [
      | inl s ↦ absurd (let z = same_path x y (omega arith) b s in omega arith)
      | inr f ↦ absurd (let z = first_lower y x b (omega arith) f in omega arith)
    ]
  ]

  up : (c d p : ℕ) → Hangs t c d p → c < d
  up c d p g =
      let w = h.nodes c d g.parent in
      first_lower c d w.0 w.1 (rw (below c d p g) (child_first (h.numbers.paths d) p))

  nested : (x y d p : ℕ) → Hangs t x d p → x < y → y < d → (f r : ℕ) × Hangs t y f r × (f ≤ d)
  nested x y d p g l m =
      let w = h.nodes x d g.parent in
      let low : y < t.count = omega (arith, w.1) in
      let after : comes_before (h.numbers.paths d ++ p ∷ []) (h.numbers.paths y) ≡ true = rw (below x d p g) at (lower_first x y l low) in
      let before : comes_before (h.numbers.paths y) (h.numbers.paths d) ≡ true = lower_first y d m w.1 in
      elim (root_or_hangs t e.root (h.numbers.paths y) y (h.numbers.lead y low)) [
        | inl top ↦ absurd (
            let empty : h.numbers.paths y ≡ [] = one_way t e.root (h.numbers.paths y) [] y e.root h.top (h.numbers.lead y low) at_root top in
            let b : comes_before [] (h.numbers.paths d) ≡ true = rw empty at before in
            let z : ⊥ = cc in z)
        | inr up ↦ (up.0, up.1, up.2, at_most up.0 up.1 up.2 (between (h.numbers.paths d) (h.numbers.paths y) p after before))
      ]
    where
      at_most : (f r : ℕ) → Hangs t y f r → is_prefix (h.numbers.paths d) (h.numbers.paths y) ≡ true → f ≤ d
      at_most f r k prefix =
          let w = h.nodes x d g.parent in
          let v = h.nodes y f k.parent in
          elim (cases_lt d f) [
            | inr more ↦ more
            | inl less ↦ absurd (elim (prefix_of_child (h.numbers.paths d) (h.numbers.paths f) r (rw (below y f r k) at prefix)) [
              | inl i ↦ elim (prefix_first (h.numbers.paths d) (h.numbers.paths f) i) [
                | inl s ↦ let z = same_path f d v.1 w.1 s in omega arith
                | inr b ↦ let z = first_lower f d v.1 w.1 b in omega arith
              ]
              | inr s ↦ let z = same_path d y w.1 v.0 (s ∙ sym (below y f r k)) in omega arith
            ])
          ]

  -- the root is the last node
  pub root_last : e.root + 1 ≡ t.count
  root_last = elim (cases_eq (e.root + 1) t.count) [
    | inl same ↦ same
    | inr differ ↦ absurd (
        let top = h.root in
        let last : t.count - 1 < t.count = omega arith in
        elim (root_or_hangs t e.root (h.numbers.paths (t.count - 1)) (t.count - 1) (h.numbers.lead (t.count - 1) last)) [
          | inl same ↦ omega arith
          | inr w ↦ let l = up (t.count - 1) w.0 w.1 w.2 in let b = (h.nodes (t.count - 1) w.0 w.2.parent).1 in omega arith
        ])
  ]

  pub grown : All Fits e.ids → Grown e.ids t.count 27 t
  grown fits = record {
    up = up;
    done = λ c d p g. inl (h.nodes c d g.parent).1;
    field = λ c d p g. (h.children d p (h.nodes c d g.parent).1).1 (c, g);
    ports = h.ports;
    child = λ d p k f. child_at d p k f;
    ordered = λ x y d p r a b l.
        let w = h.nodes y d b.parent in
        sibling_port (h.numbers.paths d) p r (rw (below x d p a, below y d r b) at (lower_first x y l w.0));
    nested = nested;
  }
    where
      child_at : (d p : ℕ) → IsDone t.count 27 d p → field_of e.ids d p ≡ 3 → (c : ℕ) × Hangs t c d p
      child_at d p (inl low) f = (h.children d p low).0 f
      child_at d p (inr k) f = absurd (let e = no_field e.ids d p fits k.1 in omega arith)
