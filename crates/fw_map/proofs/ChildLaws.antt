-- One node hangs the branch on itself that its highest port with a child is for.
use Rattle.fw_map.proofs.Common.{◌≡◌, ◌⊎◌, inl, inr, ℕ, ◌+◌, ◌-◌, ◌<◌, ◌≤◌, ◌==◌, not, List, None, true, false, arith, refl, sym, ap, ◌∙◌, All, cases_eq, cases_lt, eq-eqb, PhyPacket, Fits, counted}
use Rattle.fw_map.proofs.Common.{Bool}
use Rattle.fw_map.proofs.Common.{number_at, is_there, counted_same, counted_none, counted_zero, counted_yes, truth, Tree, field_of, fields, branches, Hangs, Grown, Agrees, is_open}
use Rattle.fw_tree.proofs.CountLaws.{counted_more}
use Rattle.fw_map.specs.Growing.{IsDone, Counts}
use Rattle.fw_map.proofs.FieldLaws.{no_field}
use Rattle.fw_map.proofs.ShapeLaws.{some_of, none_of, same_some, hangs_of}
use Rattle.fw_map.proofs.JoinLaws.{branches_step, IsJoined, same_field, same_hangs, open_no}

module _ (ids : List PhyPacket) (i : ℕ) (fits : All Fits ids) where
  -- at the next port down a child is to hang
  module _ (t : Tree) (p below : ℕ) (some : 0 < p) (is_child : field_of ids i (p - 1) ≡ 3) (low : below ≤ i) (closed : (x : ℕ) → below ≤ x → x < i → is_there (number_at t.parent x) ≡ true)
      (taken : (x q : ℕ) → Hangs t x i q → below ≤ x) (g : Grown ids i p t) where
    -- the child that another tree has there has no parent yet
    pub child_open : (s : Tree) (n c : ℕ) → i < n → Grown ids n 27 s → Agrees s t i p → Hangs s c i (p - 1) → number_at t.parent c ≡ None
    child_open s n c m w a h = elim (truth (is_there (number_at t.parent c))) [
      | inr off ↦ none_of (number_at t.parent c) off
      | inl on ↦ absurd (
          let d = some_of (number_at t.parent c) on in
          let v = hangs_of t c d.0 (g.ports c) d.1 in
          let b = a.back c d.0 v.0 v.1 in
          let e = same_some (number_at s.parent c) d.0 i b.parent h.parent in
          let f = same_some (number_at s.parent_port c) v.0 (p - 1) b.port h.port in
          elim (g.done c d.0 v.0 v.1) [ inl l ↦ omega arith | inr k ↦ omega (arith, k.1) ])
    ]

    pub child_low : (s : Tree) (n c : ℕ) → i < n → Grown ids n 27 s → Agrees s t i p → Hangs s c i (p - 1) → c < below
    child_low s n c m w a h = elim (cases_lt c below) [
      | inl l ↦ l
      | inr high ↦ absurd (let x = closed c high (w.up c i (p - 1) h) in let y = child_open s n c m w a h in let z : ⊥ = cc in z)
    ]

    -- if none without a parent is left, a branch is missing
    pub missing : ((x : ℕ) → x < below → is_there (number_at t.parent x) ≡ true) → Counts ids i p t → branches ids i < fields ids i 3
    missing none c =
        let f : ℕ → Bool = λ q. field_of ids i q == 3 in
        let on : f (p - 1) ≡ true = eq-eqb (field_of ids i (p - 1)) 3 is_child in
        let e : p - 1 + 1 ≡ p = omega arith in
        let s : counted f p ≡ counted f (p - 1) + 1 = ap (counted f) (sym e) ∙ counted_yes f (p - 1) on in
        let shut : (x : ℕ) → x < i → is_open t x ≡ false = λ x l. open_no (number_at t.parent x) (all x l) in
        let zero : counted (is_open t) i ≡ 0 = counted_same (is_open t) (λ x. false) i shut ∙ counted_zero (λ x. false) i (λ x. refl) in
        omega arith
      where
        all : (x : ℕ) → x < i → is_there (number_at t.parent x) ≡ true
        all x l = elim (cases_lt x below) [ inl m ↦ none x m | inr m ↦ closed x m l ]

    pub missing_none : (s : Tree) (n : ℕ) → i < n → Grown ids n 27 s → Agrees s t i p → ((x : ℕ) → x < below → is_there (number_at t.parent x) ≡ true) → ⊥
    missing_none s n m w a none =
        let k = w.child i (p - 1) (inl m) is_child in
        let l = none k.0 (child_low s n k.0 m w a k.1) in
        let o = child_open s n k.0 m w a k.1 in
        let z : ⊥ = cc in z

    -- the highest without a parent hangs there
    module _ (c : ℕ) (u : Tree) (lower : c < below) (free : number_at t.parent c ≡ None) (highest : (x : ℕ) → c < x → x < below → is_there (number_at t.parent x) ≡ true)
        (j : IsJoined t u c i (p - 1)) where
      between : (x : ℕ) → c < x → x < i → is_there (number_at t.parent x) ≡ true
      between x l m = elim (cases_lt x below) [ inl k ↦ highest x l k | inr k ↦ closed x k m ]

      pub some_closed : (x : ℕ) → c ≤ x → x < i → is_there (number_at u.parent x) ≡ true
      some_closed x l m = elim (cases_eq x c) [
        | inl same ↦ ap is_there (ap (number_at u.parent) same ∙ j.new.parent)
        | inr differ ↦ ap is_there (j.others x differ) ∙ between x (omega arith) m
      ]

      pub some_taken : (x q : ℕ) → Hangs u x i q → c ≤ x
      some_taken x q h = elim (j.was x i q h) [ inl k ↦ omega (arith, k.0) | inr k ↦ omega (arith, taken x q k) ]

      pub some_counts : Counts ids i p t → Counts ids i (p - 1) u
      some_counts k =
          let f : ℕ → Bool = λ q. field_of ids i q == 3 in
          let on : f (p - 1) ≡ true = eq-eqb (field_of ids i (p - 1)) 3 is_child in
          let e : p - 1 + 1 ≡ p = omega arith in
          let s : counted f p ≡ counted f (p - 1) + 1 = ap (counted f) (sym e) ∙ counted_yes f (p - 1) on in
          let fewer : counted (is_open t) i ≡ counted (is_open u) i + 1 =
          counted_more (is_open u) (is_open t) i c (omega arith) (ap (λ o. not (is_there o)) j.new.parent) (ap (λ o. not (is_there o)) free)
          (λ x w. ap (λ o. not (is_there o)) (sym (j.others x w))) in
          omega arith

      pub some_grown : Grown ids i (p - 1) u
      some_grown = record {
        up = λ x d r h. elim (j.was x d r h) [ inl k ↦ omega (arith, k.0, k.1) | inr o ↦ g.up x d r o ];
        done = λ x d r h. elim (j.was x d r h) [
          | inl k ↦ inr (k.1, omega (arith, k.2))
          | inr o ↦ elim (g.done x d r o) [ inl l ↦ inl l | inr m ↦ inr (m.0, omega (arith, m.1)) ]
        ];
        field = λ x d r h. elim (j.was x d r h) [ inl k ↦ same_field ids d i r (p - 1) k.1 k.2 ∙ is_child | inr o ↦ g.field x d r o ];
        ports = j.ports;
        child = λ d r k f. child_at d r k f;
        ordered = λ x y d r q a b l. elim (j.was x d r a) [
          | inl v ↦ elim (j.was y d q b) [
            | inl w ↦ absurd (omega (arith, v.0, w.0))
            | inr w ↦ elim (g.done y d q w) [ inl m ↦ absurd (omega (arith, v.1)) | inr m ↦ omega (arith, v.2, m.1) ]
          ]
          | inr v ↦ elim (j.was y d q b) [
            | inl w ↦ absurd (let here = taken x r (same_hangs t x d r x i r refl (sym w.1) refl v) in omega (arith, w.0))
            | inr w ↦ g.ordered x y d r q v w l
          ]
        ];
        nested = λ x y d r a l m. nested_at x y d r a l m (j.was x d r a);
      }
        where
          child_at : (d r : ℕ) → IsDone i (p - 1) d r → field_of ids d r ≡ 3 → (x : ℕ) × Hangs u x d r
          child_at d r (inl l) f = let w = g.child d r (inl l) f in (w.0, j.old w.0 d r w.1)
          child_at d r (inr k) f = elim (cases_eq r (p - 1)) [
            | inl same ↦ (c, same_hangs u c i (p - 1) c d r refl k.0 same j.new)
            | inr differ ↦ let w = g.child d r (inr (k.0, omega (arith, k.1))) f in (w.0, j.old w.0 d r w.1)
          ]

          nested_at : (x y d r : ℕ) → Hangs u x d r → x < y → y < d → ((x ≡ c) × (d ≡ i) × (r ≡ p - 1)) ⊎ Hangs t x d r → (e q : ℕ) × Hangs u y e q × (e ≤ d)
          nested_at x y d r a l m (inl k) =
              let w = some_of (number_at t.parent y) (between y (omega (arith, k.0)) (omega (arith, k.1))) in
              let v = hangs_of t y w.0 (g.ports y) w.1 in
              (w.0, v.0, j.old y w.0 v.0 v.1, elim (g.done y w.0 v.0 v.1) [ inl b ↦ omega (arith, k.1) | inr b ↦ omega (arith, k.1, b.0) ])
          nested_at x y d r a l m (inr o) = let w = g.nested x y d r o l m in (w.0, w.1, j.old y w.0 w.1 w.2, w.3)

      -- it is the child that another tree has there
      pub right_child : (s : Tree) (n : ℕ) → i < n → Grown ids n 27 s → Agrees s t i p → Hangs s c i (p - 1)
      right_child s n m w a =
          let k = w.child i (p - 1) (inl m) is_child in
          let x = k.0 in
          let h = k.1 in
          let o = child_open s n x m w a h in
          let l = child_low s n x m w a h in
          elim (cases_lt x c) [
            | inl less ↦ absurd (
                let v = w.nested x c i (p - 1) h less (omega arith) in
                elim (cases_eq v.0 i) [
                  | inl same ↦
                      let b : Hangs s c i v.1 = same_hangs s c v.0 v.1 c i v.1 refl (sym same) refl v.2 in
                      let f = w.ordered x c i (p - 1) v.1 h b less in
                      let y = (a.there c i v.1 (inr (refl, omega arith)) b).parent in
                      let z : ⊥ = cc in z
                  | inr differ ↦ let y = (a.there c v.0 v.1 (inl (omega (arith, v.3))) v.2).parent in let z : ⊥ = cc in z
                ])
            | inr most ↦ elim (cases_eq x c) [
              | inl same ↦ same_hangs s x i (p - 1) c i (p - 1) (sym same) refl refl h
              | inr differ ↦ absurd (let y = highest x (omega arith) l in let z : ⊥ = cc in z)
            ]
          ]

      pub some_agrees : (s : Tree) (n : ℕ) → i < n → Grown ids n 27 s → Agrees s t i p → Agrees s u i (p - 1)
      some_agrees s n m w a = record {
        there = λ x d r k h. there_at x d r k h;
        back = λ x d r h. elim (j.was x d r h) [ inl k ↦ same_hangs s c i (p - 1) x d r k.0 k.1 k.2 (right_child s n m w a) | inr o ↦ a.back x d r o ];
      }
        where
          there_at : (x d r : ℕ) → IsDone i (p - 1) d r → Hangs s x d r → Hangs u x d r
          there_at x d r (inl l) h = j.old x d r (a.there x d r (inl l) h)
          there_at x d r (inr k) h = elim (cases_eq r (p - 1)) [
            | inr differ ↦ j.old x d r (a.there x d r (inr (k.0, omega (arith, k.1))) h)
            | inl same ↦
                let b = right_child s n m w a in
                let h' : Hangs s x i (p - 1) = same_hangs s x d r x i (p - 1) refl (sym k.0) (sym same) h in
                elim (cases_eq x c) [
                  | inl here ↦ same_hangs u c i (p - 1) x d r here k.0 same j.new
                  | inr other ↦ elim (cases_lt x c) [
                    | inl less ↦ absurd (let f = w.ordered x c i (p - 1) (p - 1) h' b less in omega arith)
                    | inr more ↦ absurd (let f = w.ordered c x i (p - 1) (p - 1) b h' (omega arith) in omega arith)
                  ]
                ]
          ]

  -- all ports of the node are done
  pub all_grown : (t : Tree) → Grown ids i 0 t → Grown ids (i + 1) 27 t
  all_grown t g = record {
    up = g.up;
    done = λ c d r h. elim (g.done c d r h) [ inl l ↦ inl (omega arith) | inr k ↦ inl (omega (arith, k.0)) ];
    field = g.field;
    ports = g.ports;
    child = λ d r k f. child_at d r k f;
    ordered = g.ordered;
    nested = g.nested;
  }
    where
      child_at : (d r : ℕ) → IsDone (i + 1) 27 d r → field_of ids d r ≡ 3 → (c : ℕ) × Hangs t c d r
      child_at d r (inl l) f = elim (cases_eq d i) [
        | inl same ↦ g.child d r (inr (same, omega arith)) f
        | inr differ ↦ g.child d r (inl (omega arith)) f
      ]
      child_at d r (inr k) f = absurd (let b = no_field ids d r fits k.1 in omega arith)

  pub all_agrees : (s t : Tree) (n : ℕ) → Grown ids n 27 s → Agrees s t i 0 → Agrees s t (i + 1) 27
  all_agrees s t n w a = record { there = λ c d r k h. there_at c d r k h; back = a.back }
    where
      there_at : (c d r : ℕ) → IsDone (i + 1) 27 d r → Hangs s c d r → Hangs t c d r
      there_at c d r (inl l) h = elim (cases_eq d i) [
        | inl same ↦ a.there c d r (inr (same, omega arith)) h
        | inr differ ↦ a.there c d r (inl (omega arith)) h
      ]
      there_at c d r (inr k) h = absurd (let b = no_field ids d r fits k.1 in let f = w.field c d r h in omega arith)

  pub enough : (t : Tree) → Counts ids i 0 t → fields ids i 3 ≤ branches ids i
  enough t k = let z = counted_none (λ q. field_of ids i q == 3) in omega arith

  pub all_counts : (t : Tree) → Grown ids i 0 t → Counts ids i 0 t → counted (is_open t) (i + 1) ≡ branches ids (i + 1)
  all_counts t g k =
      let z = counted_none (λ q. field_of ids i q == 3) in
      let on : is_open t i ≡ true = ap not off in
      let a = counted_yes (is_open t) i on in
      let b = branches_step ids i in
      omega arith
    where
      off : is_there (number_at t.parent i) ≡ false
      off = elim (truth (is_there (number_at t.parent i))) [
        | inr o ↦ o
        | inl on ↦ absurd (
            let d = some_of (number_at t.parent i) on in
            let v = hangs_of t i d.0 (g.ports i) d.1 in
            let l = g.up i d.0 v.0 v.1 in
            elim (g.done i d.0 v.0 v.1) [ inl m ↦ omega arith | inr m ↦ omega (arith, m.0) ])
      ]
