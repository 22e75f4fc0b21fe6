-- In a tree that has the packets of a reset entry, who hangs on whom is told by the places of branches among those without a parent.
use Rattle.fw_map.proofs.Common.{◌≡◌, inl, inr, ℕ, zero, suc, ◌+◌, ◌-◌, ◌<◌, ◌≤◌, ◌==◌, ◌&&◌, nat_lt, length, Bool, true, false, Option, Some, None, arith, refl, sym, ap, ◌∙◌, All, cases_eq, cases_lt}
use Rattle.fw_map.proofs.Common.{eq-eqb, nat_tests, Fits, ResetEntry, counted, number_at, counted_none, counted_yes, Tree, field_of, fields, branches, Hangs, HasPackets, Grown}
use Rattle.std.proofs.Common.{nat_le}
use Rattle.fw_map.specs.Rebuilt.{place_in, takes, parent_in, port_in}
use Rattle.fw_map.proofs.FieldLaws.{no_field, counted_upto}
use Rattle.fw_map.proofs.JoinLaws.{branches_none, branches_step}
use Rattle.fw_map.proofs.MatchLaws.{one_if, counted_below, counted_split, counted_cut, AreMatched, matched_count, find_first, find_all}
use Rattle.fw_map.proofs.OrderLaws.{grown, root_last}
use Rattle.fw_map.proofs.ShapeLaws.{same_some, hangs_of, root_or_hangs}

-- a node hangs on none below d
abbrev is_after : ℕ → Option ℕ → Bool
is_after d None = true
is_after d (Some f) = nat_le d f

-- it hangs on d
abbrev is_on : ℕ → Option ℕ → Bool
is_on d None = false
is_on d (Some f) = f == d

following_less : (a b : ℕ) (o : Option ℕ) → a ≤ b → is_after b o ≡ true → is_after a o ≡ true
following_less a b None l h = refl
following_less a b (Some f) l h = grind (arith, nat_tests)

on_some : (d : ℕ) (o : Option ℕ) → is_on d o ≡ true → o ≡ Some d
on_some d None h = absurd (let z : ⊥ = cc in z)
on_some d (Some f) h = let e : f ≡ d = grind (arith, nat_tests) in ap Some e

some_on : (d : ℕ) (o : Option ℕ) → o ≡ Some d → is_on d o ≡ true
some_on d o e = ap (is_on d) e ∙ eq-eqb d d refl

split_here : (d : ℕ) (o : Option ℕ) → one_if (is_after d o) ≡ one_if (is_after (d + 1) o) + one_if (is_on d o)
split_here d None = refl
split_here d (Some f) = grind (arith, nat_tests)

split_above : (c d f : ℕ) → c < d → (c + 1 ≤ f → d ≤ f) → one_if (nat_le (c + 1) f) ≡ one_if (nat_le (d + 1) f) + one_if (f == d)
split_above c d f l h = elim (cases_lt c f) [ inl m ↦ let k = h (omega arith) in grind (arith, nat_tests) | inr m ↦ grind (arith, nat_tests) ]

le_yes : (a b : ℕ) → a ≤ b → nat_le a b ≡ true
le_yes a b l = grind (arith, nat_tests)

yes_le : (a b : ℕ) → nat_le a b ≡ true → a ≤ b
yes_le a b l = grind (arith, nat_tests)

not_le : (a b : ℕ) → b < a → nat_le a b ≡ false
not_le a b l = grind (arith, nat_tests)

three : (f : ℕ) → (f == 3) ≡ true → f ≡ 3
three f h = grind (arith, nat_tests)

takes_yes : (c d a b : ℕ) → c < d → a ≤ b → (nat_lt c d && nat_le a b) ≡ true
takes_yes c d a b l h = grind (arith, nat_tests)

takes_not : (c d a b : ℕ) → (c < d → b < a) → (nat_lt c d && nat_le a b) ≡ false
takes_not c d a b h = elim (cases_lt c d) [ inl l ↦ let k = h l in grind (arith, nat_tests) | inr l ↦ grind (arith, nat_tests) ]

module _ (e : ResetEntry) (t : Tree) (h : HasPackets e t) (few : t.count ≤ 63) (fits : All Fits e.ids) where
  g : Grown e.ids t.count 27 t
  g = grown e t h few fits

  -- ---- the children of a node, in order of its ports

  low_port : (x d p : ℕ) → Hangs t x d p → p < 27
  low_port x d p k = elim (cases_lt p 27) [ inl l ↦ l | inr m ↦ absurd (let a = g.field x d p k in let b = no_field e.ids d p fits m in omega arith) ]

  matched : (d : ℕ) → AreMatched (λ x p. Hangs t x d p)
  matched d = record { one = λ x p r a b. same_some (number_at t.parent_port x) p r a.port b.port; ordered = λ x y p r a b l. g.ordered x y d p r a b l }

  at_port : (x d p : ℕ) → Hangs t x d p → (field_of e.ids d p == 3) ≡ true
  at_port x d p k = eq-eqb (field_of e.ids d p) 3 (g.field x d p k)

  hangs : (x d : ℕ) → is_on d (number_at t.parent x) ≡ true → (p : ℕ) × Hangs t x d p
  hangs x d on = hangs_of t x d (h.ports x) (on_some d (number_at t.parent x) on)

  -- as many as child ports
  children : (d : ℕ) → d < t.count → counted (λ x. is_on d (number_at t.parent x)) d ≡ fields e.ids d 3
  children d l = matched_count (λ x p. Hangs t x d p) (λ x. is_on d (number_at t.parent x)) (λ p. field_of e.ids d p == 3) d 27 (matched d) (record {
    to = λ x m on. let w = hangs x d on in (w.0, low_port x d w.0 w.1, at_port x d w.0 w.1, w.1);
    back = λ p m on. let w = g.child d p (inl l) (three (field_of e.ids d p) on) in (w.0, g.up w.0 d p w.1, some_on d (number_at t.parent w.0) w.1.parent, w.1);
  })

  -- those before a child are as many as the child ports before its own
  elder : (c d p : ℕ) → Hangs t c d p → counted (λ x. is_on d (number_at t.parent x)) c ≡ counted (λ q. field_of e.ids d q == 3) p
  elder c d p k = matched_count (λ x q. Hangs t x d q) (λ x. is_on d (number_at t.parent x)) (λ q. field_of e.ids d q == 3) c p (matched d) (record {
    to = λ x m on. let w = hangs x d on in (w.0, g.ordered x c d w.0 p w.1 k m, at_port x d w.0 w.1, w.1);
    back = λ q m on.
        let w = g.child d q (inl (h.nodes c d k.parent).1) (three (field_of e.ids d q) on) in
        (w.0, lower w.0 q w.1 m, some_on d (number_at t.parent w.0) w.1.parent, w.1);
  })
    where
      lower : (x q : ℕ) → Hangs t x d q → q < p → x < c
      lower x q a m = elim (cases_lt x c) [
        | inl l ↦ l
        | inr high ↦ absurd (elim (cases_eq x c) [
          | inl same ↦ let s = same_some (number_at t.parent_port x) q p a.port (ap (number_at t.parent_port) same ∙ k.port) in omega arith
          | inr differ ↦ let s = g.ordered c x d p q k a (omega arith) in omega arith
        ])
      ]

  -- ---- the branches before a node

  split : (d : ℕ) → counted (λ x. is_after d (number_at t.parent x)) d ≡ counted (λ x. is_after (d + 1) (number_at t.parent x)) d + counted (λ x. is_on d (number_at t.parent x)) d
  split d = counted_split (λ x. is_after d (number_at t.parent x)) (λ x. is_after (d + 1) (number_at t.parent x)) (λ x. is_on d (number_at t.parent x)) d (λ x l. split_here d (number_at t.parent x))

  own_following : (d : ℕ) (o : Option ℕ) → number_at t.parent d ≡ o → is_after (d + 1) o ≡ true
  own_following d None k = refl
  own_following d (Some f) k = let w = hangs_of t d f (h.ports d) k in let u = g.up d f w.0 w.1 in grind (arith, nat_tests)

  -- the branches before a node are the nodes that hang on none before it
  branch_count : (d : ℕ) → d ≤ t.count → branches e.ids d ≡ counted (λ x. is_after d (number_at t.parent x)) d
  branch_count zero l = branches_none e.ids ∙ sym (counted_none (λ x. is_after 0 (number_at t.parent x)))
  branch_count (suc d) l =
      let s : d + 1 ≡ suc d = omega arith in
      let r = branch_count d (omega arith) in
      let b = branches_step e.ids d in
      let k = children d (omega arith) in
      let m = split d in
      let n = counted_yes (λ x. is_after (d + 1) (number_at t.parent x)) d (own_following d (number_at t.parent d) refl) in
      let q : branches e.ids (d + 1) ≡ counted (λ x. is_after (d + 1) (number_at t.parent x)) (d + 1) = omega arith in
      rw s at q

  place_is : (d : ℕ) → d < t.count → place_in e.ids d ≡ counted (λ x. is_after (d + 1) (number_at t.parent x)) d
  place_is d l =
      let r = branch_count d (omega arith) in
      let k = children d l in
      let m = split d in
      omega arith

  -- ---- a node that hangs on another

  module _ (c d p : ℕ) (k : Hangs t c d p) where
    up : c < d
    up = g.up c d p k

    low : d < t.count
    low = (h.nodes c d k.parent).1

    -- one before it that hangs on none before it hangs on none before its parent
    above : (x : ℕ) → x < c → (o : Option ℕ) → number_at t.parent x ≡ o → is_after (c + 1) o ≡ true → is_after d o ≡ true
    above x l None s b = refl
    above x l (Some f) s b =
        let w = hangs_of t x f (h.ports x) s in
        let m : c < f = grind (arith, nat_tests) in
        let n = g.nested x c f w.0 w.1 l m in
        let same : n.0 ≡ d = same_some (number_at t.parent c) n.0 d n.2.parent k.parent in
        let le : d ≤ f = omega (arith, n.3) in
        grind (arith, nat_tests)

    -- what is between it and its parent hangs on none above the parent
    inside : (x : ℕ) → c ≤ x → x < d → is_after (d + 1) (number_at t.parent x) ≡ false
    inside x l m = elim (cases_eq x c) [
      | inl same ↦ ap (λ n. is_after (d + 1) (number_at t.parent n)) same ∙ (ap (is_after (d + 1)) k.parent ∙ not_le (d + 1) d (omega arith))
      | inr differ ↦ let n = g.nested c x d p k (omega arith) m in ap (is_after (d + 1)) n.2.parent ∙ not_le (d + 1) n.0 (omega (arith, n.3))
    ]

    parent_place : place_in e.ids d ≡ counted (λ x. is_after (d + 1) (number_at t.parent x)) c
    parent_place = place_is d low ∙ counted_cut (λ x. is_after (d + 1) (number_at t.parent x)) c d (omega (arith, up)) inside

    -- its own place is that of its parent, and one more for each child before it
    own_place : place_in e.ids c ≡ place_in e.ids d + counted (λ x. is_on d (number_at t.parent x)) c
    own_place =
        let a = place_is c (omega (arith, up, low)) in
        let b = parent_place in
        let s = counted_split (λ x. is_after (c + 1) (number_at t.parent x)) (λ x. is_after (d + 1) (number_at t.parent x)) (λ x. is_on d (number_at t.parent x)) c
        (λ x l. each x l (number_at t.parent x) refl) in
        omega arith
      where
        each : (x : ℕ) → x < c → (o : Option ℕ) → number_at t.parent x ≡ o → one_if (is_after (c + 1) o) ≡ one_if (is_after (d + 1) o) + one_if (is_on d o)
        each x l None s = refl
        each x l (Some f) s = split_above c d f up (λ m. let a = above x l (Some f) s (le_yes (c + 1) f m) in yes_le d f a)

    -- a node between them has a place after its own
    between : (j : ℕ) → c < j → j < d → place_in e.ids c < place_in e.ids j
    between j l m =
        let a = place_is c (omega (arith, low)) in
        let b = place_is j (omega (arith, low)) in
        let x = counted_below (λ x. is_after (j + 1) (number_at t.parent x)) (λ x. is_after (c + 1) (number_at t.parent x)) c
        (λ x n on. following_less (j + 1) d (number_at t.parent x) (omega arith) (above x n (number_at t.parent x) refl on)) in
        let y = counted_yes (λ x. is_after (j + 1) (number_at t.parent x)) c (ap (is_after (j + 1)) k.parent ∙ le_yes (j + 1) d (omega arith)) in
        let z = counted_upto (λ x. is_after (j + 1) (number_at t.parent x)) (c + 1) j (omega arith) in
        omega arith

    pub parent_is : t.count ≡ length e.nodes → parent_in e c ≡ Some d
    parent_is count =
        find_first (length e.nodes) d (takes e.ids c) (omega (arith, low)) (takes_yes c d (place_in e.ids d) (place_in e.ids c) up (omega (arith, own_place)))
        (λ j l. takes_not c j (place_in e.ids j) (place_in e.ids c) (λ m. between j m l))

    pub port_is : t.count ≡ length e.nodes → port_in e c ≡ Some p
    port_is count =
        rw (parent_is count) (find_first 27 p (λ q. (field_of e.ids d q == 3) && (counted (λ r. field_of e.ids d r == 3) q == (place_in e.ids c - place_in e.ids d))) (low_port c d p k) here
        (λ q l. lower q l))
      where
        following : place_in e.ids c - place_in e.ids d ≡ counted (λ r. field_of e.ids d r == 3) p
        following = let a = own_place in let b = elder c d p k in omega arith

        both : (a : Bool) (m n : ℕ) → a ≡ true → m ≡ n → (a && (m == n)) ≡ true
        both a m n s l = grind (arith, nat_tests)

        neither : (a : Bool) (m n : ℕ) → (a ≡ true → m < n) → (a && (m == n)) ≡ false
        neither true m n s = let l = s refl in grind (arith, nat_tests)
        neither false m n s = refl

        here : ((field_of e.ids d p == 3) && (counted (λ r. field_of e.ids d r == 3) p == (place_in e.ids c - place_in e.ids d))) ≡ true
        here = both (field_of e.ids d p == 3) (counted (λ r. field_of e.ids d r == 3) p) (place_in e.ids c - place_in e.ids d) (at_port c d p k) (sym following)

        lower : (q : ℕ) → q < p → ((field_of e.ids d q == 3) && (counted (λ r. field_of e.ids d r == 3) q == (place_in e.ids c - place_in e.ids d))) ≡ false
        lower q l = neither (field_of e.ids d q == 3) (counted (λ r. field_of e.ids d r == 3) q) (place_in e.ids c - place_in e.ids d) (λ on.
            let a = counted_yes (λ r. field_of e.ids d r == 3) q on in
            let b = counted_upto (λ r. field_of e.ids d r == 3) (q + 1) p (omega arith) in
            let s = following in
            omega arith)

  -- ---- a node that hangs on none

  pub no_parent : (c : ℕ) → t.count ≡ length e.nodes → number_at t.parent c ≡ None → parent_in e c ≡ None
  no_parent c count none = find_all (length e.nodes) (takes e.ids c) (λ j l. takes_not c j (place_in e.ids j) (place_in e.ids c) (λ m. absurd (last j l m)))
    where
      last : (j : ℕ) → j < length e.nodes → c < j → ⊥
      last j l m = elim (root_or_hangs t e.root (h.numbers.paths c) c (h.numbers.lead c (omega arith))) [
        | inl top ↦ let r = root_last e t h few in omega arith
        | inr w ↦ let a = w.2.parent in let z : ⊥ = cc in z
      ]

  pub no_port : (c : ℕ) → t.count ≡ length e.nodes → number_at t.parent c ≡ None → port_in e c ≡ None
  no_port c count none = rw (no_parent c count none) refl
