-- One node hangs branches on itself, from its highest port down: a port without a child, and what one branch more changes.
use Rattle.fw_map.proofs.Common.{◌≡◌, ◌⊎◌, inl, inr, ℕ, suc, ◌+◌, ◌-◌, ◌<◌, ◌≤◌, ◌==◌, not, List, length, Option, Some, None, true, false, slice_set, arith, refl, sym, ap, ◌∙◌, All, cases_eq, ne_eqb}
use Rattle.fw_map.proofs.Common.{Bool}
use Rattle.fw_map.proofs.Common.{PhyPacket, Fits, counted, number_at, is_there, counted_else, Tree, field_of, fields, branches, Hangs, HasSizes, Grown, Agrees}
use Rattle.std.proofs.Common.{get_or-set_same, get_or-set_other, length-set}
use Rattle.fw_map.specs.Growing.{IsDone, Counts, KeepsRest}
use Rattle.fw_map.proofs.FieldLaws.{no_field}
use Rattle.fw_map.proofs.ShapeLaws.{same_some}

pub branches_none : (ids : List PhyPacket) → branches ids 0 ≡ 0
unfolding branches
branches_none ids = refl

pub branches_step : (ids : List PhyPacket) (d : ℕ) → branches ids (d + 1) ≡ (branches ids d - fields ids d 3) + 1
unfolding branches
branches_step ids d = let e : d + 1 ≡ suc d = omega arith in ap (branches ids) e

-- one node more hangs on another
pub record IsJoined (t u : Tree) (c i q : ℕ) : Type 0 where
  pub new : Hangs u c i q
  pub old : (x d r : ℕ) → Hangs t x d r → Hangs u x d r
  pub was : (x d r : ℕ) → Hangs u x d r → ((x ≡ c) × (d ≡ i) × (r ≡ q)) ⊎ Hangs t x d r
  pub ports : (x : ℕ) → is_there (number_at u.parent_port x) ≡ is_there (number_at u.parent x)
  pub others : (x : ℕ) → (x ≡ c → ⊥) → number_at u.parent x ≡ number_at t.parent x

pub joined_of : (t u : Tree) (c i q : ℕ) → HasSizes t → c < 63 → number_at t.parent c ≡ None → ((x : ℕ) → is_there (number_at t.parent_port x) ≡ is_there (number_at t.parent x))
    → u.parent ≡ slice_set t.parent c (Some i) → u.parent_port ≡ slice_set t.parent_port c (Some q) → IsJoined t u c i q
joined_of t u c i q sizes low free ports e f = record {
  new = record { parent = at_c; port = port_c };
  old = λ x d r h. let w : x ≡ c → ⊥ = λ s. differ x d s h.parent in record { parent = parent_else x w ∙ h.parent; port = port_else x w ∙ h.port };
  was = λ x d r h. elim (cases_eq x c) [
    | inl s ↦ inl (
      s,
      same_some (number_at u.parent x) d i h.parent (ap (number_at u.parent) s ∙ at_c),
      same_some (number_at u.parent_port x) r q h.port (ap (number_at u.parent_port) s ∙ port_c),
    )
    | inr w ↦ inr (record { parent = sym (parent_else x w) ∙ h.parent; port = sym (port_else x w) ∙ h.port })
  ];
  ports = λ x. elim (cases_eq x c) [
    | inl s ↦ ap is_there (ap (number_at u.parent_port) s ∙ port_c) ∙ sym (ap is_there (ap (number_at u.parent) s ∙ at_c))
    | inr w ↦ ap is_there (port_else x w) ∙ (ports x ∙ sym (ap is_there (parent_else x w)))
  ];
  others = parent_else;
}
  where
    at_c : number_at u.parent c ≡ Some i
    at_c = ap (λ xs. number_at xs c) e ∙ get_or-set_same t.parent c (Some i) None (let s = sizes.parent in omega arith)

    port_c : number_at u.parent_port c ≡ Some q
    port_c = ap (λ xs. number_at xs c) f ∙ get_or-set_same t.parent_port c (Some q) None (let s = sizes.parent_port in omega arith)

    parent_else : (x : ℕ) → (x ≡ c → ⊥) → number_at u.parent x ≡ number_at t.parent x
    parent_else x w = ap (λ xs. number_at xs x) e ∙ get_or-set_other t.parent c x (Some i) None w

    port_else : (x : ℕ) → (x ≡ c → ⊥) → number_at u.parent_port x ≡ number_at t.parent_port x
    port_else x w = ap (λ xs. number_at xs x) f ∙ get_or-set_other t.parent_port c x (Some q) None w

    differ : (x d : ℕ) → x ≡ c → number_at t.parent x ≡ Some d → ⊥
    differ x d s h = let y : number_at t.parent c ≡ number_at t.parent x = ap (number_at t.parent) (sym s) in let z : ⊥ = cc in z

pub rest_of : (s t u : Tree) (c i q : ℕ) → KeepsRest s t → u
    ≡ record { count = t.count; parent = slice_set t.parent c (Some i); parent_port = slice_set t.parent_port c (Some q); own_port = t.own_port; sp = t.sp } → KeepsRest s u
rest_of s t u c i q k e = record {
  sizes = record {
    parent = ap (λ x. length (parent_of x)) e ∙ (length-set t.parent c (Some i) ∙ k.sizes.parent);
    parent_port = ap (λ x. length (port_of x)) e ∙ (length-set t.parent_port c (Some q) ∙ k.sizes.parent_port);
    own_port = ap (λ x. length (own_of x)) e ∙ k.sizes.own_port;
    sp = ap (λ x. length (sp_of x)) e ∙ k.sizes.sp;
  };
  count = ap count_of e ∙ k.count;
  own_port = ap own_of e ∙ k.own_port;
  sp = ap sp_of e ∙ k.sp;
}
  where
    parent_of : Tree → List (Option ℕ)
    parent_of x = x.parent

    port_of : Tree → List (Option ℕ)
    port_of x = x.parent_port

    own_of : Tree → List (Option ℕ)
    own_of x = x.own_port

    sp_of : Tree → List ℕ
    sp_of x = x.sp

    count_of : Tree → ℕ
    count_of x = x.count

pub same_field : (ids : List PhyPacket) (d e p q : ℕ) → d ≡ e → p ≡ q → field_of ids d p ≡ field_of ids e q
same_field ids d e p q a b = cc

pub same_hangs : (t : Tree) (c d p x e q : ℕ) → x ≡ c → e ≡ d → q ≡ p → Hangs t c d p → Hangs t x e q
same_hangs t c d p x e q a b f h = record { parent = ap (number_at t.parent) a ∙ (h.parent ∙ ap (λ n. Some n) (sym b)); port = ap (number_at t.parent_port) a ∙ (h.port ∙ ap (λ n. Some n) (sym f)) }

pub open_no : (o : Option ℕ) → is_there o ≡ true → not (is_there o) ≡ false
open_no o h = ap not h

module _ (ids : List PhyPacket) (i : ℕ) (fits : All Fits ids) where
  -- at first nothing hangs on the node
  pub first_taken : (t : Tree) → Grown ids i 27 t → (c p : ℕ) → Hangs t c i p → i ≤ c
  first_taken t g c p h = absurd (elim (g.done c i p h) [
    | inl low ↦ omega arith
    | inr k ↦ let a = g.field c i p h in let b = no_field ids i p fits k.1 in omega arith
  ])

  -- the next port down has no child
  pub none_grown : (t : Tree) (p : ℕ) → 0 < p → (field_of ids i (p - 1) ≡ 3 → ⊥) → Grown ids i p t → Grown ids i (p - 1) t
  none_grown t p some not_child g = record {
    up = g.up;
    done = λ c d r h. elim (g.done c d r h) [ inl low ↦ inl low | inr k ↦ inr (k.0, omega (arith, k.1)) ];
    field = g.field;
    ports = g.ports;
    child = λ d r k f. child_at d r k f;
    ordered = g.ordered;
    nested = g.nested;
  }
    where
      child_at : (d r : ℕ) → IsDone i (p - 1) d r → field_of ids d r ≡ 3 → (c : ℕ) × Hangs t c d r
      child_at d r (inl low) f = g.child d r (inl low) f
      child_at d r (inr k) f = elim (cases_eq r (p - 1)) [
        | inl same ↦ absurd (not_child (same_field ids i d (p - 1) r (sym k.0) (sym same) ∙ f))
        | inr differ ↦ g.child d r (inr (k.0, omega (arith, k.1))) f
      ]

  pub none_counts : (t : Tree) (p : ℕ) → 0 < p → (field_of ids i (p - 1) ≡ 3 → ⊥) → Counts ids i p t → Counts ids i (p - 1) t
  none_counts t p some not_child c =
      let f : ℕ → Bool = λ q. field_of ids i q == 3 in
      let off : f (p - 1) ≡ false = ne_eqb (field_of ids i (p - 1)) 3 not_child in
      let e : p - 1 + 1 ≡ p = omega arith in
      let s : counted f p ≡ counted f (p - 1) = ap (counted f) (sym e) ∙ counted_else f (p - 1) off in
      c ∙ ap (λ n. branches ids i + n) s

  pub none_agrees : (s t : Tree) (n p : ℕ) → 0 < p → (field_of ids i (p - 1) ≡ 3 → ⊥) → i < n → Grown ids n 27 s → Agrees s t i p → Agrees s t i (p - 1)
  none_agrees s t n p some not_child low g a = record { there = λ c d r k h. there_at c d r k h; back = a.back }
    where
      there_at : (c d r : ℕ) → IsDone i (p - 1) d r → Hangs s c d r → Hangs t c d r
      there_at c d r (inl l) h = a.there c d r (inl l) h
      there_at c d r (inr k) h = elim (cases_eq r (p - 1)) [
        | inl same ↦ absurd (not_child (same_field ids i d (p - 1) r (sym k.0) (sym same) ∙ g.field c d r h))
        | inr differ ↦ a.there c d r (inr (k.0, omega (arith, k.1))) h
      ]
