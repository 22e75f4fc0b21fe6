-- What joining one node more keeps.
use Rattle.fw_map.proofs.Common.{◌≡◌, ◌⊎◌, inl, inr, ℕ, zero, suc, ◌+◌, ◌<◌, ◌≤◌, ◌==◌, not, nat_lt, List, length, Option, Some, None, Bool, true, false, slice_set, if◌then◌else◌, arith, refl, sym}
use Rattle.fw_map.proofs.Common.{ap, ◌∙◌, All, cases_eq, cases_lt, eq-eqb, ne_eqb, nat_tests, PhyPacket, Fits, ResetEntry, speed_of, counted, number_at, is_there, counted_none, counted_same}
use Rattle.fw_map.proofs.Common.{counted_zero, Tree, field_of, fields, IsLast, branches, Hangs, HasSizes, HasPackets, speed_at, Grown, Agrees, Joining, is_open}
use Rattle.std.proofs.Common.{◌↔◌, replicate}
use Rattle.std.proofs.Common.{get_or-set_same, get_or-set_other, length-set}
use Rattle.std.proofs.lemmas.List.{length-replicate}
use Rattle.fw_map.specs.declared.MapWhy.TheVariants.{Parents, Missing}
use Rattle.fw_map.specs.Faults.{due, is_last, joining_fault}
use Rattle.fw_map.specs.Growing.{Noted, KeepsRest}
use Rattle.fw_map.proofs.FieldLaws.{no_field, only_one, none_counts, one_counts}
use Rattle.fw_map.proofs.OrderLaws.{root_last}
use Rattle.fw_map.proofs.ShapeLaws.{there, some_of, same_some, root_or_hangs}
use Rattle.fw_map.proofs.JoinLaws.{branches_none}

-- trees in which the same hangs on the same
hangs_like : (t u : Tree) (c d p : ℕ) → u.parent ≡ t.parent → u.parent_port ≡ t.parent_port → Hangs t c d p → Hangs u c d p
hangs_like t u c d p a b h = record { parent = ap (λ xs. number_at xs c) a ∙ h.parent; port = ap (λ xs. number_at xs c) b ∙ h.port }

pub grown_like : (ids : List PhyPacket) (i q : ℕ) (t u : Tree) → u.parent ≡ t.parent → u.parent_port ≡ t.parent_port → Grown ids i q t → Grown ids i q u
grown_like ids i q t u a b g = record {
  up = λ c d p h. g.up c d p (hangs_like u t c d p (sym a) (sym b) h);
  done = λ c d p h. g.done c d p (hangs_like u t c d p (sym a) (sym b) h);
  field = λ c d p h. g.field c d p (hangs_like u t c d p (sym a) (sym b) h);
  ports = λ c. ap (λ xs. is_there (number_at xs c)) b ∙ (g.ports c ∙ ap (λ xs. is_there (number_at xs c)) (sym a));
  child = λ d p k f. let w = g.child d p k f in (w.0, hangs_like t u w.0 d p a b w.1);
  ordered = λ x y d p r h k l. g.ordered x y d p r (hangs_like u t x d p (sym a) (sym b) h) (hangs_like u t y d r (sym a) (sym b) k) l;
  nested = λ x y d p h l m. let w = g.nested x y d p (hangs_like u t x d p (sym a) (sym b) h) l m in (w.0, w.1, hangs_like t u y w.0 w.1 a b w.2, w.3);
}

pub agrees_like : (s t u : Tree) (i q : ℕ) → u.parent ≡ t.parent → u.parent_port ≡ t.parent_port → Agrees s t i q → Agrees s u i q
agrees_like s t u i q a b g = record {
  there = λ c d p k h. hangs_like t u c d p a b (g.there c d p k h);
  back = λ c d p h. g.back c d p (hangs_like u t c d p (sym a) (sym b) h);
}

low_port : (ids : List PhyPacket) (d p : ℕ) → All Fits ids → field_of ids d p ≡ 2 → p < 27
low_port ids d p fits h = elim (cases_lt p 27) [ inl l ↦ l | inr m ↦ absurd (let e = no_field ids d p fits m in omega arith) ]

is_two : (n : ℕ) → (n == 2) ≡ true → n ≡ 2
is_two n h = grind (arith, nat_tests)

none_counted : (f : ℕ → Bool) (n : ℕ) → IsLast f n None → counted f n ≡ 0
none_counted f n h = counted_same f (λ k. false) n h ∙ counted_zero (λ k. false) n (λ k. refl)

-- the port where the one parent port is
pub own_of : (ids : List PhyPacket) (d : ℕ) (o : Option ℕ) → All Fits ids → (fields ids d 2 ≡ 0) ⊎ (fields ids d 2 ≡ 1) → IsLast (λ p. field_of ids d p == 2) 27 o → (p : ℕ)
    → (field_of ids d p ≡ 2) ↔ (o ≡ Some p)
own_of ids d None fits count last p = (
  λ h. absurd (let x = last p (low_port ids d p fits h) in let y = eq-eqb (field_of ids d p) 2 h in let z : ⊥ = cc in z),
  λ h. absurd (let z : ⊥ = cc in z),
)
own_of ids d (Some q) fits (inl none) last p = absurd (let x = none_counts (λ p. field_of ids d p == 2) 27 q none last.0 in let y = last.1 in let z : ⊥ = cc in z)
own_of ids d (Some q) fits (inr one) last p = (
  λ h. ap (λ n. Some n) (sym (only_one (λ p. field_of ids d p == 2) 27 q p one last (low_port ids d p fits h) (eq-eqb (field_of ids d p) 2 h))),
  λ h. let e : p ≡ q = same_some (Some p) p q refl (sym h) in ap (field_of ids d) e ∙ is_two (field_of ids d q) last.1,
)

own_there : (f : ℕ → Bool) (o : Option ℕ) (b : Bool) → counted f 27 ≡ (if b then 0 else 1) → IsLast f 27 o → is_there o ≡ not b
own_there f None true count last = refl
own_there f None false count last = absurd (let x = none_counted f 27 last in omega arith)
own_there f (Some q) true count last = absurd (let x = none_counts f 27 q count last.0 in let y = last.1 in let z : ⊥ = cc in z)
own_there f (Some q) false count last = refl

few_due : (n : ℕ) (b : Bool) → n ≡ (if b then 0 else 1) → (n ≡ 0) ⊎ (n ≡ 1)
few_due n true h = inl h
few_due n false h = inr h

noted_next : (e : ResetEntry) (t u : Tree) (d : ℕ) (o : Option ℕ) → HasSizes t → d < 63 → Noted e d t → u.own_port ≡ slice_set t.own_port d o → u.sp ≡ slice_set t.sp d (speed_of d e.ids)
    → ((p : ℕ) → (field_of e.ids d p ≡ 2) ↔ (o ≡ Some p)) → is_there o ≡ not (is_last e d) → Noted e (d + 1) u
noted_next e t u d o sizes low n a b own there = record {
  own = λ c p l. elim (cases_eq c d) [
    | inl same ↦ (
      λ h. own_at c same ∙ (own p).0 (ap (λ k. field_of e.ids k p) (sym same) ∙ h),
      λ h. ap (λ k. field_of e.ids k p) same ∙ (own p).1 (sym (own_at c same) ∙ h),
    )
    | inr differ ↦ let w = n.own c p (omega arith) in (λ h. own_else c differ ∙ w.0 h, λ h. w.1 (sym (own_else c differ) ∙ h))
  ];
  own_ports = λ c l. elim (cases_eq c d) [
    | inl same ↦ ap is_there (own_at c same) ∙ (there ∙ ap (λ k. not (is_last e k)) (sym same))
    | inr differ ↦ ap is_there (own_else c differ) ∙ n.own_ports c (omega arith)
  ];
  own_following = λ c l. let differ : c ≡ d → ⊥ = λ s. omega arith in own_else c differ ∙ n.own_following c (omega arith);
  sp = λ c l. elim (cases_eq c d) [
    | inl same ↦ sp_at c same ∙ ap (λ k. speed_of k e.ids) (sym same)
    | inr differ ↦ sp_else c differ ∙ n.sp c (omega arith)
  ];
  sp_after = λ c l. let differ : c ≡ d → ⊥ = λ s. omega arith in sp_else c differ ∙ n.sp_after c (omega arith);
}
  where
    own_at : (c : ℕ) → c ≡ d → number_at u.own_port c ≡ o
    own_at c s = ap (number_at u.own_port) s ∙ (ap (λ xs. number_at xs d) a ∙ get_or-set_same t.own_port d o None (let k = sizes.own_port in omega arith))

    own_else : (c : ℕ) → (c ≡ d → ⊥) → number_at u.own_port c ≡ number_at t.own_port c
    own_else c w = ap (λ xs. number_at xs c) a ∙ get_or-set_other t.own_port d c o None w

    sp_at : (c : ℕ) → c ≡ d → speed_at u.sp c ≡ speed_of d e.ids
    sp_at c s = ap (speed_at u.sp) s ∙ (ap (λ xs. speed_at xs d) b ∙ get_or-set_same t.sp d (speed_of d e.ids) 0 (let k = sizes.sp in omega arith))

    sp_else : (c : ℕ) → (c ≡ d → ⊥) → speed_at u.sp c ≡ speed_at t.sp c
    sp_else c w = ap (λ xs. speed_at xs c) b ∙ get_or-set_other t.sp d c (speed_of d e.ids) 0 w

noted_like : (e : ResetEntry) (d : ℕ) (t u : Tree) → u.own_port ≡ t.own_port → u.sp ≡ t.sp → Noted e d t → Noted e d u
noted_like e d t u a b n = record {
  own = λ c p l. let w = n.own c p l in (λ h. ap (λ xs. number_at xs c) a ∙ w.0 h, λ h. w.1 (ap (λ xs. number_at xs c) (sym a) ∙ h));
  own_ports = λ c l. ap (λ xs. is_there (number_at xs c)) a ∙ n.own_ports c l;
  own_following = λ c l. ap (λ xs. number_at xs c) a ∙ n.own_following c l;
  sp = λ c l. ap (λ xs. speed_at xs c) b ∙ n.sp c l;
  sp_after = λ c l. ap (λ xs. speed_at xs c) b ∙ n.sp_after c l;
}

pub joining_none : (e : ResetEntry) (d : ℕ) → fields e.ids d 2 ≡ due e d → fields e.ids d 3 ≤ branches e.ids d → joining_fault e d ≡ None
joining_none e d a b = none (fields e.ids d 2) (due e d) (branches e.ids d) (fields e.ids d 3) a b
  where
    none : (x y b f : ℕ) → x ≡ y → f ≤ b → (if not (x == y) then Some Parents else if nat_lt b f then Some Missing else None) ≡ None
    none x y b f h l = grind (arith, nat_tests)

-- one node more
pub joining_next : (e : ResetEntry) (d : ℕ) (t v u : Tree) (o : Option ℕ) → d < 63 → All Fits e.ids → Joining e d t → KeepsRest t v → Grown e.ids (d + 1) 27 v
    → counted (is_open v) (d + 1) ≡ branches e.ids (d + 1) → fields e.ids d 3 ≤ branches e.ids d → fields e.ids d 2 ≡ due e d → IsLast (λ p. field_of e.ids d p == 2) 27 o
    → u.count ≡ v.count → u.parent ≡ v.parent → u.parent_port ≡ v.parent_port → u.own_port ≡ slice_set v.own_port d o → u.sp ≡ slice_set v.sp d (speed_of d e.ids) → Joining e (d + 1) u
joining_next e d t v u o low fits j k g n enough count last a b c f h = record {
  sizes = record {
    parent = ap length b ∙ k.sizes.parent;
    parent_port = ap length c ∙ k.sizes.parent_port;
    own_port = ap length f ∙ (length-set v.own_port d o ∙ k.sizes.own_port);
    sp = ap length h ∙ (length-set v.sp d (speed_of d e.ids) ∙ k.sizes.sp);
  };
  count = a ∙ (k.count ∙ j.count);
  grown = grown_like e.ids (d + 1) 27 v u b c g;
  counts = counted_same (is_open u) (is_open v) (d + 1) (λ x l. ap (λ xs. not (is_there (number_at xs x))) b) ∙ n;
  noted = noted_next e v u d o k.sizes low (noted_like e d t v k.own_port k.sp j.noted) f h (own_of e.ids d o fits (few_due (fields e.ids d 2) (is_last e d) count) last)
      (own_there (λ p. field_of e.ids d p == 2) o (is_last e d) count last);
  joined = λ x l. elim (cases_eq x d) [ inl same ↦ ap (joining_fault e) same ∙ joining_none e d count enough | inr differ ↦ j.joined x (omega arith) ];
}

-- before the first node nothing hangs on anything
blank_at : (d : ℕ) → number_at (replicate 63 None) d ≡ None
blank_at d = blank_from 63 d
  where
    blank_from : (n d : ℕ) → number_at (replicate n None) d ≡ None
    blank_from zero d = refl
    blank_from (suc n) zero = refl
    blank_from (suc n) (suc d) = blank_from n d

zero_at : (d : ℕ) → speed_at (replicate 63 0) d ≡ 0
zero_at d = zero_from 63 d
  where
    zero_from : (n d : ℕ) → speed_at (replicate n 0) d ≡ 0
    zero_from zero d = refl
    zero_from (suc n) zero = refl
    zero_from (suc n) (suc d) = zero_from n d

pub joining_first : (e : ResetEntry) (n : ℕ) → All Fits e.ids → n ≡ length e.nodes
    → Joining e 0 (record { count = n; parent = replicate 63 None; parent_port = replicate 63 None; own_port = replicate 63 None; sp = replicate 63 0 })
joining_first e n fits size = record {
  sizes = record {
    parent = length-replicate {A = Option ℕ} 63 None;
    parent_port = length-replicate {A = Option ℕ} 63 None;
    own_port = length-replicate {A = Option ℕ} 63 None;
    sp = length-replicate {A = ℕ} 63 0;
  };
  count = size;
  grown = record {
    up = λ c d p h. absurd (no c d p h);
    done = λ c d p h. absurd (no c d p h);
    field = λ c d p h. absurd (no c d p h);
    ports = λ c. refl;
    child = λ d p k f. absurd (elim k [ inl l ↦ omega arith | inr m ↦ let b = no_field e.ids d p fits m.1 in omega arith ]);
    ordered = λ x y d p r h k l. absurd (no x d p h);
    nested = λ x y d p h l m. absurd (no x d p h);
  };
  counts = counted_none (is_open (record { count = n; parent = replicate 63 None; parent_port = replicate 63 None; own_port = replicate 63 None; sp = replicate 63 0 })) ∙ sym (branches_none e.ids);
  noted = record {
    own = λ d p l. absurd (omega arith);
    own_ports = λ d l. absurd (omega arith);
    own_following = λ d l. blank_at d;
    sp = λ d l. absurd (omega arith);
    sp_after = λ d l. zero_at d;
  };
  joined = λ d l. absurd (omega arith);
}
  where
    no : (c d p : ℕ) → Hangs (record { count = n; parent = replicate 63 None; parent_port = replicate 63 None; own_port = replicate 63 None; sp = replicate 63 0 }) c d p → ⊥
    no c d p h = let x = h.parent in let y = blank_at c in let z : ⊥ = cc in z

pub agrees_first : (e : ResetEntry) (s : Tree) (n k : ℕ) → All Fits e.ids → Grown e.ids k 27 s
    → Agrees s (record { count = n; parent = replicate 63 None; parent_port = replicate 63 None; own_port = replicate 63 None; sp = replicate 63 0 }) 0 27
agrees_first e s n k fits g = record {
  there = λ c d p k h. absurd (elim k [ inl l ↦ omega arith | inr m ↦ let b = no_field e.ids d p fits m.1 in let f = g.field c d p h in omega arith ]);
  back = λ c d p h. absurd (let x = h.parent in let y = blank_at c in let z : ⊥ = cc in z);
}

-- a node has as many parent ports as it is to have, if a tree has the packets
pub due_of : (e : ResetEntry) (s : Tree) (d : ℕ) → HasPackets e s → s.count ≤ 63 → All Fits e.ids → d < s.count → fields e.ids d 2 ≡ due e d
due_of e s d h few fits low = elim (cases_eq (d + 1) s.count) [
  | inl same ↦
      let last = root_last e s h few in
      let root : d ≡ e.root = omega arith in
      let none : is_there (number_at s.own_port d) ≡ false = h.own_ports d ∙ ap is_there (ap (number_at s.parent) root ∙ h.top) in
      let size = h.count in
      counted_zero (λ p. field_of e.ids d p == 2) 27 (λ p. ne_eqb (field_of e.ids d p) 2 (λ f. let x = there (number_at s.own_port d) p ((h.own d p low).0 f) in let z : ⊥ = cc in z))
      ∙ sym (due_last (omega arith))
  | inr differ ↦
      let last = root_last e s h few in
      let size = h.count in
      elim (root_or_hangs s e.root (h.numbers.paths d) d (h.numbers.lead d low)) [
        | inl top ↦ absurd (omega arith)
        | inr up ↦
            let q = some_of (number_at s.own_port d) (h.own_ports d ∙ there (number_at s.parent d) up.0 up.2.parent) in
            let f = (h.own d q.0 low).1 q.1 in
            let l : q.0 < 27 = elim (cases_lt q.0 27) [ inl l ↦ l | inr m ↦ absurd (let z = no_field e.ids d q.0 fits m in omega arith) ] in
            one_counts (λ p. field_of e.ids d p == 2) 27 q.0 l (eq-eqb (field_of e.ids d q.0) 2 f)
            (λ k g. same_some (number_at s.own_port d) k q.0 ((h.own d k low).0 (is_two (field_of e.ids d k) g)) q.1) ∙ sym (due_else (omega arith))
      ]
]
  where
    due_last : d + 1 ≡ length e.nodes → due e d ≡ 0
    due_last k = grind (arith, nat_tests)

    due_else : d + 1 < length e.nodes → due e d ≡ 1
    due_else k = grind (arith, nat_tests)
