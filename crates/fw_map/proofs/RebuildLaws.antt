-- Which fault is the first, and that a reset entry has one tree at most.
use Rattle.fw_map.proofs.Common.{◌≡◌, inl, inr, ℕ, ◌+◌, ◌<◌, ◌≤◌, ◌==◌, not, nat_lt, length, Option, Some, None, Bool, true, false, if◌then◌else◌, arith, refl, sym, ap, subst, ◌∙◌, All, cases_eq}
use Rattle.fw_map.proofs.Common.{cases_lt, nat_tests, Fits, ResetEntry, counted, number_at, is_there, counted_same, counted_zero, counted_yes, counted_else, truth, Tree, branches, HasPackets}
use Rattle.fw_map.proofs.Common.{speed_at, Agrees, Joining, is_open}
use Rattle.std.proofs.Common.{◌↔◌, Result, Err}
use Rattle.std.proofs.lemmas.List.{ext_get_or}
use Rattle.fw_map.specs.declared.MapFault.{MapFault}
use Rattle.fw_map.specs.declared.MapWhy.{MapWhy}
use Rattle.fw_map.specs.declared.MapWhy.TheVariants.{Left, Root}
use Rattle.fw_map.specs.Faults.{is_last, joining_fault, last_fault, node_fault, or_else, IsFault}
use Rattle.fw_map.specs.Growing.{AreJoined}
use Rattle.fw_map.proofs.FieldLaws.{no_field, counted_upto}
use Rattle.fw_map.proofs.OrderLaws.{root_last}
use Rattle.fw_map.proofs.ShapeLaws.{there, some_of, none_of, hangs_of, root_or_hangs}

-- ---- the first fault

pub one_fault : (e : ResetEntry) (f g : MapFault) → IsFault e f → IsFault e g → f ≡ g
one_fault e f g a b = elim (cases_eq f.node g.node) [
  | inl same ↦
      let h : Some f.why ≡ Some g.why = sym a.is ∙ (ap (node_fault e) same ∙ b.is) in
      let why : f.why ≡ g.why = cc in
      λ i. record { node = same i; why = why i }
  | inr differ ↦ absurd (elim (cases_lt f.node g.node) [
    | inl low ↦ let x = b.first f.node low in let y = a.is in let z : ⊥ = cc in z
    | inr high ↦ let x = a.first g.node (omega arith) in let y = b.is in let z : ⊥ = cc in z
  ])
]

-- the answer is exactly the first fault
pub answered : (e : ResetEntry) (g : MapFault) → IsFault e g → (f : MapFault) → (◌≡◌ {A = Result Tree MapFault} (Err g) (Err f)) ↔ IsFault e f
answered e g w f = (λ h. let same : g ≡ f = err g f h in subst (λ (x : MapFault). IsFault e x) same w, λ h. ap (λ (x : MapFault). Err x) (one_fault e g f w h))
  where
    err : (g f : MapFault) → ◌≡◌ {A = Result Tree MapFault} (Err g) (Err f) → g ≡ f
    err g f h = cc

not_last : (e : ResetEntry) (d : ℕ) → d + 1 < length e.nodes → is_last e d ≡ false
not_last e d l = grind (arith, nat_tests)

at_last : (e : ResetEntry) (d : ℕ) → d + 1 ≡ length e.nodes → is_last e d ≡ true
at_last e d l = grind (arith, nat_tests)

before_last : (e : ResetEntry) (d : ℕ) → d + 1 < length e.nodes → joining_fault e d ≡ None → node_fault e d ≡ None
before_last e d l h = ap (λ b. or_else (joining_fault e d) (if b then last_fault e d else None)) (not_last e d l) ∙ ap (λ o. or_else o None) h

of_last : (e : ResetEntry) (d : ℕ) → d + 1 ≡ length e.nodes → joining_fault e d ≡ None → node_fault e d ≡ last_fault e d
of_last e d l h = ap (λ b. or_else (joining_fault e d) (if b then last_fault e d else None)) (at_last e d l) ∙ ap (λ o. or_else o (last_fault e d)) h

pub joining_is : (e : ResetEntry) (d : ℕ) (why : MapWhy) → d < length e.nodes → AreJoined e d → joining_fault e d ≡ Some why → IsFault e (record { node = d; why = why })
joining_is e d why low joined h = record {
  node = low;
  is = ap (λ o. or_else o (if is_last e d then last_fault e d else None)) h;
  first = λ c l. before_last e c (omega arith) (joined c l);
}

pub last_is : (e : ResetEntry) (d : ℕ) (why : MapWhy) → d + 1 ≡ length e.nodes → AreJoined e (d + 1) → last_fault e d ≡ Some why → IsFault e (record { node = d; why = why })
last_is e d why last joined h = record {
  node = omega arith;
  is = of_last e d last (joined d (omega arith)) ∙ h;
  first = λ c l. before_last e c (omega arith) (joined c (omega arith));
}

pub left_is : (e : ResetEntry) (d : ℕ) → 1 < branches e.ids (d + 1) → last_fault e d ≡ Some Left
left_is e d h = step (branches e.ids (d + 1)) h (if not (e.root == d) then Some Root else None)
  where
    step : (n : ℕ) → 1 < n → (o : Option MapWhy) → (if nat_lt 1 n then Some Left else o) ≡ Some Left
    step n h o = grind (arith, nat_tests)

pub root_is : (e : ResetEntry) (d : ℕ) → branches e.ids (d + 1) ≤ 1 → (e.root ≡ d → ⊥) → last_fault e d ≡ Some Root
root_is e d h k = step (branches e.ids (d + 1)) e.root d h k
  where
    step : (n r d : ℕ) → n ≤ 1 → (r ≡ d → ⊥) → (if nat_lt 1 n then Some Left else if not (r == d) then Some Root else None) ≡ Some Root
    step n r d h k = grind (arith, nat_tests)

last_none : (e : ResetEntry) (d : ℕ) → branches e.ids (d + 1) ≤ 1 → e.root ≡ d → last_fault e d ≡ None
last_none e d h k = step (branches e.ids (d + 1)) e.root d h k
  where
    step : (n r d : ℕ) → n ≤ 1 → r ≡ d → (if nat_lt 1 n then Some Left else if not (r == d) then Some Root else None) ≡ None
    step n r d h k = grind (arith, nat_tests)

pub no_fault : (e : ResetEntry) (d : ℕ) (f : MapFault) → d + 1 ≡ length e.nodes → AreJoined e (d + 1) → branches e.ids (d + 1) ≤ 1 → e.root ≡ d → IsFault e f → ⊥
no_fault e d f last joined few root h = elim (cases_eq f.node d) [
  | inl same ↦ let x = h.is in let y = ap (node_fault e) same ∙ (of_last e d last (joined d (omega arith)) ∙ last_none e d few root) in let z : ⊥ = cc in z
  | inr differ ↦ let l = h.node in let x = h.is in let y = before_last e f.node (omega arith) (joined f.node (omega arith)) in let z : ⊥ = cc in z
]

-- ---- how many branches are left

two_counted : (f : ℕ → Bool) (x y n : ℕ) → x < y → y < n → f x ≡ true → f y ≡ true → 1 < counted f n
two_counted f x y n l m a b =
    let p = counted_yes f x a in
    let q = counted_upto f (x + 1) y (omega arith) in
    let r = counted_yes f y b in
    let s = counted_upto f (y + 1) n (omega arith) in
    omega arith

is_top : (e : ResetEntry) (t : Tree) (d : ℕ) → All Fits e.ids → Joining e (d + 1) t → number_at t.parent d ≡ None
is_top e t d fits j = elim (truth (is_there (number_at t.parent d))) [
  | inr off ↦ none_of (number_at t.parent d) off
  | inl on ↦ absurd (
      let k = some_of (number_at t.parent d) on in
      let v = hangs_of t d k.0 (j.grown.ports d) k.1 in
      let l = j.grown.up d k.0 v.0 v.1 in
      elim (j.grown.done d k.0 v.0 v.1) [
        | inl m ↦ omega arith
        | inr m ↦ let a = j.grown.field d k.0 v.0 v.1 in let b = no_field e.ids k.0 v.0 fits m.1 in omega arith
      ])
]

pub left_over : (e : ResetEntry) (t : Tree) (d x : ℕ) → All Fits e.ids → Joining e (d + 1) t → x < d → number_at t.parent x ≡ None → 1 < branches e.ids (d + 1)
left_over e t d x fits j l h =
    let a : is_open t x ≡ true = ap (λ o. not (is_there o)) h in
    let b : is_open t d ≡ true = ap (λ o. not (is_there o)) (is_top e t d fits j) in
    let c = two_counted (is_open t) x d (d + 1) l (omega arith) a b in
    let n = j.counts in
    omega arith

pub none_over : (e : ResetEntry) (t : Tree) (d : ℕ) → Joining e (d + 1) t → ((x : ℕ) → x < d → is_there (number_at t.parent x) ≡ true) → branches e.ids (d + 1) ≤ 1
none_over e t d j h =
    let zero : counted (is_open t) d ≡ 0 = counted_same (is_open t) (λ x. false) d (λ x l. ap not (h x l)) ∙ counted_zero (λ x. false) d (λ x. refl) in
    let n = j.counts in
    elim (truth (is_open t d)) [
      | inl on ↦ let s = counted_yes (is_open t) d on in omega arith
      | inr off ↦ let s = counted_else (is_open t) d off in omega arith
    ]

-- ---- one tree

-- of another tree with the packets no branch is left over
pub not_left : (e : ResetEntry) (s t : Tree) (d x : ℕ) → HasPackets e s → s.count ≤ 63 → s.count ≡ d + 1 → Agrees s t (d + 1) 27 → x < d → number_at t.parent x ≡ None → ⊥
not_left e s t d x h few count a l free =
    let last = root_last e s h few in
    elim (root_or_hangs s e.root (h.numbers.paths x) x (h.numbers.lead x (omega arith))) [
      | inl top ↦ omega arith
      | inr up ↦
          let w = h.nodes x up.0 up.2.parent in
          let k = (a.there x up.0 up.1 (inl (omega (arith, w.1))) up.2).parent in
          let z : ⊥ = cc in z
    ]

same_option : (a b : Option ℕ) → ((d : ℕ) → a ≡ Some d → b ≡ Some d) → ((d : ℕ) → b ≡ Some d → a ≡ Some d) → b ≡ a
same_option None None f g = refl
same_option None (Some d) f g = absurd (let x = g d refl in let z : ⊥ = cc in z)
same_option (Some d) b f g = f d refl

pub same_tree : (e : ResetEntry) (s t : Tree) → HasPackets e s → HasPackets e t → Agrees s t s.count 27 → t ≡ s
same_tree e s t h k a = λ i. record { count = count i; parent = parent i; parent_port = port i; own_port = own i; sp = sp i }
  where
    count : t.count ≡ s.count
    count = k.count ∙ sym h.count

    parent_at : (c : ℕ) → number_at t.parent c ≡ number_at s.parent c
    parent_at c = same_option (number_at s.parent c) (number_at t.parent c)
        (λ d x. let w = hangs_of s c d (h.ports c) x in let n = h.nodes c d x in (a.there c d w.0 (inl n.1) w.1).parent)
        (λ d x. let w = hangs_of t c d (k.ports c) x in (a.back c d w.0 w.1).parent)

    parent : t.parent ≡ s.parent
    parent = ext_get_or None t.parent s.parent (k.sizes.parent ∙ sym h.sizes.parent) (λ c l. parent_at c)

    port_at : (c : ℕ) → number_at t.parent_port c ≡ number_at s.parent_port c
    port_at c = same_option (number_at s.parent_port c) (number_at t.parent_port c)
        (λ p x.
        let d = some_of (number_at s.parent c) (sym (h.ports c) ∙ there (number_at s.parent_port c) p x) in
        let n = h.nodes c d.0 d.1 in
        (a.there c d.0 p (inl n.1) (record { parent = d.1; port = x })).port)
        (λ p x.
        let d = some_of (number_at t.parent c) (sym (k.ports c) ∙ there (number_at t.parent_port c) p x) in
        (a.back c d.0 p (record { parent = d.1; port = x })).port)

    port : t.parent_port ≡ s.parent_port
    port = ext_get_or None t.parent_port s.parent_port (k.sizes.parent_port ∙ sym h.sizes.parent_port) (λ c l. port_at c)

    low : (u : Tree) (c p : ℕ) → HasPackets e u → number_at u.own_port c ≡ Some p → c < u.count
    low u c p w x = let d = some_of (number_at u.parent c) (sym (w.own_ports c) ∙ there (number_at u.own_port c) p x) in (w.nodes c d.0 d.1).0

    own_at : (c : ℕ) → number_at t.own_port c ≡ number_at s.own_port c
    own_at c = same_option (number_at s.own_port c) (number_at t.own_port c)
        (λ p x. let l = low s c p h x in (k.own c p (omega (arith, count))).0 ((h.own c p l).1 x))
        (λ p x. let l = low t c p k x in (h.own c p (omega (arith, count))).0 ((k.own c p l).1 x))

    own : t.own_port ≡ s.own_port
    own = ext_get_or None t.own_port s.own_port (k.sizes.own_port ∙ sym h.sizes.own_port) (λ c l. own_at c)

    sp_at : (c : ℕ) → speed_at t.sp c ≡ speed_at s.sp c
    sp_at c = elim (cases_lt c s.count) [
      | inl l ↦ k.speeds.of c (omega (arith, count)) ∙ sym (h.speeds.of c l)
      | inr l ↦ k.speeds.following c (omega (arith, count)) ∙ sym (h.speeds.following c l)
    ]

    sp : t.sp ≡ s.sp
    sp = ext_get_or 0 t.sp s.sp (k.sizes.sp ∙ sym h.sizes.sp) (λ c l. sp_at c)
