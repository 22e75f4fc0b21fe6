-- `rebuild` answers the value that `rebuilt` is.
use Rattle.fw_map.proofs.Common.{◌≡◌, ◌⊎◌, inl, inr, ℕ, zero, suc, ◌<◌, ◌≤◌, ◌==◌, nat_lt, [], ◌∷◌, length, slice_index_or, Option, Some, None, Bool, true, false, if◌then◌else◌, arith, refl, sym, ap}
use Rattle.fw_map.proofs.Common.{◌∙◌, All, cases_eq, cases_lt, eq-eqb, ne_eqb, nat_tests, Fits, speed_of, ResetEntry, number_at, is_there, truth, Tree, field_of, HasPackets, speed_at}
use Rattle.std.proofs.Common.{Result, Ok, Err, is_some}
use Rattle.std.proofs.lemmas.List.{ext_get_or, get_or_append_left, get_or_at, length_push}
use Rattle.fw_terms.specs.Tables.{find_to}
use Rattle.fw_map.specs.declared.MapFault.{MapFault}
use Rattle.fw_map.specs.declared.MapWhy.{MapWhy}
use Rattle.fw_map.specs.Faults.{node_fault, IsFault}
use Rattle.fw_map.specs.Rebuilt.{parent_in, port_in, own_in, speed_in, listed, tree_of_packets, fault_in, fault_at, fault_by, rebuilt, rebuilt_by}
use Rattle.fw_map.proofs.FieldLaws.{no_field}
use Rattle.fw_map.proofs.MatchLaws.{find_all, find_first}
use Rattle.fw_map.proofs.PlaceLaws.{parent_is, port_is, no_parent, no_port}
use Rattle.fw_map.proofs.ShapeLaws.{some_of, none_of, there, hangs_of, same_some}

-- ---- a value for each number

pub listed_long : {A : Type 0} (n : ℕ) (f : ℕ → A) → length (listed n f) ≡ n
unfolding listed
listed_long zero f = refl
listed_long (suc n) f = let a = length_push (listed n f) (f n) in let b = listed_long n f in omega arith

pub listed_at : {A : Type 0} (n k : ℕ) (f : ℕ → A) (d : A) → k < n → slice_index_or (listed n f) k d ≡ f k
unfolding listed
listed_at zero k f d l = absurd (omega arith)
listed_at (suc n) k f d l = elim (cases_eq k n) [
  | inl same ↦ get_or_at (listed n f) (f n) [] d k (listed_long n f ∙ sym same) ∙ ap f (sym same)
  | inr differ ↦ get_or_append_left (listed n f) (f n ∷ []) d k (let b = listed_long n f in omega arith) ∙ listed_at n k f d (omega arith)
]

-- ---- the first fault

is_fault : (o : Option MapWhy) (w : MapWhy) → o ≡ Some w → is_some o ≡ true
is_fault o w e = ap is_some e

no_why : (o : Option MapWhy) → o ≡ None → is_some o ≡ false
no_why o e = ap is_some e

pub fault_value : (e : ResetEntry) (f : MapFault) → IsFault e f → fault_in e ≡ Some f
fault_value e f w =
    ap (fault_by e) (find_first (length e.nodes) f.node (λ d. is_some (node_fault e d)) w.node (is_fault (node_fault e f.node) f.why w.is) (λ d l. no_why (node_fault e d) (w.first d l)))
    ∙ ap (fault_at f.node) w.is

-- none below n passes, or a first one does
pub first_of : (n : ℕ) (test : ℕ → Bool) → ((j : ℕ) → j < n → test j ≡ false) ⊎ ((k : ℕ) × (k < n) × (test k ≡ true) × ((j : ℕ) → j < k → test j ≡ false))
first_of zero test = inl (λ j l. absurd (omega arith))
first_of (suc n) test = elim (first_of n test) [
  | inr w ↦ inr (w.0, omega (arith, w.1), w.2, w.3)
  | inl none ↦ elim (truth (test n)) [
    | inl on ↦ inr (n, omega arith, on, none)
    | inr off ↦ inl (λ j l. elim (cases_eq j n) [ inl same ↦ ap test same ∙ off | inr differ ↦ none j (omega arith) ])
  ]
]

why_of : (o : Option MapWhy) → is_some o ≡ true → (w : MapWhy) × (o ≡ Some w)
why_of None h = absurd (let z : ⊥ = cc in z)
why_of (Some w) h = (w, refl)

none_why : (o : Option MapWhy) → is_some o ≡ false → o ≡ None
none_why None h = refl
none_why (Some w) h = absurd (let z : ⊥ = cc in z)

pub no_fault_value : (e : ResetEntry) → ((f : MapFault) → IsFault e f → ⊥) → fault_in e ≡ None
no_fault_value e none = elim (first_of (length e.nodes) (λ d. is_some (node_fault e d))) [
  | inl all ↦ ap (fault_by e) (find_all (length e.nodes) (λ d. is_some (node_fault e d)) all)
  | inr w ↦ absurd (
      let y = why_of (node_fault e w.0) w.2 in
      none (record { node = w.0; why = y.0 }) (record { node = w.1; is = y.1; first = λ d l. none_why (node_fault e d) (w.3 d l) }))
]

-- ---- the tree

if_low : {A : Type 0} (d n : ℕ) (x y : A) → d < n → (if nat_lt d n then x else y) ≡ x
if_low d n x y l = grind (arith, nat_tests)

if_high : {A : Type 0} (d n : ℕ) (x y : A) → n ≤ d → (if nat_lt d n then x else y) ≡ y
if_high d n x y l = grind (arith, nat_tests)

is_two : (f : ℕ) → (f == 2) ≡ true → f ≡ 2
is_two f h = grind (arith, nat_tests)

pub tree_value : (e : ResetEntry) (t : Tree) → HasPackets e t → length e.nodes ≤ 63 → All Fits e.ids → t ≡ tree_of_packets e
tree_value e t h size fits = λ i. record { count = h.count i; parent = parents i; parent_port = ports i; own_port = owns i; sp = speeds i }
  where
    few : t.count ≤ 63
    few = let c = h.count in omega arith

    parent_at : (c : ℕ) (o : Option ℕ) → number_at t.parent c ≡ o → o ≡ parent_in e c
    parent_at c None s = sym (no_parent e t h few fits c h.count s)
    parent_at c (Some d) s = let w = hangs_of t c d (h.ports c) s in sym (parent_is e t h few fits c d w.0 w.1 h.count)

    parents : t.parent ≡ listed 63 (parent_in e)
    parents = ext_get_or None t.parent (listed 63 (parent_in e)) (h.sizes.parent ∙ sym (listed_long 63 (parent_in e)))
        (λ c l. parent_at c (number_at t.parent c) refl ∙ sym (listed_at 63 c (parent_in e) None (let s = h.sizes.parent in omega arith)))

    port_at : (c : ℕ) (o : Option ℕ) → number_at t.parent_port c ≡ o → o ≡ port_in e c
    port_at c None s = sym (no_port e t h few fits c h.count (none_of (number_at t.parent c) (sym (h.ports c) ∙ ap is_there s)))
    port_at c (Some p) s =
        let d = some_of (number_at t.parent c) (sym (h.ports c) ∙ there (number_at t.parent_port c) p s) in
        sym (port_is e t h few fits c d.0 p (record { parent = d.1; port = s }) h.count)

    ports : t.parent_port ≡ listed 63 (port_in e)
    ports = ext_get_or None t.parent_port (listed 63 (port_in e)) (h.sizes.parent_port ∙ sym (listed_long 63 (port_in e)))
        (λ c l. port_at c (number_at t.parent_port c) refl ∙ sym (listed_at 63 c (port_in e) None (let s = h.sizes.parent_port in omega arith)))

    low_own : (c p : ℕ) → number_at t.own_port c ≡ Some p → c < t.count
    low_own c p s = let d = some_of (number_at t.parent c) (sym (h.own_ports c) ∙ there (number_at t.own_port c) p s) in (h.nodes c d.0 d.1).0

    own_some : (c p : ℕ) → c < t.count → number_at t.own_port c ≡ Some p → Some p ≡ own_in e c
    own_some c p l s =
        let f = (h.own c p l).1 s in
        let k : p < 27 = elim (cases_lt p 27) [ inl m ↦ m | inr m ↦ absurd (let b = no_field e.ids c p fits m in omega arith) ] in
        sym (if_low c (length e.nodes) (find_to 27 (λ q. field_of e.ids c q == 2)) None (let n = h.count in omega arith)
        ∙ find_first 27 p (λ q. field_of e.ids c q == 2) k (eq-eqb (field_of e.ids c p) 2 f)
        (λ q m. ne_eqb (field_of e.ids c q) 2 (λ on. let z = same_some (number_at t.own_port c) q p ((h.own c q l).0 on) s in omega arith)))

    own_none : (c : ℕ) → number_at t.own_port c ≡ None → None ≡ own_in e c
    own_none c s = elim (cases_lt c (length e.nodes)) [
      | inl l ↦
          sym (if_low c (length e.nodes) (find_to 27 (λ q. field_of e.ids c q == 2)) None l
          ∙ find_all 27 (λ q. field_of e.ids c q == 2) (λ q m. ne_eqb (field_of e.ids c q) 2 (λ on. let a = (h.own c q (let n = h.count in omega arith)).0 on in let z : ⊥ = cc in z)))
      | inr l ↦ sym (if_high c (length e.nodes) (find_to 27 (λ q. field_of e.ids c q == 2)) None l)
    ]

    own_at : (c : ℕ) (o : Option ℕ) → number_at t.own_port c ≡ o → o ≡ own_in e c
    own_at c None s = own_none c s
    own_at c (Some p) s = own_some c p (low_own c p s) s

    owns : t.own_port ≡ listed 63 (own_in e)
    owns = ext_get_or None t.own_port (listed 63 (own_in e)) (h.sizes.own_port ∙ sym (listed_long 63 (own_in e)))
        (λ c l. own_at c (number_at t.own_port c) refl ∙ sym (listed_at 63 c (own_in e) None (let s = h.sizes.own_port in omega arith)))

    speed_is : (c : ℕ) → speed_at t.sp c ≡ speed_in e c
    speed_is c = elim (cases_lt c (length e.nodes)) [
      | inl l ↦ h.speeds.of c (let n = h.count in omega arith) ∙ sym (if_low c (length e.nodes) (speed_of c e.ids) 0 l)
      | inr l ↦ h.speeds.following c (let n = h.count in omega arith) ∙ sym (if_high c (length e.nodes) (speed_of c e.ids) 0 l)
    ]

    speeds : t.sp ≡ listed 63 (speed_in e)
    speeds = ext_get_or 0 t.sp (listed 63 (speed_in e)) (h.sizes.sp ∙ sym (listed_long 63 (speed_in e))) (λ c l. speed_is c ∙ sym (listed_at 63 c (speed_in e) 0 (let s = h.sizes.sp in omega arith)))

-- ---- the answer

pub tree_is : (e : ResetEntry) (t : Tree) → HasPackets e t → length e.nodes ≤ 63 → All Fits e.ids → ((f : MapFault) → IsFault e f → ⊥) → ◌≡◌ {A = Result Tree MapFault} (Ok t) (rebuilt e)
tree_is e t h size fits none = ap (λ (x : Tree). Ok x) (tree_value e t h size fits) ∙ sym (ap (rebuilt_by e) (no_fault_value e none))

pub fault_is : (e : ResetEntry) (f : MapFault) → IsFault e f → ◌≡◌ {A = Result Tree MapFault} (Err f) (rebuilt e)
fault_is e f w = sym (ap (rebuilt_by e) (fault_value e f w))
