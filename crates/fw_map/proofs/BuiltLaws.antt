-- If the numbers tell who hangs on whom, they are those of self-identification.
use Rattle.fw_map.proofs.Common.{◌≡◌, inl, inr, ℕ, zero, suc, ◌+◌, ◌-◌, ◌<◌, ◌≤◌, ◌&&◌, nat_lt, not, List, [], ◌∷◌, ◌++◌, length, Some, None, Bool, true, false, arith, refl, sym, ap, subst, ◌∙◌, All}
use Rattle.fw_map.proofs.Common.{cases_eq, cases_lt, nat_tests, PhyPacket, Fits, ResetEntry, counted, number_at, is_there, comes_before, counted_same, counted_none, counted_yes, counted_else, truth}
use Rattle.fw_map.proofs.Common.{Tree, Hangs, at_root, down_to, HasSizes, HasPackets, Grown}
use Rattle.fw_tree.specs.Paths.{is_left}
use Rattle.fw_tree.proofs.StepLaws.{irreflexive}
use Rattle.fw_map.specs.Faults.{is_last}
use Rattle.fw_map.specs.Trees.{LeadsDown, AreNumbers}
use Rattle.fw_map.specs.Growing.{Noted}
use Rattle.fw_map.proofs.PathLaws.{transitive, child_first, sibling_left, left_longer, left_first, branch_first}
use Rattle.fw_map.proofs.FieldLaws.{no_field}
use Rattle.fw_map.proofs.ShapeLaws.{some_of, none_of, hangs_of, one_way}

-- how many numbers are below d
count_below : (d n : ℕ) → n ≤ d → counted (λ c. nat_lt c d) n ≡ n
count_below d zero l = counted_none (λ c. nat_lt c d)
count_below d (suc n) l =
    let e = count_below d n (omega arith) in
    let s = counted_yes (λ c. nat_lt c d) n (low n d l) in
    let r : suc n ≡ n + 1 = omega arith in
    rw r (omega arith)
  where
    low : (n d : ℕ) → n < d → nat_lt n d ≡ true
    low n d l = grind (arith, nat_tests)

count_above : (d k : ℕ) → counted (λ c. nat_lt c d) (d + k) ≡ d
count_above d zero = let e = count_below d d (omega arith) in let r : d + 0 ≡ d = omega arith in rw r e
count_above d (suc k) =
    let e = count_above d k in
    let s = counted_else (λ c. nat_lt c d) (d + k) (high (d + k) d (omega arith)) in
    let r : d + suc k ≡ d + k + 1 = omega arith in
    rw r (s ∙ e)
  where
    high : (n d : ℕ) → d ≤ n → nat_lt n d ≡ false
    high n d l = grind (arith, nat_tests)

count_to : (d n : ℕ) → d ≤ n → counted (λ c. nat_lt c d) n ≡ d
count_to d n l = let e : d + (n - d) ≡ n = omega arith in subst (λ (m : ℕ). counted (λ c. nat_lt c d) m ≡ d) e (count_above d (n - d))

-- the test of a node that comes before another
test_yes : (c d n : ℕ) (a : Bool) → c < d → d < n → a ≡ true → (nat_lt c n && a) ≡ nat_lt c d
test_yes c d n a l m h = grind (arith, nat_tests)

test_no : (c d n : ℕ) (a : Bool) → d ≤ c → (c < n → a ≡ false) → (nat_lt c n && a) ≡ nat_lt c d
test_no c d n a l h = grind (arith, nat_tests)

-- if the lower of two nodes always comes first, each has the count of those that come before it
pub places_of : (n : ℕ) (paths : ℕ → List ℕ) → n ≤ 63 → ((x y : ℕ) → x < y → y < n → comes_before (paths x) (paths y) ≡ true) → (d : ℕ) → d < n
    → d ≡ counted (λ c. nat_lt c n && comes_before (paths c) (paths d)) 63
places_of n paths few first d low = sym (counted_same (λ c. nat_lt c n && comes_before (paths c) (paths d)) (λ c. nat_lt c d) 63 (λ c l. same c) ∙ count_to d 63 (omega arith))
  where
    not_before : (c : ℕ) → d ≤ c → c < n → comes_before (paths c) (paths d) ≡ false
    not_before c m o = elim (cases_eq d c) [
      | inl here ↦ rw (sym here) (irreflexive (paths d))
      | inr differ ↦ elim (truth (comes_before (paths c) (paths d))) [
        | inr off ↦ off
        | inl on ↦ absurd (
            let a = first d c (omega arith) o in
            let b = transitive (paths d) (paths c) (paths d) a on in
            let e = irreflexive (paths d) in
            let z : ⊥ = cc in z)
      ]
    ]

    same : (c : ℕ) → (nat_lt c n && comes_before (paths c) (paths d)) ≡ nat_lt c d
    same c = elim (cases_lt c d) [
      | inl l ↦ test_yes c d n (comes_before (paths c) (paths d)) l low (first c d l low)
      | inr l ↦ test_no c d n (comes_before (paths c) (paths d)) l (λ o. not_before c l o)
    ]

module _ (ids : List PhyPacket) (t : Tree) (n : ℕ) (fits : All Fits ids) (g : Grown ids n 27 t) (few : n ≤ 63) (hang : (c : ℕ) → c + 1 < n → is_there (number_at t.parent c) ≡ true) where
  inside : (c d p : ℕ) → Hangs t c d p → d < n
  inside c d p h = elim (g.done c d p h) [
    | inl low ↦ low
    | inr k ↦ absurd (let a = g.field c d p h in let b = no_field ids d p fits k.1 in omega arith)
  ]

  pub has_nodes : (c d : ℕ) → number_at t.parent c ≡ Some d → (c < n) × (d < n)
  has_nodes c d h =
      let w = hangs_of t c d (g.ports c) h in
      let a = g.up c d w.0 w.1 in
      let b = inside c d w.0 w.1 in
      (omega arith, b)

  upper : (c : ℕ) → c + 1 < n → (d p : ℕ) × Hangs t c d p
  upper c l =
      let s = some_of (number_at t.parent c) (hang c l) in
      let w = hangs_of t c s.0 (g.ports c) s.1 in
      (s.0, w.0, w.1)

  pub has_top : (root : ℕ) → root + 1 ≡ n → number_at t.parent root ≡ None
  has_top root last = elim (truth (is_there (number_at t.parent root))) [
    | inr off ↦ none_of (number_at t.parent root) off
    | inl on ↦ absurd (
        let s = some_of (number_at t.parent root) on in
        let w = hangs_of t root s.0 (g.ports root) s.1 in
        let a = g.up root s.0 w.0 w.1 in
        let b = inside root s.0 w.0 w.1 in
        omega arith)
  ]

  way : (root : ℕ) → root + 1 ≡ n → (k c : ℕ) → c < n → n ≤ c + k → (v : List ℕ) × LeadsDown t root v c
  way root last zero c low l = absurd (omega arith)
  way root last (suc k) c low l = elim (cases_eq c root) [
    | inl same ↦ let P : ℕ → Type 0 = LeadsDown t root [] in ([], subst P (sym same) at_root)
    | inr differ ↦
        let u = upper c (omega arith) in
        let a = g.up c u.0 u.1 u.2 in
        let b = inside c u.0 u.1 u.2 in
        let w = way root last k u.0 b (omega arith) in
        (w.0 ++ u.1 ∷ [], down_to {k = w.0} {v = w.0 ++ u.1 ∷ []} w.1 u.1 u.2 refl)
  ]

  choose : (root : ℕ) → root + 1 ≡ n → (c : ℕ) → (v : List ℕ) × (c < n → LeadsDown t root v c)
  choose root last c = elim (cases_lt c n) [
    | inl low ↦ let w = way root last n c low (omega arith) in (w.0, λ l. w.1)
    | inr high ↦ ([], λ l. absurd (omega arith))
  ]

  module _ (root : ℕ) (last : root + 1 ≡ n) (paths : ℕ → List ℕ) (lead : (c : ℕ) → c < n → LeadsDown t root (paths c) c) where
    below : (c d p : ℕ) → Hangs t c d p → paths c ≡ paths d ++ p ∷ []
    below c d p h =
        let b = inside c d p h in
        let a = g.up c d p h in
        one_way t root (paths c) (paths d ++ p ∷ []) c c (has_top root last) (lead c (omega arith)) (down_to (lead d b) p h refl) refl

    -- a node below the parent of a lower one is right of that
    left_of : (k x y d p : ℕ) → n ≤ y + k → Hangs t x d p → x < y → y < d → is_left (paths x) (paths y) ≡ true
    left_of zero x y d p l h m o = absurd (let b = inside x d p h in omega arith)
    left_of (suc k) x y d p l h m o =
        let w = g.nested x y d p h m o in
        let e = w.0 in
        let r = w.1 in
        let up = w.2 in
        elim (cases_eq e d) [
          | inl same ↦
              let P : ℕ → Type 0 = λ f. Hangs t y f r in
              let here : Hangs t y d r = subst P same up in
              rw (below x d p h, below y d r here) (sibling_left (paths d) p r (g.ordered x y d p r h here m))
          | inr differ ↦
              let a = g.up y e r up in
              rw (below y e r up) (left_longer (paths x) (paths e) (r ∷ []) (left_of k x e d p (omega arith) h (omega arith) (omega (arith, w.3))))
        ]

    -- the lower of two nodes comes first
    pub first : (k x y : ℕ) → n ≤ x + k → x < y → y < n → comes_before (paths x) (paths y) ≡ true
    first zero x y l m o = absurd (omega arith)
    first (suc k) x y l m o =
        let u = upper x (omega arith) in
        let d = u.0 in
        let p = u.1 in
        let h = u.2 in
        let a = g.up x d p h in
        elim (cases_eq d y) [
          | inl same ↦ let e : paths x ≡ paths y ++ p ∷ [] = below x d p h ∙ ap (λ f. paths f ++ p ∷ []) same in rw e (child_first (paths y) p)
          | inr differ ↦ elim (cases_lt d y) [
            | inl low ↦ rw (below x d p h) (branch_first (paths d) (paths y) (p ∷ []) (first k d y (omega arith) low o))
            | inr high ↦ left_first (paths x) (paths y) (left_of n x y d p (omega arith) h m (omega arith))
          ]
        ]

    pub place : (d : ℕ) → d < n → d ≡ counted (λ c. nat_lt c n && comes_before (paths c) (paths d)) 63
    place d low = places_of n paths few (λ x y l m. first n x y (omega arith) l m) d low

  pub numbers : (root : ℕ) → root + 1 ≡ n → t.count ≡ n → AreNumbers t root
  numbers root last count =
      let paths : ℕ → List ℕ = λ c. (choose root last c).0 in
      let lead : (c : ℕ) → c < n → LeadsDown t root (paths c) c = λ c. (choose root last c).1 in
      record {
        paths = paths;
        lead = λ d l. lead d (omega arith);
        places = λ d l. let P : ℕ → Type 0 = λ m. d ≡ counted (λ c. nat_lt c m && comes_before (paths c) (paths d)) 63 in subst P (sym count) (place root last paths lead d (omega arith));
      }

pub tree_of : (e : ResetEntry) (t : Tree) (n : ℕ) → All Fits e.ids → Grown e.ids n 27 t → n ≤ 63 → ((c : ℕ) → c + 1 < n → is_there (number_at t.parent c) ≡ true) → HasSizes t → t.count ≡ n
    → n ≡ length e.nodes → Noted e n t → e.root + 1 ≡ n → HasPackets e t
tree_of e t n fits g few hang sizes count size noted last = record {
  sizes = sizes;
  count = count ∙ size;
  nodes = λ c d h. let w = has_nodes e.ids t n fits g few hang c d h in (omega (arith, w.0), omega (arith, w.1));
  ports = g.ports;
  root = omega arith;
  top = top;
  numbers = numbers e.ids t n fits g few hang e.root last count;
  children = λ d p l. (λ f. g.child d p (inl (omega arith)) f, λ w. g.field w.0 d p w.1);
  own = λ d p l. noted.own d p (omega arith);
  own_ports = own_ports;
  speeds = record { of = λ d l. noted.sp d (omega arith); following = λ d l. noted.sp_after d (omega arith) };
}
  where
    top : number_at t.parent e.root ≡ None
    top = has_top e.ids t n fits g few hang e.root last

    at_last : (c : ℕ) → c < n → c + 1 < n → not (is_last e c) ≡ true
    at_last c l m = let k : c + 1 < length e.nodes = omega arith in grind (arith, nat_tests)

    not_last : (c : ℕ) → c + 1 ≡ n → not (is_last e c) ≡ false
    not_last c l = let k : c + 1 ≡ length e.nodes = omega arith in grind (arith, nat_tests)

    off : (c : ℕ) → n ≤ c → is_there (number_at t.parent c) ≡ false
    off c l = elim (truth (is_there (number_at t.parent c))) [
      | inr o ↦ o
      | inl on ↦ absurd (let s = some_of (number_at t.parent c) on in let w = has_nodes e.ids t n fits g few hang c s.0 s.1 in omega (arith, w.0))
    ]

    own_ports : (c : ℕ) → is_there (number_at t.own_port c) ≡ is_there (number_at t.parent c)
    own_ports c = elim (cases_lt c n) [
      | inr high ↦ ap is_there (noted.own_following c high) ∙ sym (off c high)
      | inl low ↦ noted.own_ports c low ∙ elim (cases_eq (c + 1) n) [
        | inl same ↦
            let root : c ≡ e.root = omega arith in
            not_last c same ∙ sym (ap is_there (ap (number_at t.parent) root ∙ top))
        | inr differ ↦ at_last c low (omega arith) ∙ sym (hang c (omega arith))
      ]
    ]
