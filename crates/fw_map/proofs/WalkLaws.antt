-- The one walk between two nodes goes up from the lower of them.
use Rattle.fw_map.proofs.Common.{◌≡◌, ◌⊎◌, inl, inr, ℕ, zero, suc, ◌+◌, ◌<◌, ◌≤◌, List, [], ◌∷◌, ◌++◌, Some, arith, refl, sym, ap, subst, ◌∙◌, cases_eq, cases_lt, number_at, Tree, speed_at}
use Rattle.fw_map.specs.Walks.{IsRebuilt, AreJoined, IsOn, Walk, here, along, IsLeast, IsLeastSoFar}
use Rattle.fw_map.proofs.ShapeLaws.{hangs_of, same_some, root_or_hangs}
use Rattle.fw_map.proofs.OrderLaws.{grown, root_last}

on_both : (xs ys : List ℕ) (x : ℕ) → IsOn (xs ++ ys) x → IsOn xs x ⊎ IsOn ys x
on_both [] ys x h = inr h
on_both (y ∷ xs) ys x (inl e) = inl (inl e)
on_both (y ∷ xs) ys x (inr h) = elim (on_both xs ys x h) [ inl a ↦ inl (inr a) | inr b ↦ inr b ]

on_prefix : (xs ys : List ℕ) (x : ℕ) → IsOn xs x → IsOn (xs ++ ys) x
on_prefix [] ys x h = absurd h
on_prefix (y ∷ xs) ys x (inl e) = inl e
on_prefix (y ∷ xs) ys x (inr h) = inr (on_prefix xs ys x h)

-- the ends of a walk are on it
pub first_on : (t : Tree) (a b : ℕ) (nodes : List ℕ) → Walk t a b nodes → IsOn nodes a
first_on t a b nodes here = inl refl
first_on t a b nodes (along j w apart) = inl refl

pub last_on : (t : Tree) (a b : ℕ) (nodes : List ℕ) → Walk t a b nodes → IsOn nodes b
last_on t a b nodes here = inl refl
last_on t a b nodes (along {b = c} {nodes = rest} j w apart) = inr (last_on t c b rest w)

-- a walk from a node to itself is that node
pub stays : (t : Tree) (a b : ℕ) (nodes : List ℕ) → Walk t a b nodes → a ≡ b → nodes ≡ a ∷ []
stays t a b nodes here same = refl
stays t a b nodes (along {b = c} {nodes = rest} j w apart) same = absurd (apart (let l = last_on t c b rest w in subst (λ (x : ℕ). IsOn rest x) (sym same) l))

-- the node hangs on the other, over others or not
data Below (t : Tree) (a : ℕ) : ℕ → Type 0 where
  child : {x : ℕ} → number_at t.parent x ≡ Some a → Below t a x
  deeper : {x : ℕ} (y : ℕ) → number_at t.parent x ≡ Some y → Below t a y → Below t a x

-- a walk that does not meet a node stays below it
stays_below : (t : Tree) (a b c : ℕ) (nodes : List ℕ) → Walk t b c nodes → Below t a b → (IsOn nodes a → ⊥) → Below t a c
stays_below t a b c nodes here h apart = h
stays_below t a b c nodes (along {b = d} {nodes = rest} (inr up) w other) h apart = stays_below t a d c rest w (deeper b up h) (λ o. apart (inr o))
stays_below t a b c nodes (along {b = d} {nodes = rest} (inl up) w other) (child e) apart =
    absurd (apart (inr (let s : a ≡ d = same_some (number_at t.parent b) a d e up in subst (λ (x : ℕ). IsOn rest x) (sym s) (first_on t d c rest w))))
stays_below t a b c nodes (along {b = d} {nodes = rest} (inl up) w other) (deeper y e h) apart = let s : y ≡ d = same_some (number_at t.parent b) y d e up in
    stays_below t a d c rest w (subst (λ (x : ℕ). Below t a x) s h) (λ o. apart (inr o))

module _ (t : Tree) (r : IsRebuilt t) where
  few : t.count ≤ 63
  few = let a = r.packets.count in let b = r.fits.few in omega arith

  -- a parent is a higher node
  pub higher : (c d : ℕ) → number_at t.parent c ≡ Some d → (c < d) × (d < t.count)
  higher c d h =
      let w = hangs_of t c d (r.packets.ports c) h in
      let g = grown r.entry t r.packets few r.fits.packets in
      (g.up c d w.0 w.1, (r.packets.nodes c d h).1)

  -- a node before the last has a parent
  pub has_parent : (c : ℕ) → c + 1 < t.count → (d : ℕ) × (number_at t.parent c ≡ Some d)
  has_parent c l =
      let last = root_last r.entry t r.packets few in
      elim (root_or_hangs t r.entry.root (r.packets.numbers.paths c) c (r.packets.numbers.lead c (omega arith))) [
        | inl top ↦ absurd (omega arith)
        | inr up ↦ (up.0, up.2.parent)
      ]

  below_lower : (a x : ℕ) → Below t a x → x < a
  below_lower a x (child e) = (higher x a e).0
  below_lower a x (deeper y e h) = let l = below_lower a y h in let m = (higher x y e).0 in omega arith

  -- a walk begins upwards if the other end is higher
  pub begins_up : (a c d : ℕ) (nodes : List ℕ) → Walk t a c nodes → a < c → number_at t.parent a ≡ Some d → (rest : List ℕ) × Walk t d c rest × (nodes ≡ a ∷ rest)
  begins_up a c d nodes here l e = absurd (omega arith)
  begins_up a c d nodes (along {b = b} {nodes = rest} (inl up) w apart) l e = let s : b ≡ d = same_some (number_at t.parent a) b d up e in (rest, subst (λ (x : ℕ). Walk t x c rest) s w, refl)
  begins_up a c d nodes (along {b = b} {nodes = rest} (inr down) w apart) l e = absurd (let k = below_lower a c (stays_below t a b c rest w (child down) apart) in omega arith)

  -- and ends downwards if the first end is higher
  pub ends_down : (a c d : ℕ) (nodes : List ℕ) → Walk t a c nodes → c < a → number_at t.parent c ≡ Some d → (rest : List ℕ) × Walk t a d rest × (nodes ≡ rest ++ c ∷ [])
  ends_down a c d nodes here l e = absurd (omega arith)
  ends_down a c d nodes (along {b = b} {nodes = rest} j w apart) l e = elim (cases_eq b c) [
    | inl same ↦
        let alone : rest ≡ b ∷ [] = stays t b c rest w same in
        let top : a ≡ d = joined a b c d j same l e in
        (a ∷ [], subst (λ (x : ℕ). Walk t a x (a ∷ [])) top here, ap (λ (xs : List ℕ). a ∷ xs) (alone ∙ ap (λ (x : ℕ). x ∷ []) same))
    | inr differ ↦ elim (cases_lt c b) [
      | inl low ↦
          let k = ends_down b c d rest w low e in
          (a ∷ k.0, along j k.1 (λ o. apart (subst (λ (xs : List ℕ). IsOn xs a) (sym k.2) (on_prefix k.0 (c ∷ []) a o))), ap (λ (xs : List ℕ). a ∷ xs) k.2)
      | inr high ↦ absurd (apart (
          let up : number_at t.parent b ≡ Some a = rises a b c j (omega arith) l in
          let k = begins_up b c a rest w (omega arith) up in
          subst (λ (xs : List ℕ). IsOn xs a) (sym k.2) (inr (first_on t a c k.0 k.1))))
    ]
  ]
    where
      joined : (a b c d : ℕ) → AreJoined t a b → b ≡ c → c < a → number_at t.parent c ≡ Some d → a ≡ d
      joined a b c d (inl up) same l e = absurd (let k = (higher a b up).0 in omega arith)
      joined a b c d (inr down) same l e = same_some (number_at t.parent c) a d (ap (number_at t.parent) (sym same) ∙ down) e

      rises : (a b c : ℕ) → AreJoined t a b → b < c → c < a → number_at t.parent b ≡ Some a
      rises a b c (inl up) l m = absurd (let k = (higher a b up).0 in omega arith)
      rises a b c (inr down) l m = down

  -- a walk goes on to a node that it has not met
  goes_on : (a b c : ℕ) (nodes : List ℕ) → Walk t a b nodes → AreJoined t b c → (IsOn nodes c → ⊥) → Walk t a c (nodes ++ c ∷ [])
  goes_on a b c nodes here j apart = along j here (λ o. elim o [ inl e ↦ apart (inl (sym e)) | inr z ↦ z ])
  goes_on a b c nodes (along {b = d} {nodes = rest} k w other) j apart =
      along k (goes_on d b c rest w j (λ o. apart (inr o))) (λ o. elim (on_both rest (c ∷ []) a o) [ inl x ↦ other x | inr x ↦ elim x [ inl e ↦ apart (inl (sym e)) | inr z ↦ z ] ])

  -- there is a walk between two nodes, over nodes that are as high as one of them
  pub record Way (a b : ℕ) : Type 0 where
    pub nodes : List ℕ
    pub walk : Walk t a b nodes
    pub high : (x : ℕ) → IsOn nodes x → (a ≤ x) ⊎ (b ≤ x)

  pub way : (n a b : ℕ) → a < t.count → b < t.count → t.count + t.count ≤ a + b + n → Way a b
  way zero a b l m k = absurd (omega arith)
  way (suc n) a b l m k = elim (cases_eq a b) [
    | inl same ↦ record { nodes = a ∷ []; walk = subst (λ (x : ℕ). Walk t a x (a ∷ [])) same here; high = λ x o. elim o [ inl e ↦ inl (omega arith) | inr z ↦ absurd z ] }
    | inr differ ↦ elim (cases_lt a b) [
      | inl low ↦
          let p = has_parent a (omega arith) in
          let h = higher a p.0 p.1 in
          let w = way n p.0 b h.1 m (omega (arith, h.0)) in
          record {
            nodes = a ∷ w.nodes;
            walk = along {a = a} {b = p.0} {c = b} {nodes = w.nodes} (inl p.1) w.walk (λ o. elim (w.high a o) [ inl z ↦ omega (arith, h.0) | inr z ↦ omega arith ]);
            high = λ x o. elim o [ inl e ↦ inl (omega arith) | inr o ↦ elim (w.high x o) [ inl z ↦ inl (omega (arith, h.0)) | inr z ↦ inr z ] ];
          }
      | inr more ↦
          let p = has_parent b (omega arith) in
          let h = higher b p.0 p.1 in
          let w = way n a p.0 l h.1 (omega (arith, h.0)) in
          record {
            nodes = w.nodes ++ b ∷ [];
            walk = goes_on a p.0 b w.nodes w.walk (inr p.1) (λ o. elim (w.high b o) [ inl z ↦ omega arith | inr z ↦ omega (arith, h.0) ]);
            high = λ x o. elim (on_both w.nodes (b ∷ []) x o) [
              | inl o ↦ elim (w.high x o) [ inl z ↦ inl z | inr z ↦ inr (omega (arith, h.0)) ]
              | inr o ↦ elim o [ inl e ↦ inr (omega arith) | inr z ↦ absurd z ]
            ];
          }
    ]
  ]

  -- ---- the loop

  -- one end goes up
  pub first_up : (nodes : List ℕ) (a b d old new : ℕ) → a < b → number_at t.parent a ≡ Some d → old ≤ speed_at t.sp a → (new ≡ old) ⊎ (new ≡ speed_at t.sp d) → new ≤ old → IsLeastSoFar t nodes a b old
      → IsLeastSoFar t nodes d b new
  first_up nodes a b d old new l e least which less s =
      let w = begins_up a b d s.rest s.walk l e in
      let inside : (x : ℕ) → IsOn w.0 x → IsOn nodes x = λ x o. s.inside x (subst (λ (xs : List ℕ). IsOn xs x) (sym w.2) (inr o)) in
      let passed : (x : ℕ) → IsOn nodes x → IsOn w.0 x ⊎ (new ≤ speed_at t.sp x) = λ x o. elim (s.passed x o) [
        | inl on ↦ elim (subst (λ (xs : List ℕ). IsOn xs x) w.2 on) [ inl same ↦ inr (let f = ap (speed_at t.sp) same in omega arith) | inr r ↦ inl r ]
        | inr p ↦ inr (omega arith)
      ] in
      elim which [
        | inl same ↦ record { rest = w.0; walk = w.1; inside = inside; one = s.one; on = s.on; is = s.is ∙ sym same; passed = passed }
        | inr same ↦ record { rest = w.0; walk = w.1; inside = inside; one = d; on = inside d (first_on t d b w.0 w.1); is = sym same; passed = passed }
      ]

  pub second_up : (nodes : List ℕ) (a b d old new : ℕ) → b < a → number_at t.parent b ≡ Some d → old ≤ speed_at t.sp b → (new ≡ old) ⊎ (new ≡ speed_at t.sp d) → new ≤ old
      → IsLeastSoFar t nodes a b old → IsLeastSoFar t nodes a d new
  second_up nodes a b d old new l e least which less s =
      let w = ends_down a b d s.rest s.walk l e in
      let inside : (x : ℕ) → IsOn w.0 x → IsOn nodes x = λ x o. s.inside x (subst (λ (xs : List ℕ). IsOn xs x) (sym w.2) (on_prefix w.0 (b ∷ []) x o)) in
      let passed : (x : ℕ) → IsOn nodes x → IsOn w.0 x ⊎ (new ≤ speed_at t.sp x) = λ x o. elim (s.passed x o) [
        | inl on ↦ elim (on_both w.0 (b ∷ []) x (subst (λ (xs : List ℕ). IsOn xs x) w.2 on)) [
          | inl r ↦ inl r
          | inr k ↦ elim k [ inl same ↦ inr (let f = ap (speed_at t.sp) same in omega arith) | inr z ↦ absurd z ]
        ]
        | inr p ↦ inr (omega arith)
      ] in
      elim which [
        | inl same ↦ record { rest = w.0; walk = w.1; inside = inside; one = s.one; on = s.on; is = s.is ∙ sym same; passed = passed }
        | inr same ↦ record { rest = w.0; walk = w.1; inside = inside; one = d; on = inside d (last_on t a d w.0 w.1); is = sym same; passed = passed }
      ]

pub so_far : (t : Tree) (nodes : List ℕ) (a b speed : ℕ) → Walk t a b nodes → (speed ≡ speed_at t.sp a) ⊎ (speed ≡ speed_at t.sp b) → IsLeastSoFar t nodes a b speed
so_far t nodes a b speed w which = elim which [
  | inl same ↦ record { rest = nodes; walk = w; inside = λ x o. o; one = a; on = first_on t a b nodes w; is = sym same; passed = λ x o. inl o }
  | inr same ↦ record { rest = nodes; walk = w; inside = λ x o. o; one = b; on = last_on t a b nodes w; is = sym same; passed = λ x o. inl o }
]

pub at_end : (t : Tree) (nodes : List ℕ) (a b speed : ℕ) → a ≡ b → speed ≤ speed_at t.sp a → IsLeastSoFar t nodes a b speed → IsLeast t.sp nodes speed
at_end t nodes a b speed same least s = record {
  one = s.one;
  on = s.on;
  is = s.is;
  least = λ x o. elim (s.passed x o) [
    | inl on ↦ elim (subst (λ (xs : List ℕ). IsOn xs x) (stays t a b s.rest s.walk same) on) [ inl e ↦ let f = ap (speed_at t.sp) e in omega arith | inr z ↦ absurd z ]
    | inr p ↦ p
  ];
}
