-- Exactly one device of the bus is root.
use Rattle.fw_tree.proofs.Common.{◌≡◌, ◌⊎◌, inl, inr, ℕ, zero, suc, ◌<◌, ◌&&◌, Option, Some, None, Bool, true, false, arith, refl, sym, subst, ◌∙◌, slice_index_or, List, [], cases_eq, cases_lt, Peers}
use Rattle.fw_tree.proofs.Common.{peer, Walk, here, along, LeadsTo, InRange, is_seen, open_count, stays, LeavesBy, HasParent, Parent, IsParent, IsOn, Settled, HasNoLoop, AreCables}
use Rattle.fw_tree.specs.Rounds.{Tie, WinsTie, IsRoot}
use Rattle.fw_tree.proofs.ForestLaws.{truth, both, first_of, second_of, open_to, opened}
use Rattle.fw_tree.proofs.OpenPortLaws.{one_of}
use Rattle.fw_tree.proofs.RoundLaws.{leaves, goes, stayed, earlier, always, both_stay, pair, bus_splits, Ended, between, one_stays, in_range, led}

-- who is left of a tie after its round: nobody
no_more : (g : Peers) (on : ℕ → Bool) (r t d e k : ℕ) → Ended g on r → Tie g (stays g t) d e → on d ≡ true → on k ≡ true → stays g (suc t) k ≡ true → ⊥
no_more g on r t d e k n tie i j s = elim (pair g t d e k tie (both_stay g t d k n.cables (between g on r d k n i j) tie.first.0.still (stayed g t k s))) [
  | inl same ↦ let x = goes g t d tie.first.0.one in let y : stays g (suc t) d ≡ true = rw same at s in cc
  | inr same ↦ let x = goes g t e tie.second.0.one in let y : stays g (suc t) e ≡ true = rw same at s in cc
]

two_ties : (g : Peers) (on : ℕ → Bool) (r t u d e k l : ℕ) → Ended g on r → on d ≡ true → on k ≡ true → e < d → l < k → Tie g (stays g t) d e → Tie g (stays g u) k l → t ≡ u → d ≡ k
two_ties g on r t u d e k l n i j x y a b same =
    let P : ℕ → Type 0 = λ m. Tie g (stays g m) k l in
    let c : Tie g (stays g t) k l = subst P (sym same) b in
    let w = both_stay g t d k n.cables (between g on r d k n i j) a.first.0.still c.first.0.still in
    let v = both_stay g t d l n.cables (between g on r d l n i (other_on g on r t k l n j c)) a.first.0.still c.second.0.still in
    elim (pair g t d e k a w) [
      | inl this ↦ sym this
      | inr that ↦ elim (pair g t d e l a v) [ inl f ↦ absurd (omega arith) | inr f ↦ absurd (omega arith) ]
    ]
  where
    other_on : (g : Peers) (on : ℕ → Bool) (r t k l : ℕ) → Ended g on r → on k ≡ true → Tie g (stays g t) k l → on l ≡ true
    other_on g on r t k l n j c = bus_splits g on n.cables n.bus k c.port (record { device = l; port = c.other }) c.first.1 ∙ j

pub one_root : (g : Peers) (on : ℕ → Bool) (r d e : ℕ) → Ended g on r → on d ≡ true → on e ≡ true → IsRoot g d → IsRoot g e → d ≡ e
one_root g on r d e n i j (inl s) (inl t) = one_stays g on r d e n i j (s r) (t r)
one_root g on r d e n i j (inl s) (inr t) = absurd (no_more g on r t.0 e t.1.0 d n t.1.2 j i (s (suc t.0)))
one_root g on r d e n i j (inr s) (inl t) = absurd (no_more g on r s.0 d s.1.0 e n s.1.2 i j (t (suc s.0)))
one_root g on r d e n i j (inr s) (inr t) = elim (cases_lt s.0 t.0) [
  | inl less ↦ absurd (no_more g on r s.0 d s.1.0 e n s.1.2 i j (earlier g s.0 t.0 e less t.1.2.first.0.still))
  | inr most ↦ elim (cases_eq s.0 t.0) [
    | inl same ↦ two_ties g on r s.0 t.0 d s.1.0 e t.1.0 n i j s.1.1 t.1.1 s.1.2 t.1.2 same
    | inr differ ↦ absurd (no_more g on r t.0 e t.1.0 d n t.1.2 j i (earlier g t.0 s.0 d (omega arith) s.1.2.first.0.still))
  ]
]

-- some device below n passes, or none does
pub some_below : (f : ℕ → Bool) (n : ℕ) → ((d : ℕ) × (d < n) × (f d ≡ true)) ⊎ ((d : ℕ) → d < n → f d ≡ true → ⊥)
some_below f zero = inr (λ d h t. omega arith)
some_below f (suc n) = elim (truth (f n)) [
  | inl shown ↦ inl (n, omega arith, shown)
  | inr shut ↦ elim (some_below f n) [
    | inl w ↦ inl (w.0, omega (arith, w.1), w.2)
    | inr none ↦ inr (λ d h t. elim (cases_eq d n) [ inl same ↦ let e : f n ≡ true = rw same at t in cc | inr differ ↦ none d (omega arith) t ])
  ]
]

-- the last round at which a device of the bus stays
record Last (g : Peers) (on : ℕ → Bool) : Type 0 where
  round : ℕ
  device : ℕ
  is_on : on device ≡ true
  still : stays g round device ≡ true
  none : (d : ℕ) → on d ≡ true → stays g (suc round) d ≡ true → ⊥

last_round : (g : Peers) (on : ℕ → Bool) (r : ℕ) → ((d : ℕ) → on d ≡ true → d < 63) → on 0 ≡ true → ((d : ℕ) → on d ≡ true → stays g r d ≡ true → ⊥) → Last g on
last_round g on zero within first none = absurd (none 0 first refl)
last_round g on (suc r) within first none = elim (some_below (λ d. stays g r d && on d) 63) [
  | inl w ↦ record { round = r; device = w.0; is_on = second_of (stays g r w.0) (on w.0) w.2; still = first_of (stays g r w.0) (on w.0) w.2; none = none }
  | inr shut ↦ last_round g on r within first (λ d i s. shut d (within d i) (both (stays g r d) (on d) s i))
]

-- a device of the bus that is root
pub record Root (g : Peers) (on : ℕ → Bool) : Type 0 where
  pub device : ℕ
  pub is_on : on device ≡ true
  pub is_root : IsRoot g device

-- at that round the device and its parent leave towards each other
tie_root : (g : Peers) (on : ℕ → Bool) (r : ℕ) → Ended g on r → Last g on → Root g on
tie_root g on r n l =
    let one = leaves g l.round l.device l.still (gone l.device l.is_on) in
    let w = one_of (stays g l.round) (slice_index_or g l.device []) one in
    let o = open_to (stays g l.round) (peer g l.device w.port) w.open_there in
    let on_other : on o.end.device ≡ true = bus_splits g on n.cables n.bus l.device w.port o.end o.is ∙ l.is_on in
    let back = n.cables.back l.device w.port o.end o.is in
    let other_one = leaves g l.round o.end.device o.member (gone o.end.device on_other) in
    let back_open = opened (stays g l.round) (peer g o.end.device o.end.port) (record { device = l.device; port = w.port }) back l.still in
    let a : LeavesBy g (stays g l.round) l.device w.port = record { still = l.still; one = one; parent = w.open_there } in
    let b : LeavesBy g (stays g l.round) o.end.device o.end.port = record { still = o.member; one = other_one; parent = back_open } in
    elim (cases_lt o.end.device l.device) [
      | inl less ↦ record { device = l.device; is_on = l.is_on; is_root = inr (l.round, (o.end.device, less, record { port = w.port; other = o.end.port; first = (a, o.is); second = (b, back) })) }
      | inr most ↦ record {
        device = o.end.device;
        is_on = on_other;
        is_root = inr (
          l.round,
          (
            l.device,
            (let differ = n.cables.apart l.device w.port o.end o.is in omega arith),
            record { port = o.end.port; other = w.port; first = (b, back); second = (a, o.is) },
          ),
        );
      }
    ]
  where
    gone : (d : ℕ) → on d ≡ true → stays g (suc l.round) d ≡ false
    gone d i = elim (truth (stays g (suc l.round) d)) [ inl s ↦ absurd (l.none d i s) | inr s ↦ s ]

pub some_root : (g : Peers) (on : ℕ → Bool) (r : ℕ) → Ended g on r → Root g on
some_root g on r n = elim (some_below (λ d. stays g r d && on d) 63) [
  | inl w ↦ record { device = w.0; is_on = second_of (stays g r w.0) (on w.0) w.2; is_root = inl (always g r w.0 n.range n.settled w.1 (first_of (stays g r w.0) (on w.0) w.2)) }
  | inr shut ↦ tie_root g on r n (last_round g on r n.within (n.bus.has 0 here) (λ d i s. shut d (n.within d i) (both (stays g r d) (on d) s i)))
]

-- a device leaves once
pub leaves_once : (g : Peers) (r t d : ℕ) → stays g r d ≡ true → open_count g (stays g r) d ≡ 1 → stays g t d ≡ true → open_count g (stays g t) d ≡ 1 → r ≡ t
leaves_once g r t d s one u other = elim (cases_lt r t) [
  | inl less ↦ absurd (let x = earlier g r t d less u in let y = goes g r d one in let z : ⊥ = cc in z)
  | inr most ↦ elim (cases_eq r t) [
    | inl same ↦ same
    | inr differ ↦ absurd (let x = earlier g t r d (omega arith) s in let y = goes g t d other in let z : ⊥ = cc in z)
  ]
]

pub root_no_parent : (g : Peers) (d port round : ℕ) → IsRoot g d → HasParent g d port round → ⊥
root_no_parent g d port round (inl s) h = let x = s (suc round) in let y = goes g round d h.leaves.one in cc
root_no_parent g d port round (inr w) h =
    let t = w.1.2.first.0 in
    let same : w.0 ≡ round = leaves_once g w.0 round d t.still t.one h.leaves.still h.leaves.one in
    let P : ℕ → Type 0 = λ r. WinsTie g (stays g r) d in
    h.below (subst P same w.1)

pub root_none : (g : Peers) (d : ℕ) (o : Option Parent) → IsRoot g d → IsParent g d o → o ≡ None
root_none g d None h w = refl
root_none g d (Some p) h w = absurd (root_no_parent g d p.port p.round h w.2)

pub none_root : (g : Peers) (d : ℕ) (o : Option Parent) → o ≡ None → IsParent g d o → IsRoot g d
none_root g d None e w = w
none_root g d (Some p) e w = absurd (let z : ⊥ = cc in z)

pub ended : (g : Peers) (on : List Bool) (r : ℕ) → InRange g → AreCables g → HasNoLoop g → IsOn g on → Settled g r → Ended g (is_seen on) r
ended g on r range cables none bus settled = record {
  range = range;
  cables = cables;
  none = none;
  bus = record { walk = bus.walk; has = bus.has };
  settled = settled;
  within = λ d h. walk_within g d range (bus.walk d h);
}
  where
    to_within : (g : Peers) (b c p : ℕ) → InRange g → LeadsTo (peer g b p) c → c < 63
    to_within g b c p range l = let k = led (peer g b p) c l in in_range g range b p (record { device = c; port = k.0 }) k.1

    walk_within : (g : Peers) (d : ℕ) → InRange g → Walk g 0 d → d < 63
    walk_within g d range here = omega arith
    walk_within g d range (along {b = b} w j) = to_within g b d j.port range j.leads
