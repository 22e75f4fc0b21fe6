-- Each device of the bus has one path, and each path one device.
use Rattle.fw_tree.proofs.Common.{◌≡◌, ◌⊎◌, inl, inr, ℕ, ◌<◌, ◌==◌, ◌&&◌, List, [], ◌∷◌, ◌++◌, Option, Some, None, true, arith, refl, sym, ap, subst, ◌∙◌, cases_eq, cases_lt, nat_tests, End, Parent}
use Rattle.fw_tree.proofs.Common.{Peers, peer, stays, HasParent, AreCables, IsParent, rank}
use Rattle.fw_tree.specs.Rounds.{IsRoot}
use Rattle.fw_tree.specs.Paths.{is_prefix}
use Rattle.fw_tree.specs.Numbers.{LeadsDown, at_root, down_to}
use Rattle.fw_tree.proofs.ForestLaws.{both, first_of, second_of, open_to}
use Rattle.fw_tree.proofs.OpenPortLaws.{same_port, same_end}
use Rattle.fw_tree.proofs.RoundLaws.{earlier, goes}
use Rattle.fw_tree.proofs.RootLaws.{leaves_once, root_no_parent}
use Rattle.fw_tree.proofs.TieLaws.{wins_tie}

-- a device has one parent
pub one_parent : (g : Peers) (d p q r t : ℕ) → HasParent g d p r → HasParent g d q t → p ≡ q
one_parent g d p q r t a b =
    let same : t ≡ r = leaves_once g t r d b.leaves.still b.leaves.one a.leaves.still a.leaves.one in
    let P : ℕ → Type 0 = HasParent g d q in
    let c : HasParent g d q r = subst P same b in
    same_port g (stays g r) d p q a.leaves.one a.leaves.parent c.leaves.parent

pub snoc_same : (k j : List ℕ) (p q : ℕ) → k ++ p ∷ [] ≡ j ++ q ∷ [] → (k ≡ j) × (p ≡ q)
snoc_same [] [] p q e = (refl, cc)
snoc_same [] (y ∷ []) p q e = absurd (let z : ⊥ = cc in z)
snoc_same [] (y ∷ z ∷ j) p q e = absurd (let z : ⊥ = cc in z)
snoc_same (x ∷ []) [] p q e = absurd (let z : ⊥ = cc in z)
snoc_same (x ∷ z ∷ k) [] p q e = absurd (let z : ⊥ = cc in z)
snoc_same (x ∷ k) (y ∷ j) p q e =
    let head : x ≡ y = cc in
    let tail : k ++ p ∷ [] ≡ j ++ q ∷ [] = cc in
    let w = snoc_same k j p q tail in
    (let t = w.0 in cc, w.1)

not_empty : (k : List ℕ) (p : ℕ) → [] ≡ k ++ p ∷ [] → ⊥
not_empty [] p e = cc
not_empty (x ∷ k) p e = cc

-- the other end, in both directions
port_of : Option End → ℕ
port_of None = 0
port_of (Some e) = e.port

same_other : (o : Option End) (e f : End) → o ≡ Some e → o ≡ Some f → e.port ≡ f.port
unfolding port_of
same_other o e f h k = ap port_of (sym h ∙ k)

pub one_path : (g : Peers) (root : ℕ) (v w : List ℕ) (d e : ℕ) → AreCables g → IsRoot g root → LeadsDown g root v d → LeadsDown g root w e → d ≡ e → v ≡ w
one_path g root v w d e cables top at_root at_root same = refl
one_path g root v w d e cables top at_root (down_to u p q r is h split) same = absurd (root_no_parent g root q r top (rw same h))
one_path g root v w d e cables top (down_to u p q r is h split) at_root same = absurd (root_no_parent g root q r top (rw (← same) h))
one_path g root v w d e cables top (down_to {k = k} {d = a} u p q r is h split) (down_to {k = j} {d = b} x m n t at i apart) same =
    let P : ℕ → Type 0 = λ y. HasParent g y n t in
    let port : q ≡ n = one_parent g d q n r t h (subst P (sym same) i) in
    let there = cables.back a p (record { device = d; port = q }) is in
    let other : peer g d q ≡ Some (record { device = b; port = m }) = rw (same, port) (cables.back b m (record { device = e; port = n }) at) in
    let device : a ≡ b = same_end (peer g d q) (record { device = a; port = p }) (record { device = b; port = m }) there other in
    let way : p ≡ m = same_other (peer g d q) (record { device = a; port = p }) (record { device = b; port = m }) there other in
    let rest : k ≡ j = one_path g root k j a b cables top u x device in
    cc

pub one_device : (g : Peers) (root : ℕ) (v w : List ℕ) (d e : ℕ) → LeadsDown g root v d → LeadsDown g root w e → v ≡ w → d ≡ e
one_device g root v w d e at_root at_root same = refl
one_device g root v w d e at_root (down_to {k = k} u p q r is h split) same = absurd (not_empty k p (same ∙ split))
one_device g root v w d e (down_to {k = k} u p q r is h split) at_root same = absurd (not_empty k p (sym same ∙ split))
one_device g root v w d e (down_to {k = k} {d = a} u p q r is h split) (down_to {k = j} {d = b} x m n t at i apart) same =
    let s = snoc_same k j p m (sym split ∙ (same ∙ apart)) in
    let device : a ≡ b = one_device g root k j a b u x s.0 in
    let here_too : peer g a p ≡ Some (record { device = e; port = n }) = rw (device, s.1) at in
    same_end (peer g a p) (record { device = d; port = q }) (record { device = e; port = n }) is here_too

-- a prefix of a path leads to a device
prefix_snoc : (y k : List ℕ) (p : ℕ) → is_prefix y (k ++ p ∷ []) ≡ true → (is_prefix y k ≡ true) ⊎ (y ≡ k ++ p ∷ [])
prefix_snoc [] k p h = inl refl
prefix_snoc (y ∷ []) [] p h = inr (let e : y ≡ p = grind (arith, nat_tests) in cc)
prefix_snoc (y ∷ z ∷ ys) [] p h = absurd (let e : ⊥ = grind (arith, nat_tests) in e)
prefix_snoc (y ∷ ys) (x ∷ k) p h = step y x ys k p (prefix_snoc ys k p) h
  where
    eq : (y x : ℕ) → (y == x) ≡ true → y ≡ x
    eq y x h = grind (arith, nat_tests)

    step : (y x : ℕ) (ys k : List ℕ) (p : ℕ) → (is_prefix ys (k ++ p ∷ []) ≡ true → (is_prefix ys k ≡ true) ⊎ (ys ≡ k ++ p ∷ [])) → ((y == x) && is_prefix ys (k ++ p ∷ [])) ≡ true
        → (((y == x) && is_prefix ys k) ≡ true) ⊎ (y ∷ ys ≡ x ∷ (k ++ p ∷ []))
    step y x ys k p f h =
        let a = first_of (y == x) (is_prefix ys (k ++ p ∷ [])) h in
        let same : y ≡ x = eq y x a in
        elim (f (second_of (y == x) (is_prefix ys (k ++ p ∷ [])) h)) [ inl u ↦ inl (both (y == x) (is_prefix ys k) a u) | inr e ↦ inr (cc) ]

pub prefix_device : (g : Peers) (root : ℕ) (v y : List ℕ) (d : ℕ) → LeadsDown g root v d → is_prefix y v ≡ true → (c : ℕ) × LeadsDown g root y c
prefix_device g root v [] d at_root h = (root, at_root)
prefix_device g root v (x ∷ y) d at_root h = absurd (let e : ⊥ = cc in e)
prefix_device g root v y d (down_to {k = k} u p q r is l split) h = elim (prefix_snoc y k p (rw split at h)) [
  | inl f ↦ prefix_device g root k y _ u f
  | inr same ↦ (d, down_to u p q r is l same)
]

-- a parent leaves later than its child
pub later : (g : Peers) (d q r : ℕ) (e : End) (o : Option Parent) → AreCables g → HasParent g d q r → r < 63 → peer g d q ≡ Some e → IsParent g e.device o → r < rank o
later g d q r e None cables h low is w = low
later g d q r e (Some p) cables h low is w =
    let t = open_to (stays g r) (peer g d q) h.leaves.parent in
    let same : t.end.device ≡ e.device = same_end (peer g d q) t.end e t.is is in
    let member : stays g r e.device ≡ true = rw same at t.member in
    let l = w.2.leaves in
    elim (cases_lt r p.round) [
      | inl less ↦ less
      | inr most ↦ absurd (elim (cases_eq p.round r) [
        | inr differ ↦ let x = earlier g p.round r e.device (omega arith) member in let y = goes g p.round e.device l.one in let z : ⊥ = cc in z
        | inl tie ↦ both_leave g d q r e p.port cables h is member (let P : ℕ → Type 0 = HasParent g e.device p.port in subst P tie w.2)
      ])
    ]
  where
    both_leave : (g : Peers) (d q r : ℕ) (e : End) (port : ℕ) → AreCables g → HasParent g d q r → peer g d q ≡ Some e → stays g r e.device ≡ true → HasParent g e.device port r → ⊥
    both_leave g d q r e port cables h is member i =
        let back = cables.back d q e is in
        elim (cases_lt e.device d) [
          | inl less ↦ h.below (wins_tie g (stays g r) d q e cables h.leaves.still h.leaves.one is member i.leaves.one less)
          | inr most ↦ i.below (wins_tie g (stays g r) e.device e.port (record { device = d; port = q }) cables member i.leaves.one back h.leaves.still h.leaves.one
              (let differ = cables.apart d q e is in omega arith))
        ]
