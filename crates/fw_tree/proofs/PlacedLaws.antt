-- After the ports that a device has no cable is, so that none needs to be looked at; and cables lead both ways.
use Rattle.fw_tree.proofs.Common.{◌≡◌, inl, inr, ℕ, zero, suc, ◌+◌, ◌<◌, ◌≤◌, List, [], ◌∷◌, take, slice_index_or, Bool, Option, Some, None, IfSome, IsTrue, arith, refl, ap, sym, subst, ◌∙◌, cases_lt}
use Rattle.fw_tree.proofs.Common.{End, PhyFacts, Parent, Peers, peer, LeadsTo, Walk, here, along, is_seen, is_open, AreCables, Ports, facts_at}
use Rattle.std.proofs.Common.{cond}
use Rattle.std.specs.Prelude.{count_by}
use Rattle.std.proofs.lemmas.List.Sums.{sum_by-cons}
use Rattle.fw_tree.specs.Cables.{AreJoined, MarksPeers, AreMarked}
use Rattle.fw_tree.specs.Numbers.{IsChild}
use Rattle.fw_tree.specs.Topology.{ArePlaced, IsKept}
use Rattle.fw_tree.proofs.TopologyLaws.{ports_at, ports_none as no_ports}
use Rattle.fw_tree.proofs.TreeLaws.{ports_none}

-- the ports of the devices of a cabling
pub placed_of : (facts : List PhyFacts) (count : ℕ) (g : Peers) → IsKept facts count g → ArePlaced facts g
placed_of facts count g k d p e is = elim (cases_lt d count) [
  | inl low ↦ let at = ports_at facts count d low in let has = k.sound.placed d p e is in omega arith
  | inr high ↦ let none = no_ports facts count d high in let has = k.sound.placed d p e is in absurd (omega arith)
]

-- a device that has a cable is there
pub declared_of : (facts : List PhyFacts) (count : ℕ) (g : Peers) → IsKept facts count g → (d p : ℕ) (e : End) → peer g d p ≡ Some e → d < count
declared_of facts count g k d p e is = elim (cases_lt d count) [
  | inl low ↦ low
  | inr high ↦ let none = no_ports facts count d high in let has = k.sound.placed d p e is in absurd (omega arith)
]

-- the first ports say what all say
pub prefix_same : (row : List (Option End)) (n p : ℕ) → ((q : ℕ) → n ≤ q → slice_index_or row q None ≡ None) → slice_index_or (take n row) p None ≡ slice_index_or row p None
prefix_same [] zero p none = refl
prefix_same [] (suc n) p none = refl
prefix_same (x ∷ row) zero p none = sym (none p (omega arith))
prefix_same (x ∷ row) (suc n) zero none = refl
prefix_same (x ∷ row) (suc n) (suc p) none = prefix_same row n p (λ q h. none (suc q) (omega arith))

open_step : (stays : ℕ → Bool) (o : Option End) (row : List (Option End)) → count_by (is_open stays) (o ∷ row) ≡ cond (is_open stays o) 1 0 + count_by (is_open stays) row
open_step stays o row = sum_by-cons (λ x. cond (is_open stays x) 1 0) o row

pub none_open : (stays : ℕ → Bool) (row : List (Option End)) → ((p : ℕ) → slice_index_or row p None ≡ None) → count_by (is_open stays) row ≡ 0
none_open stays [] none = refl
none_open stays (x ∷ row) none = let e : x ≡ None = none 0 in
    open_step stays x row ∙ (ap (λ o. cond (is_open stays o) 1 0 + count_by (is_open stays) row) e ∙ omega (arith, none_open stays row (λ p. none (suc p))))

-- if two rows say the same of each port, as many of their cables are open
pub open_same : (stays : ℕ → Bool) (xs ys : List (Option End)) → ((p : ℕ) → slice_index_or xs p None ≡ slice_index_or ys p None) → count_by (is_open stays) xs ≡ count_by (is_open stays) ys
open_same stays [] ys same = sym (none_open stays ys (λ p. sym (same p)))
open_same stays (x ∷ xs) [] same = none_open stays (x ∷ xs) same
open_same stays (x ∷ xs) (y ∷ ys) same =
    open_step stays x xs
    ∙ ((λ i. cond (is_open stays (same 0 i)) 1 0 + open_same stays xs ys (λ p. same (suc p)) i)
    ∙ sym (open_step stays y ys))

-- a port that the device lacks has no cable
pub none_following : (facts : List PhyFacts) (g : Peers) (d p : ℕ) → ArePlaced facts g → (facts_at facts d).ports ≤ p → peer g d p ≡ None
none_following facts g d p placed following = go (peer g d p) refl
  where
    go : (o : Option End) → peer g d p ≡ o → peer g d p ≡ None
    go None is = is
    go (Some e) is = let low = placed d p e is in absurd (omega arith)

-- what stands at the ports that a device has is what stands at all
pub cables_same : (facts : List PhyFacts) (g : Peers) (d n : ℕ) → ArePlaced facts g → n ≡ (facts_at facts d).ports
    → (p : ℕ) → slice_index_or (take n (slice_index_or g d [])) p None ≡ peer g d p
cables_same facts g d n placed e p = prefix_same (slice_index_or g d []) n p (λ q h. none_following facts g d q placed (omega arith))

-- ---- marks

pub marks_same : (ports row : List (Option End)) (old new : List Bool) → ((p : ℕ) → slice_index_or ports p None ≡ slice_index_or row p None) → MarksPeers ports old new → MarksPeers row old new
marks_same ports row old new same m = record {
  keeps = m.keeps;
  from = λ d h. elim (m.from d h) [
    | inl o ↦ inl o
    | inr i ↦ inr (record { port = i.port; leads = let P : Option End → Type 0 = λ o. LeadsTo o d in subst P (same i.port) i.leads })
  ];
}

pub marked_same : (ports row : List (Option End)) (seen : List Bool) → ((p : ℕ) → slice_index_or ports p None ≡ slice_index_or row p None) → AreMarked ports seen → AreMarked row seen
marked_same ports row seen same m p = let P : Option End → Type 0 = λ o. IfSome o (λ e. IsTrue (is_seen seen e.device)) in subst P (same p) (m p)

-- ---- walks back

joined_back : (g : Peers) (a b : ℕ) → AreCables g → AreJoined g a b → AreJoined g b a
joined_back g a b cables j = go (peer g a j.port) refl j.leads
  where
    go : (o : Option End) → peer g a j.port ≡ o → LeadsTo o b → AreJoined g b a
    go None is leads = absurd leads
    go (Some e) is leads =
        let back : peer g b e.port ≡ Some (record { device = a; port = j.port }) =
        (let P : ℕ → Type 0 = λ d. peer g d e.port ≡ Some (record { device = a; port = j.port }) in subst P leads (cables.back a j.port e is)) in
        record { port = e.port; leads = let Q : Option End → Type 0 = λ o. LeadsTo o a in subst Q (sym back) refl }

further : (g : Peers) (a b c : ℕ) → AreJoined g a b → Walk g b c → Walk g a c
further g a b c j here = along here j
further g a b c j (along {b = e} w k) = along (further g a b e j w) k

pub walk_back : (g : Peers) (a b : ℕ) → AreCables g → Walk g a b → Walk g b a
walk_back g a b cables here = here
walk_back g a b cables (along {b = c} w j) = further g b c a (joined_back g c b cables j) (walk_back g a c cables w)

-- ---- children

-- from a port on at which no cable is, no branch hangs on a device
pub ports_all : (g : Peers) (par : List (Option Parent)) (root : ℕ) (on : ℕ → Bool) (paths : ℕ → List ℕ) (d p more : ℕ) (old now : List (Option ℕ))
    → ((q : ℕ) → p ≤ q → peer g d q ≡ None) → Ports g par root on paths d p old now → Ports g par root on paths d (p + more) old now
ports_all g par root on paths d p zero old now none h = let P : ℕ → Type 0 = λ n. Ports g par root on paths d n old now in let e : p ≡ p + 0 = omega arith in subst P e h
ports_all g par root on paths d p (suc more) old now none h =
    let P : ℕ → Type 0 = λ n. Ports g par root on paths d n old now in
    let e : p + more + 1 ≡ p + suc more = omega arith in
    subst P e (ports_none g par root on paths d (p + more) old now no_child (ports_all g par root on paths d p more old now none h))
  where
    no_child : (c : ℕ) → IsChild g par d (p + more) c → ⊥
    no_child c child = let empty = none (p + more) (omega arith) in let some = child.is in cc
