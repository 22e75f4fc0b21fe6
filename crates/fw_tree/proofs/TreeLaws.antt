-- What the walk over the tree has numbered.
use Rattle.fw_tree.proofs.Common.{replicate, ◌≡◌, inl, inr, ℕ, zero, suc, ◌<◌, ◌+◌, ◌&&◌, ◌||◌, List, [], ◌∷◌, length, Option, Some, None, Bool, true, false, slice_set, arith, refl, sym, ap, subst}
use Rattle.fw_tree.proofs.Common.{here}
use Rattle.fw_tree.proofs.Common.{◌∙◌, cases_eq, cases_lt, get_or_past, Parent, Peers, peer, Walk, InRange, is_seen, along, AreCables, HasNoLoop, IsOn, IsParent, Settled, parent_at, rank, counted}
use Rattle.fw_tree.proofs.Common.{number_at, is_there, has_number, AreNodes, Ports, PhyFacts, IsSound}
use Rattle.std.proofs.Common.{add-one}
use Rattle.fw_tree.specs.Parents.{IsTheRoot}
use Rattle.fw_tree.specs.Paths.{comes_before, is_left, is_prefix}
use Rattle.fw_tree.specs.Numbers.{LeadsDown, at_root, IsChild, AreNumbers, AreParents, IsParentPort, shown}
use Rattle.fw_tree.specs.Branch.{Tree, ArePaths, Done, Branch}
use Rattle.fw_tree.proofs.TopologyLaws.{ports_within}
use Rattle.fw_tree.proofs.ForestLaws.{both}
use Rattle.fw_tree.proofs.RoundLaws.{bus_splits, in_range, led}
use Rattle.fw_tree.proofs.RootLaws.{ended}
use Rattle.fw_tree.proofs.PathLaws.{one_path, one_device, later}
use Rattle.fw_tree.proofs.CountLaws.{counted_same, set_there, set_else, there, nodes_blank, nodes_set}
use Rattle.fw_tree.proofs.StepLaws.{irreflexive}
use Rattle.fw_tree.proofs.BranchLaws.{choose, has_some, child_path, no_child, left_or_prefix, prefix_self, done_first, done_child, done_none, done_last}

-- what is numbered once a device is, among which it is the last
abbrev Upto : List ℕ → List ℕ → Bool
Upto k v = is_left v k || is_prefix k v

upto_self : (k v : List ℕ) → v ≡ k → Upto k v ≡ true
upto_self k v e = rw e (or_true (is_left k k) (is_prefix k k) (prefix_self k))
  where
    or_true : (a b : Bool) → b ≡ true → (a || b) ≡ true
    or_true true b h = refl
    or_true false b h = h

has_of : (on : ℕ → Bool) (paths : ℕ → List ℕ) (d n : ℕ) (number : List (Option ℕ)) → on d ≡ true → d < length number → (v : ℕ) → has_number number v ≡ (on v && comes_before (paths v) (paths d))
    → (on v ≡ true → (v ≡ d → ⊥) → Upto (paths d) (paths v) ≡ comes_before (paths v) (paths d)) → has_number (slice_set number d (Some n)) v ≡ (on v && Upto (paths d) (paths v))
has_of on paths d n number i size v l upto = elim (cases_eq v d) [
  | inl same ↦ rw same (there (number_at (slice_set number d (Some n)) d) n (set_there number d n size) ∙ sym (both (on d) (Upto (paths d) (paths d)) i (upto_self (paths d) (paths d) refl)))
  | inr differ ↦ ap is_there (set_else number d n v differ) ∙ (l ∙ same (on v) (comes_before (paths v) (paths d)) (Upto (paths d) (paths v)) (λ j. sym (upto j differ)))
]
  where
    same : (a b c : Bool) → (a ≡ true → b ≡ c) → (a && b) ≡ (a && c)
    same true b c e = e refl
    same false b c e = refl

place_of : (on : ℕ → Bool) (paths : ℕ → List ℕ) (d n : ℕ) (number : List (Option ℕ)) → d < length number → n ≡ counted (λ e. on e && comes_before (paths e) (paths d)) 63 → (v : ℕ)
    → (comes_before (paths v) (paths d) ≡ true → number_at number v ≡ Some (counted (λ e. on e && comes_before (paths e) (paths v)) 63))
    → ((v ≡ d → ⊥) → Upto (paths d) (paths v) ≡ comes_before (paths v) (paths d)) → Upto (paths d) (paths v) ≡ true
    → number_at (slice_set number d (Some n)) v ≡ Some (counted (λ e. on e && comes_before (paths e) (paths v)) 63)
place_of on paths d n number size count v l upto t = elim (cases_eq v d) [
  | inl same ↦ rw same (set_there number d n size ∙ ap (λ m. Some m) count)
  | inr differ ↦ set_else number d n v differ ∙ l (sym (upto differ) ∙ t)
]

no_part : (a b : Bool) → b ≡ false → (a && b) ≡ false
no_part true b h = h
no_part false b h = refl

-- the device itself
pub done_number : (g : Peers) (root : ℕ) (on : ℕ → Bool) (paths : ℕ → List ℕ) (d n : ℕ) (number : List (Option ℕ)) → ArePaths g root on paths → on d ≡ true → d < length number → d < 63
    → Done on paths (λ v. comes_before (paths v) (paths d)) number → n ≡ counted (has_number number) 63
    → Done on paths (λ v. is_left (paths v) (paths d) || is_prefix (paths d) (paths v)) (slice_set number d (Some n))
done_number g root on paths d n number a i size low l e =
    let count : n ≡ counted (λ e. on e && comes_before (paths e) (paths d)) 63 = e ∙ counted_same (has_number number) (λ e. on e && comes_before (paths e) (paths d)) 63 (λ k h. l.has k) in
    record {
      has = λ v. has_of on paths d n number i size v (l.has v) (λ j differ. upto v j differ);
      place = λ v j t. place_of on paths d n number size count v (λ s. l.place v j s) (λ differ. upto v j differ) t;
      nodes = nodes_set number d n size low (l.has d ∙ no_part (on d) (comes_before (paths d) (paths d)) (irreflexive (paths d))) e l.nodes;
    }
  where
    upto : (v : ℕ) → on v ≡ true → (v ≡ d → ⊥) → Upto (paths d) (paths v) ≡ comes_before (paths v) (paths d)
    upto v j differ = left_or_prefix (paths v) (paths d) (λ s. differ (one_device g root (paths v) (paths d) v d (a.lead v j) (a.lead d i) s))

-- the loop over the ports
pub ports_first : (g : Peers) (par : List (Option Parent)) (root : ℕ) (on : ℕ → Bool) (paths : ℕ → List ℕ) (d : ℕ) (number : List (Option ℕ)) → Ports g par root on paths d 0 number number
ports_first g par root on paths d number t a i l = done_first on paths (paths d) number l

pub ports_child : (g : Peers) (par : List (Option Parent)) (root : ℕ) (on : ℕ → Bool) (paths : ℕ → List ℕ) (d p c : ℕ) (old now new : List (Option ℕ)) → IsChild g par d p c
    → Ports g par root on paths d p old now → Branch g par root on paths c now new → Ports g par root on paths d (p + 1) old new
ports_child g par root on paths d p c old now new h ports branch t a i l =
    let w = child_path g par root on paths d p c t a i h in
    let P : List ℕ → Type 0 = λ k. Done on paths (λ v. is_left (paths v) k) now in
    done_child on paths (paths d) (paths c) p new w.path (branch t a w.is_on (subst P (sym w.path) (ports t a i l)))

pub ports_none : (g : Peers) (par : List (Option Parent)) (root : ℕ) (on : ℕ → Bool) (paths : ℕ → List ℕ) (d p : ℕ) (old now : List (Option ℕ)) → ((c : ℕ) → IsChild g par d p c → ⊥)
    → Ports g par root on paths d p old now → Ports g par root on paths d (p + 1) old now
ports_none g par root on paths d p old now shut ports t a i l = done_none on paths (paths d) p now (no_child g par root on paths d p t a i shut) (ports t a i l)

pub branch_of : (g : Peers) (par : List (Option Parent)) (root : ℕ) (on : ℕ → Bool) (paths : ℕ → List ℕ) (d n : ℕ) (old now : List (Option ℕ)) → d < length now → n ≡ counted (has_number now) 63
    → Ports g par root on paths d 27 old now → Branch g par root on paths d old (slice_set now d (Some n))
branch_of g par root on paths d n old now size e ports t a i l =
    done_number g root on paths d n now a i size (t.within d i) (done_last g root on paths (paths d) now t.range t.cables a (ports t a i l)) e

-- a device that has a number is none whose branch is numbered
pub branch_none : (g : Peers) (par : List (Option Parent)) (root : ℕ) (on : ℕ → Bool) (paths : ℕ → List ℕ) (d : ℕ) (old now : List (Option ℕ)) → has_number now d ≡ true
    → Ports g par root on paths d 27 old now → Branch g par root on paths d old now
branch_none g par root on paths d old now has ports t a i l =
    let before = done_last g root on paths (paths d) now t.range t.cables a (ports t a i l) in
    let none = before.has d ∙ no_part (on d) (comes_before (paths d) (paths d)) (irreflexive (paths d)) in
    absurd (let z : ⊥ = cc in z)

-- a child leaves before its parent
pub child_lower : (g : Peers) (par : List (Option Parent)) (d p c : ℕ) → AreCables g → ((k : ℕ) → k < 63 → IsParent g k (parent_at par k)) → d < 63 → c < 63 → IsChild g par d p c
    → rank (parent_at par c) < rank (parent_at par d)
child_lower g par d p c cables parents low also h =
    let w = has_some g c (parent_at par c) h.parent h.noted (parents c also) in
    let at : peer g d p ≡ Some (record { device = c; port = h.end.port }) = let Q : ℕ → Type 0 = λ n. peer g d p ≡ Some (record { device = n; port = h.end.port }) in subst Q h.device h.is in
    let back : peer g c h.parent.port ≡ Some (record { device = d; port = p }) = rw h.port (cables.back d p (record { device = c; port = h.end.port }) at) in
    rw h.noted (later g c h.parent.port h.parent.round (record { device = d; port = p }) (parent_at par d) cables w (round_low g c (parent_at par c) h.parent h.noted (parents c also)) back
    (parents d low))
  where
    round_low : (g : Peers) (c : ℕ) (o : Option Parent) (p : Parent) → o ≡ Some p → IsParent g c o → p.round < 63
    round_low g c None p e w = absurd (let z : ⊥ = cc in z)
    round_low g c (Some q) p e w = let k : q ≡ p = cc in rw (← k) w.0

-- a device that leaves in the first round has no child
pub childless : (g : Peers) (par : List (Option Parent)) (d : ℕ) → InRange g → AreCables g → ((k : ℕ) → k < 63 → IsParent g k (parent_at par k)) → d < 63 → rank (parent_at par d) ≡ 0
    → (p c : ℕ) → IsChild g par d p c → ⊥
childless g par d range cables parents low first p c h =
    let far : h.end.device < 63 = in_range g range d p h.end h.is in
    let falls = child_lower g par d p c cables parents low (omega (arith, far, h.device)) h in
    omega (arith, falls, first)

pub ports_childless : (g : Peers) (par : List (Option Parent)) (root : ℕ) (on : ℕ → Bool) (paths : ℕ → List ℕ) (d n : ℕ) (number : List (Option ℕ)) → ((p c : ℕ) → IsChild g par d p c → ⊥)
    → Ports g par root on paths d n number number
ports_childless g par root on paths d zero number none = ports_first g par root on paths d number
ports_childless g par root on paths d (suc n) number none =
    let P : ℕ → Type 0 = λ k. Ports g par root on paths d k number number in
    subst P (add-one n) (ports_none g par root on paths d n number number (none n) (ports_childless g par root on paths d n number none))

pub tree_of : (g : Peers) (par : List (Option Parent)) (root r : ℕ) (on : List Bool) → InRange g → AreCables g → HasNoLoop g → IsOn g on → Settled g r
    → ((k : ℕ) → k < 63 → IsParent g k (parent_at par k)) → IsTheRoot g root → Tree g par root (is_seen on)
tree_of g par root r on range cables none bus settled parents top =
    let n = ended g on r range cables none bus settled in
    record {
      range = range;
      cables = cables;
      parents = parents;
      splits = bus_splits g (is_seen on) cables n.bus;
      within = n.within;
      top = top.is_root;
      alone = λ d i h. top.alone d (bus.walk d i) h;
    }

no_left : (v k : List ℕ) → k ≡ [] → is_left v k ≡ false
no_left [] k e = refl
no_left (x ∷ v) k e = rw e refl

all_upto : (v k : List ℕ) → k ≡ [] → Upto k v ≡ true
all_upto [] k e = rw e refl
all_upto (x ∷ v) k e = rw e refl

all_done : (a b : Bool) → b ≡ true → (a && b) ≡ a
all_done true b h = h
all_done false b h = refl

is_shown : (b : Bool) (o : Option Parent) (p : ℕ) → shown b o ≡ Some p → b ≡ true
is_shown true o p h = refl
is_shown false o p h = cc

parent_port : (g : Peers) (d : ℕ) (o : Option Parent) → IsParent g d o → IsParentPort g d (shown true o)
parent_port g d None w = w
parent_port g d (Some p) w = (p.round, w.2)

-- what the walk from the root has numbered
pub record Numbered (g : Peers) (root : ℕ) (number : List (Option ℕ)) : Type 0 where
  pub numbers : AreNumbers g root number
  pub nodes : AreNodes number (counted (has_number number) 63)

pub numbers_of : (g : Peers) (par : List (Option Parent)) (root : ℕ) (on : List Bool) (old now : List (Option ℕ)) → Tree g par root (is_seen on) → IsOn g on → Walk g 0 root
    → ((d : ℕ) → number_at old d ≡ None) → ((paths : ℕ → List ℕ) → Branch g par root (is_seen on) paths root old now) → Numbered g root now
numbers_of g par root on old now t bus top blank branch = given (λ d. (choose g par root (is_seen on) t d).0) (λ d h. (choose g par root (is_seen on) t d).1 h)
  where
    given : (paths : ℕ → List ℕ) → ((d : ℕ) → is_seen on d ≡ true → LeadsDown g root (paths d) d) → Numbered g root now
    given paths lead =
        let a : ArePaths g root (is_seen on) paths = record { lead = lead } in
        let on_root : is_seen on root ≡ true = bus.has root top in
        let empty : paths root ≡ [] = one_path g root (paths root) [] root root t.cables t.top (lead root on_root) at_root refl in
        let start : Done (is_seen on) paths (λ v. is_left (paths v) (paths root)) old = record {
          has = λ v. ap is_there (blank v) ∙ sym (no_part (is_seen on v) (is_left (paths v) (paths root)) (no_left (paths v) (paths root) empty));
          place = λ v i s. absurd (let e = no_left (paths v) (paths root) empty in let z : ⊥ = cc in z);
          nodes = nodes_blank old blank;
        } in
        let end : Done (is_seen on) paths (λ v. is_left (paths v) (paths root) || is_prefix (paths root) (paths v)) now = branch paths t a on_root start in
        let all : (v : ℕ) → has_number now v ≡ is_seen on v = λ v. end.has v ∙ all_done (is_seen on v) (Upto (paths root) (paths v)) (all_upto (paths v) (paths root) empty) in
        record {
          numbers = record {
            paths = paths;
            lead = λ d w. lead d (bus.has d w);
            places = λ d w. end.place d (bus.has d w) (all_upto (paths d) (paths root) empty)
                ∙ ap (λ n. Some n) (counted_same (λ e. is_seen on e && comes_before (paths e) (paths d)) (λ e. has_number now e && comes_before (paths e) (paths d)) 63
                (λ k l. ap (λ b. b && comes_before (paths k) (paths d)) (sym (all k))));
            only = λ d h. bus.walk d (sym (all d) ∙ h);
          };
          nodes = end.nodes;
        }

pub parents_of : (g : Peers) (par : List (Option Parent)) (on : List Bool) (ports : List (Option ℕ)) → IsOn g on → ((d : ℕ) → is_seen on d ≡ true → d < 63)
    → ((k : ℕ) → k < 63 → IsParent g k (parent_at par k)) → ((d : ℕ) → d < 63 → number_at ports d ≡ shown (is_seen on d) (parent_at par d)) → length ports ≡ 63 → AreParents g ports
parents_of g par on ports bus within parents is size = record {
  on = λ d w.
      let i = bus.has d w in
      let low = within d i in
      let P : Option ℕ → Type 0 = IsParentPort g d in
      subst P (sym (is d low ∙ ap (λ b. shown b (parent_at par d)) i)) (parent_port g d (parent_at par d) (parents d low));
  only = λ d p h. elim (cases_lt d 63) [
    | inl low ↦ bus.walk d (is_shown (is_seen on d) (parent_at par d) p (sym (is d low) ∙ h))
    | inr high ↦ absurd (let e = get_or_past ports d None (omega (arith, size)) in let z : ⊥ = cc in z)
  ];
}

blank_from : (n d : ℕ) → number_at (replicate n None) d ≡ None
blank_from zero d = refl
blank_from (suc n) zero = refl
blank_from (suc n) (suc d) = blank_from n d

pub blank_number : (d : ℕ) → number_at (replicate 63 None) d ≡ None
blank_number d = blank_from 63 d

-- a device of the bus is a device of the cabling
on_declared : (fs : List PhyFacts) (g : Peers) → IsSound (record { devices = fs; cables = g }) → 0 < length fs → (d : ℕ) → Walk g 0 d → d < length fs
on_declared fs g s some d here = some
on_declared fs g s some d (along {b = b} w j) =
    let k = led (peer g b j.port) d j.leads in
    let back = s.cables.back b j.port (record { device = d; port = k.0 }) k.1 in
    (ports_within fs d k.0 s.devices (s.placed d k.0 (record { device = b; port = j.port }) back)).0

pub placed_of : (fs : List PhyFacts) (g : Peers) (root : ℕ) (number : List (Option ℕ)) → IsSound (record { devices = fs; cables = g }) → 0 < length fs → AreNumbers g root number → (d : ℕ)
    → has_number number d ≡ true → d < length fs
placed_of fs g root number s some numbers d h = on_declared fs g s some d (numbers.only d h)
