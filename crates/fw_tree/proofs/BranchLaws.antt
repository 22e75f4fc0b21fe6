-- The paths to the devices of a branch, port by port.
use Rattle.fw_tree.proofs.Common.{◌≡◌, inl, inr, ℕ, zero, suc, ◌<◌, ◌≤◌, ◌+◌, ◌==◌, ◌&&◌, ◌||◌, nat_lt, List, [], ◌∷◌, ◌++◌, length, Option, Some, None, Bool, true, false, slice_index_or}
use Rattle.fw_tree.proofs.Common.{if◌then◌else◌, arith, refl, sym, subst, ◌∙◌, nat_tests, End, Parent, Peers, peer, InRange, stays, HasParent, AreCables, IsParent, parent_at, rank}
use Rattle.fw_tree.specs.Paths.{comes_before, is_left, is_prefix}
use Rattle.fw_tree.specs.Numbers.{LeadsDown, at_root, down_to, IsChild}
use Rattle.fw_tree.specs.Branch.{Tree, ArePaths, Done}
use Rattle.fw_tree.proofs.ForestLaws.{truth, open_to}
use Rattle.fw_tree.proofs.RoundLaws.{in_range}
use Rattle.fw_tree.proofs.RootLaws.{root_no_parent}
use Rattle.fw_tree.proofs.PathLaws.{one_parent, one_path, one_device, snoc_same, prefix_device, later}
use Rattle.fw_tree.proofs.StepLaws.{PortsBelow, down, next, last}

further : (g : Peers) (root : ℕ) (d p r : ℕ) (e : End) (w : (v : List ℕ) × LeadsDown g root v e.device) → peer g e.device e.port ≡ Some (record { device = d; port = p }) → HasParent g d p r
    → (v : List ℕ) × LeadsDown g root v d
further g root d p r e w back h = (w.0 ++ e.port ∷ [], down_to {k = w.0} w.1 e.port p r back h refl)

path_to : (g : Peers) (par : List (Option Parent)) (root : ℕ) (on : ℕ → Bool) → Tree g par root on → (n d : ℕ) (o : Option Parent) → on d ≡ true → IsParent g d o → 63 ≤ n + rank o → (v : List ℕ)
    × LeadsDown g root v d
path_to g par root on t n d None i w h = let P : ℕ → Type 0 = LeadsDown g root [] in ([], subst P (sym (t.alone d i w)) at_root)
path_to g par root on t zero d (Some p) i w h = absurd (let low = w.0 in omega arith)
path_to g par root on t (suc n) d (Some p) i w h =
    let o = open_to (stays g p.round) (peer g d p.port) w.2.leaves.parent in
    let e = o.end in
    let on_e : on e.device ≡ true = t.splits d p.port e o.is ∙ i in
    let up = t.parents e.device (t.within e.device on_e) in
    let less = later g d p.port p.round e (parent_at par e.device) t.cables w.2 w.0 o.is up in
    further g root d p.port p.round e (path_to g par root on t n e.device (parent_at par e.device) on_e up (omega arith)) (t.cables.back d p.port e o.is) w.2

pub choose : (g : Peers) (par : List (Option Parent)) (root : ℕ) (on : ℕ → Bool) → Tree g par root on → (d : ℕ) → (v : List ℕ) × (on d ≡ true → LeadsDown g root v d)
choose g par root on t d = elim (truth (on d)) [
  | inl i ↦ let k = path_to g par root on t 63 d (parent_at par d) i (t.parents d (t.within d i)) (omega arith) in (k.0, λ h. k.1)
  | inr off ↦ ([], λ h. absurd (let z : ⊥ = cc in z))
]

-- a child's path goes on from its parent's
pub record OnPath (on : ℕ → Bool) (paths : ℕ → List ℕ) (d p c : ℕ) : Type 0 where
  pub is_on : on c ≡ true
  pub path : paths c ≡ paths d ++ p ∷ []

pub has_some : (g : Peers) (c : ℕ) (o : Option Parent) (p : Parent) → o ≡ Some p → IsParent g c o → HasParent g c p.port p.round
has_some g c None p e w = absurd (let z : ⊥ = cc in z)
has_some g c (Some q) p e w = let k : q ≡ p = cc in rw (← k) w.2

pub child_path : (g : Peers) (par : List (Option Parent)) (root : ℕ) (on : ℕ → Bool) (paths : ℕ → List ℕ) (d p c : ℕ) → Tree g par root on → ArePaths g root on paths → on d ≡ true
    → IsChild g par d p c → OnPath on paths d p c
child_path g par root on paths d p c t a i h =
    let on_c : on c ≡ true = rw (← h.device) (t.splits d p h.end h.is ∙ i) in
    let w = has_some g c (parent_at par c) h.parent h.noted (t.parents c (t.within c on_c)) in
    let P : ℕ → Type 0 = λ n. HasParent g c n h.parent.round in
    let at : peer g d p ≡ Some (record { device = c; port = h.end.port }) = let Q : ℕ → Type 0 = λ n. peer g d p ≡ Some (record { device = n; port = h.end.port }) in subst Q h.device h.is in
    record { is_on = on_c; path = one_path g root (paths c) (paths d ++ p ∷ []) c c t.cables t.top (a.lead c on_c) (down_to (a.lead d i) p h.end.port h.parent.round at (subst P h.port w) refl) refl }

-- if a device has no child at a port, no path goes on there
no_way : (g : Peers) (par : List (Option Parent)) (root : ℕ) (on : ℕ → Bool) (d p : ℕ) (k v : List ℕ) (c : ℕ) → Tree g par root on → LeadsDown g root k d → LeadsDown g root v c → v ≡ k ++ p ∷ []
    → ((e : ℕ) → IsChild g par d p e → ⊥) → ⊥
no_way g par root on d p [] v c t l at_root split shut = cc
no_way g par root on d p (x ∷ k) v c t l at_root split shut = cc
no_way g par root on d p k v c t l (down_to {k = j} {d = b} u m q r is h apart) split shut =
    let s = snoc_same k j p m (sym split ∙ apart) in
    let device : d ≡ b = one_device g root k j d b l u s.0 in
    let at : peer g d p ≡ Some (record { device = c; port = q }) = rw (device, s.1) is in
    of_parent g par d p q r c at h (parent_at par c) refl (t.parents c (in_range g t.range d p (record { device = c; port = q }) at)) shut
  where
    of_parent : (g : Peers) (par : List (Option Parent)) (d p q r c : ℕ) → peer g d p ≡ Some (record { device = c; port = q }) → HasParent g c q r → (o : Option Parent) → parent_at par c ≡ o
        → IsParent g c o → ((e : ℕ) → IsChild g par d p e → ⊥) → ⊥
    of_parent g par d p q r c at h None e w shut = root_no_parent g c q r w h
    of_parent g par d p q r c at h (Some m) e w shut = shut c (record {
      end = record { device = c; port = q };
      parent = m;
      is = at;
      device = refl;
      noted = e;
      port = one_parent g c m.port q m.round r w.2 h;
    })

pub no_child : (g : Peers) (par : List (Option Parent)) (root : ℕ) (on : ℕ → Bool) (paths : ℕ → List ℕ) (d p : ℕ) → Tree g par root on → ArePaths g root on paths → on d ≡ true
    → ((e : ℕ) → IsChild g par d p e → ⊥) → (v : ℕ) → on v ≡ true → is_prefix (paths d ++ p ∷ []) (paths v) ≡ false
no_child g par root on paths d p t a i shut v j = elim (truth (is_prefix (paths d ++ p ∷ []) (paths v))) [
  | inl prefix ↦ let w = prefix_device g root (paths v) (paths d ++ p ∷ []) v (a.lead v j) prefix in absurd (no_way g par root on d p (paths d) (paths d ++ p ∷ []) w.0 t (a.lead d i) w.1 refl shut)
  | inr off ↦ off
]

-- ports are below 27
pub port_within : (ports : List (Option End)) (p : ℕ) (e : End) → slice_index_or ports p None ≡ Some e → p < length ports
port_within [] p e h = absurd (let z : ⊥ = cc in z)
port_within (o ∷ ports) zero e h = omega arith
port_within (o ∷ ports) (suc p) e h = omega (arith, port_within ports p e h)

low_snoc : (k : List ℕ) (p : ℕ) → PortsBelow 27 k → p < 27 → PortsBelow 27 (k ++ p ∷ [])
low_snoc [] p h l = (l, tt)
low_snoc (x ∷ k) p h l = (h.0, low_snoc k p h.1 l)

pub low_ports : (g : Peers) (root : ℕ) (v : List ℕ) (d : ℕ) → InRange g → AreCables g → LeadsDown g root v d → PortsBelow 27 v
low_ports g root [] d range cables at_root = tt
low_ports g root v d range cables (down_to {k = k} {d = b} u p q r is h split) =
    let row : b < 63 = in_range g range d q (record { device = b; port = p }) (cables.back b p (record { device = d; port = q }) is) in
    let low = port_within (slice_index_or g b []) p (record { device = d; port = q }) is in
    rw split (low_snoc k p (low_ports g root k b range cables u) (let e = range.ports b row in omega arith))

pub done_same : (on : ℕ → Bool) (paths : ℕ → List ℕ) (f h : ℕ → Bool) (number : List (Option ℕ)) → ((v : ℕ) → on v ≡ true → f v ≡ h v) → Done on paths f number → Done on paths h number
done_same on paths f h number e l = record {
  has = λ v. l.has v ∙ same (on v) (f v) (h v) (e v);
  place = λ v i t. l.place v i (e v i ∙ t);
  nodes = l.nodes;
}
  where
    same : (a b c : Bool) → (a ≡ true → b ≡ c) → (a && b) ≡ (a && c)
    same true b c e = e refl
    same false b c e = refl

pub left_or_prefix : (v k : List ℕ) → (v ≡ k → ⊥) → (is_left v k || is_prefix k v) ≡ comes_before v k
left_or_prefix [] [] differ = absurd (differ refl)
left_or_prefix [] (y ∷ k) differ = refl
left_or_prefix (x ∷ v) [] differ = refl
left_or_prefix (x ∷ v) (y ∷ k) differ = step x y (is_left v k) (is_prefix k v) (comes_before v k) (λ e. left_or_prefix v k (λ s. differ (cc)))
  where
    step : (x y : ℕ) (a b c : Bool) → (x ≡ y → (a || b) ≡ c) → ((if x == y then a else nat_lt x y) || ((y == x) && b)) ≡ (if x == y then c else nat_lt x y)
    step x y a b c e = grind (arith, nat_tests)

pub prefix_self : (k : List ℕ) → is_prefix k k ≡ true
prefix_self [] = refl
prefix_self (x ∷ k) = let e = prefix_self k in grind (arith, nat_tests)

-- the loop over the ports of a device, at its first port, at the next ones, and after the last
pub done_first : (on : ℕ → Bool) (paths : ℕ → List ℕ) (k : List ℕ) (number : List (Option ℕ)) → Done on paths (λ v. is_left (paths v) k) number
    → Done on paths (λ v. is_left (paths v) (k ++ 0 ∷ [])) number
done_first on paths k number l = done_same on paths (λ v. is_left (paths v) k) (λ v. is_left (paths v) (k ++ 0 ∷ [])) number (λ v i. sym (down (paths v) k)) l

pub done_child : (on : ℕ → Bool) (paths : ℕ → List ℕ) (k c : List ℕ) (p : ℕ) (number : List (Option ℕ)) → c ≡ k ++ p ∷ [] → Done on paths (λ v. is_left (paths v) c || is_prefix c (paths v)) number
    → Done on paths (λ v. is_left (paths v) (k ++ (p + 1) ∷ [])) number
done_child on paths k c p number e l = done_same on paths (λ v. is_left (paths v) c || is_prefix c (paths v)) (λ v. is_left (paths v) (k ++ (p + 1) ∷ [])) number
    (λ v i. rw e (sym (next (paths v) k p))) l

pub done_none : (on : ℕ → Bool) (paths : ℕ → List ℕ) (k : List ℕ) (p : ℕ) (number : List (Option ℕ)) → ((v : ℕ) → on v ≡ true → is_prefix (k ++ p ∷ []) (paths v) ≡ false)
    → Done on paths (λ v. is_left (paths v) (k ++ p ∷ [])) number → Done on paths (λ v. is_left (paths v) (k ++ (p + 1) ∷ [])) number
done_none on paths k p number shut l = done_same on paths (λ v. is_left (paths v) (k ++ p ∷ [])) (λ v. is_left (paths v) (k ++ (p + 1) ∷ [])) number
    (λ v i. or_not (is_left (paths v) (k ++ p ∷ [])) (is_prefix (k ++ p ∷ []) (paths v)) (shut v i) ∙ sym (next (paths v) k p)) l
  where
    or_not : (a b : Bool) → b ≡ false → a ≡ (a || b)
    or_not true b e = refl
    or_not false b e = sym e

pub done_last : (g : Peers) (root : ℕ) (on : ℕ → Bool) (paths : ℕ → List ℕ) (k : List ℕ) (number : List (Option ℕ)) → InRange g → AreCables g → ArePaths g root on paths
    → Done on paths (λ v. is_left (paths v) (k ++ 27 ∷ [])) number → Done on paths (λ v. comes_before (paths v) k) number
done_last g root on paths k number range cables a l = done_same on paths (λ v. is_left (paths v) (k ++ 27 ∷ [])) (λ v. comes_before (paths v) k) number
    (λ v i. last (paths v) k 27 (low_ports g root (paths v) v range cables (a.lead v i))) l
