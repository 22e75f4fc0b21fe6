-- A topology has one numbering.
use Rattle.fw_tree.proofs.Common.{◌≡◌, inl, inr, ℕ, ◌&&◌, List, Option, Some, None, Bool, true, false, refl, sym, ap, subst, ◌∙◌, Peers, IsOnBus, is_seen, AreCables, IsOn, number_at, has_number}
use Rattle.fw_tree.proofs.Common.{is_there, Topology, IsSound}
use Rattle.fw_tree.specs.declared.numbering.Numbering.{Numbering}
use Rattle.fw_tree.specs.Rounds.{IsRoot}
use Rattle.fw_tree.specs.Paths.{comes_before}
use Rattle.fw_tree.specs.Numbers.{AreNumbers, AreParents, IsParentPort}
use Rattle.fw_tree.specs.Numbering.{IsNumbering, IsSame}
use Rattle.fw_tree.proofs.ForestLaws.{truth}
use Rattle.fw_tree.proofs.RootLaws.{root_no_parent}
use Rattle.fw_tree.proofs.PathLaws.{one_parent, one_path}
use Rattle.fw_tree.proofs.CountLaws.{counted_same, there}

none_there : (o : Option ℕ) → is_there o ≡ false → o ≡ None
none_there None h = refl
none_there (Some n) h = cc

alike : (x y : Bool) → (x ≡ true → y ≡ true) → (y ≡ true → x ≡ true) → x ≡ y
alike true y f h = sym (f refl)
alike false true f h = h refl
alike false false f h = refl

-- the devices of the bus have numbers in the one as in the other
same_has : (g : Peers) (r s : ℕ) (m n : List (Option ℕ)) → AreNumbers g r m → AreNumbers g s n → (d : ℕ) → has_number m d ≡ has_number n d
same_has g r s m n a b d = alike (has_number m d) (has_number n d) (λ h. there (number_at n d) _ (b.places d (a.only d h))) (λ h. there (number_at m d) _ (a.places d (b.only d h)))

-- they are those that were seen of the bus
pub same_on : (g : Peers) (root : ℕ) (number : List (Option ℕ)) (on : List Bool) → IsOn g on → AreNumbers g root number → (d : ℕ) → has_number number d ≡ is_seen on d
same_on g root number on bus a d = alike (has_number number d) (is_seen on d) (λ h. bus.has d (a.only d h)) (λ h. there (number_at number d) _ (a.places d (bus.walk d h)))

same_path : (g : Peers) (root : ℕ) (m n : List (Option ℕ)) → AreCables g → IsRoot g root → (a : AreNumbers g root m) (b : AreNumbers g root n) (d : ℕ) → IsOnBus g d → a.paths d ≡ b.paths d
same_path g root m n cables top a b d on = one_path g root (a.paths d) (b.paths d) d d cables top (a.lead d on) (b.lead d on) refl

same_before : (g : Peers) (root : ℕ) (m n : List (Option ℕ)) → AreCables g → IsRoot g root → (a : AreNumbers g root m) (b : AreNumbers g root n) (d : ℕ) → IsOnBus g d → (e : ℕ)
    → (has_number m e && comes_before (a.paths e) (a.paths d)) ≡ (has_number n e && comes_before (b.paths e) (b.paths d))
same_before g root m n cables top a b d on e = elim (truth (has_number m e)) [
  | inl h ↦
      let x = same_path g root m n cables top a b e (a.only e h) in
      let y = same_path g root m n cables top a b d on in
      let z = same_has g root root m n a b e in
      rw (z, x, y) refl
  | inr h ↦
      let z : has_number n e ≡ false = sym (same_has g root root m n a b e) ∙ h in
      rw (h, z) refl
]

same_number : (g : Peers) (root : ℕ) (m n : List (Option ℕ)) → AreCables g → IsRoot g root → (a : AreNumbers g root m) (b : AreNumbers g root n) (d : ℕ) → number_at m d ≡ number_at n d
same_number g root m n cables top a b d = elim (truth (has_number m d)) [
  | inl h ↦
      let on = a.only d h in
      a.places d on
      ∙ (ap (λ k. Some k) (counted_same (λ e. has_number m e && comes_before (a.paths e) (a.paths d)) (λ e. has_number n e && comes_before (b.paths e) (b.paths d)) 63
      (λ e l. same_before g root m n cables top a b d on e))
      ∙ sym (b.places d on))
  | inr h ↦ none_there (number_at m d) h ∙ sym (none_there (number_at n d) (sym (same_has g root root m n a b d) ∙ h))
]

parent_same : (g : Peers) (d : ℕ) (o u : Option ℕ) → IsParentPort g d o → IsParentPort g d u → o ≡ u
parent_same g d None None x y = refl
parent_same g d None (Some q) x y = absurd (root_no_parent g d q y.0 x y.1)
parent_same g d (Some p) None x y = absurd (root_no_parent g d p x.0 y x.1)
parent_same g d (Some p) (Some q) x y = ap (λ k. Some k) (one_parent g d p q x.0 y.0 x.1 y.1)

off_none : (g : Peers) (ports : List (Option ℕ)) → AreParents g ports → (d : ℕ) → (IsOnBus g d → ⊥) → (o : Option ℕ) → number_at ports d ≡ o → o ≡ None
off_none g ports a d off None e = refl
off_none g ports a d off (Some p) e = absurd (off (a.only d p e))

same_parent : (g : Peers) (root : ℕ) (m x y : List (Option ℕ)) → AreNumbers g root m → AreParents g x → AreParents g y → (d : ℕ) → number_at x d ≡ number_at y d
same_parent g root m x y a p q d = elim (truth (has_number m d)) [
  | inl h ↦ let on = a.only d h in parent_same g d (number_at x d) (number_at y d) (p.on d on) (q.on d on)
  | inr h ↦
      let off : IsOnBus g d → ⊥ = λ on. let t = there (number_at m d) _ (a.places d on) in cc in
      off_none g x p d off (number_at x d) refl ∙ sym (off_none g y q d off (number_at y d) refl)
]

pub one_numbering : (p : Topology) (m n : Numbering) → IsSound p → IsNumbering p m → IsNumbering p n → IsSame m n
one_numbering p m n s a b =
    let g = p.cables in
    let root : m.root ≡ n.root = b.root.alone m.root a.root.is_on a.root.is_root in
    let P : ℕ → Type 0 = λ r. AreNumbers g r m.number in
    let numbers : AreNumbers g n.root m.number = subst P root a.numbers in
    record {
      root = root;
      count = a.count ∙ (counted_same (has_number m.number) (has_number n.number) 63 (λ d l. same_has g n.root n.root m.number n.number numbers b.numbers d) ∙ sym b.count);
      number = same_number g n.root m.number n.number s.cables b.root.is_root numbers b.numbers;
      parent_port = same_parent g n.root m.number m.parent_port n.parent_port numbers a.parents b.parents;
    }
