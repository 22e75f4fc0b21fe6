-- Each cable of a cabling leads up from one of its ends, and numbers are in the order of the paths.
use Rattle.fw_map.proofs.Common.{◌≡◌, ◌⊎◌, inl, inr, ℕ, suc, ◌<◌, ◌≤◌, ◌&&◌, [], ◌∷◌, ◌++◌, Option, Some, None, Bool, true, false, arith, refl, sym, ap, subst, ◌∙◌, cases_eq, cases_lt, counted}
use Rattle.fw_map.proofs.Common.{number_at, is_there, comes_before, truth}
use Rattle.fw_tree.specs.declared.facts.End.{End}
use Rattle.fw_tree.specs.declared.numbering.Numbering.{Numbering}
use Rattle.fw_tree.specs.Cables.{Peers, peer, IsOnBus, here, along}
use Rattle.fw_tree.specs.Rounds.{stays, HasParent, IsRoot}
use Rattle.fw_tree.specs.Forest.{AreCables}
use Rattle.fw_tree.specs.Numbers.{has_number, IsParentPort, down_to as bus_down}
use Rattle.fw_tree.specs.Numbering.{IsNumbering}
use Rattle.fw_tree.specs.Topology.{Topology, IsSound}
use Rattle.fw_tree.proofs.ForestLaws.{opened, open_to}
use Rattle.fw_tree.proofs.OpenPortLaws.{same_port, same_end}
use Rattle.fw_tree.proofs.RoundLaws.{stayed, earlier, goes}
use Rattle.fw_tree.proofs.RootLaws.{root_no_parent}
use Rattle.fw_tree.proofs.PathLaws.{one_path}
use Rattle.fw_tree.proofs.CountLaws.{counted_less}
use Rattle.fw_tree.proofs.StepLaws.{irreflexive}
use Rattle.fw_tree.proofs.NumberingLaws.{placed}
use Rattle.fw_map.proofs.PathLaws.{transitive, total, child_first}
use Rattle.fw_map.proofs.ShapeLaws.{some_of, none_of, same_some, there}

-- ---- each cable leads up from one of its ends

-- who stays in a round stayed before it
stays_from : (g : Peers) (d r s : ℕ) → r ≤ s → stays g s d ≡ true → stays g r d ≡ true
stays_from g d r s l h = elim (cases_eq r s) [
  | inl same ↦ ap (λ k. stays g k d) same ∙ h
  | inr differ ↦ stayed g r d (earlier g r s d (omega arith) h)
]

-- a device leaves towards the one that stays
towards : (g : Peers) (d p b q m s : ℕ) → AreCables g → peer g d p ≡ Some (record { device = b; port = q }) → HasParent g b m s → stays g s d ≡ true → m ≡ q
towards g d p b q m s cables at h k =
    let back = cables.back d p (record { device = b; port = q }) at in
    same_port g (stays g s) b m q h.leaves.one h.leaves.parent (opened (stays g s) (peer g b q) (record { device = d; port = p }) back k)

-- a root stays while the other has not left
root_stays : (g : Peers) (d p b q m s : ℕ) → AreCables g → peer g d p ≡ Some (record { device = b; port = q }) → HasParent g b m s → IsRoot g d → stays g s d ≡ true
root_stays g d p b q m s cables at h (inl always) = always s
root_stays g d p b q m s cables at h (inr won) =
    let r = won.0 in
    let e = won.1.0 in
    let tie = won.1.2 in
    elim (cases_lt r s) [
      | inr l ↦ stays_from g d s r l tie.first.0.still
      | inl l ↦ absurd (
          let here : stays g r b ≡ true = stays_from g b r s (omega arith) h.leaves.still in
          let port : tie.port ≡ p = same_port g (stays g r) d tie.port p tie.first.0.one tie.first.0.parent (opened (stays g r) (peer g d p) (record { device = b; port = q }) at here) in
          let there : peer g d p ≡ Some (record { device = e; port = tie.other }) = ap (peer g d) (sym port) ∙ tie.first.1 in
          let device : b ≡ e = same_end (peer g d p) (record { device = b; port = q }) (record { device = e; port = tie.other }) at there in
          let gone = goes g r e tie.second.0.one in
          let still : stays g (suc r) b ≡ true = earlier g r s b l h.leaves.still in
          let also : stays g (suc r) e ≡ true = ap (stays g (suc r)) (sym device) ∙ still in
          let z : ⊥ = cc in z)
    ]

module _ (p : Topology) (n : Numbering) (s : IsSound p) (h : IsNumbering p n) where
  low : (d v : ℕ) → number_at n.number d ≡ Some v → d < 63
  low d v e = let k = placed p n s h d (there (number_at n.number d) v e) in let f = s.few in omega arith

  pub on_bus : (d v : ℕ) → number_at n.number d ≡ Some v → IsOnBus p.cables d
  on_bus d v e = h.numbers.only d (there (number_at n.number d) v e)

  pub numbered : (d : ℕ) → IsOnBus p.cables d → (v : ℕ) × (number_at n.number d ≡ Some v)
  numbered d on = (counted (λ e. has_number n.number e && comes_before (h.numbers.paths e) (h.numbers.paths d)) 63, h.numbers.places d on)

  -- the parent port of a device of the bus
  pub way_up : (d m : ℕ) → IsOnBus p.cables d → number_at n.parent_port d ≡ Some m → (r : ℕ) × HasParent p.cables d m r
  way_up d m on e = let P : Option ℕ → Type 0 = IsParentPort p.cables d in subst P e (h.parents.on d on)

  is_root : (d : ℕ) → IsOnBus p.cables d → number_at n.parent_port d ≡ None → d ≡ n.root
  is_root d on e = let P : Option ℕ → Type 0 = IsParentPort p.cables d in h.root.alone d on (subst P e (h.parents.on d on))

  pub root_none : number_at n.parent_port n.root ≡ None
  root_none = elim (truth (is_there (number_at n.parent_port n.root))) [
    | inr off ↦ none_of (number_at n.parent_port n.root) off
    | inl on ↦ absurd (let w = some_of (number_at n.parent_port n.root) on in let k = way_up n.root w.0 h.root.is_on w.1 in root_no_parent p.cables n.root w.0 k.0 h.root.is_root k.1)
  ]

  -- at the parent port there is a cable, and its other end is on the bus
  pub parent_end : (d m r : ℕ) → HasParent p.cables d m r → (e : End) × (peer p.cables d m ≡ Some e)
  parent_end d m r k = let o = open_to (stays p.cables r) (peer p.cables d m) k.leaves.parent in (o.end, o.is)

  pub end_on : (d m : ℕ) (e : End) → IsOnBus p.cables d → peer p.cables d m ≡ Some e → IsOnBus p.cables e.device
  end_on d m e on at = along on (record { port = m; leads = leads (peer p.cables d m) e at })
    where
      leads : (o : Option End) (e : End) → o ≡ Some e → Rattle.fw_tree.specs.Cables.LeadsTo o e.device
      leads None e k = absurd (let z : ⊥ = cc in z)
      leads (Some f) e k = let same : f ≡ e = cc in ap (λ x. device_of x) same
        where
          device_of : End → ℕ
          device_of x = x.device

  -- a path goes on from the parent's
  below : (d m b q : ℕ) → IsOnBus p.cables d → IsOnBus p.cables b → number_at n.parent_port b ≡ Some q → peer p.cables b q ≡ Some (record { device = d; port = m })
      → h.numbers.paths b ≡ h.numbers.paths d ++ m ∷ []
  below d m b q on also up at =
      let k = way_up b q also up in
      let forth = s.cables.back b q (record { device = d; port = m }) at in
      one_path p.cables n.root (h.numbers.paths b) (h.numbers.paths d ++ m ∷ []) b b s.cables h.root.is_root (h.numbers.lead b also) (bus_down (h.numbers.lead d on) m q k.0 forth k.1 refl) refl

  -- a cable is the parent's of one end, and of one alone
  pub one_up : (d m b q : ℕ) → IsOnBus p.cables d → peer p.cables d m ≡ Some (record { device = b; port = q }) → (number_at n.parent_port d ≡ Some m) ⊎ (number_at n.parent_port b ≡ Some q)
  one_up d m b q on at = go (number_at n.parent_port d) (number_at n.parent_port b) refl refl
    where
      also : IsOnBus p.cables b
      also = end_on d m (record { device = b; port = q }) on at

      back : peer p.cables b q ≡ Some (record { device = d; port = m })
      back = s.cables.back d m (record { device = b; port = q }) at

      root_of : (c : ℕ) → IsOnBus p.cables c → number_at n.parent_port c ≡ None → IsRoot p.cables c
      root_of c c_on e = let P : Option ℕ → Type 0 = IsParentPort p.cables c in subst P e (h.parents.on c c_on)

      go : (x y : Option ℕ) → number_at n.parent_port d ≡ x → number_at n.parent_port b ≡ y → (number_at n.parent_port d ≡ Some m) ⊎ (number_at n.parent_port b ≡ Some q)
      go None None a c = absurd (s.cables.apart d m (record { device = b; port = q }) at (is_root b also c ∙ sym (is_root d on a)))
      go None (Some y) a c = let k = way_up b y also c in inr (c ∙ ap (λ z. Some z)
          (towards p.cables d m b q y k.0 s.cables at k.1 (root_stays p.cables d m b q y k.0 s.cables at k.1 (root_of d on a))))
      go (Some x) None a c = let k = way_up d x on a in inl (a ∙ ap (λ z. Some z)
          (towards p.cables b q d m x k.0 s.cables back k.1 (root_stays p.cables b q d m x k.0 s.cables back k.1 (root_of b also c))))
      go (Some x) (Some y) a c =
          let k = way_up d x on a in
          let l = way_up b y also c in
          elim (cases_lt l.0 k.0) [
            | inl less ↦ inr (c ∙ ap (λ z. Some z) (towards p.cables d m b q y l.0 s.cables at l.1 (stays_from p.cables d l.0 k.0 (omega arith) k.1.leaves.still)))
            | inr more ↦ inl (a ∙ ap (λ z. Some z) (towards p.cables b q d m x k.0 s.cables back k.1 (stays_from p.cables b k.0 l.0 more l.1.leaves.still)))
          ]

  pub not_both : (d m b q : ℕ) → IsOnBus p.cables d → peer p.cables d m ≡ Some (record { device = b; port = q }) → number_at n.parent_port d ≡ Some m → number_at n.parent_port b ≡ Some q → ⊥
  not_both d m b q on at a c =
      let also = end_on d m (record { device = b; port = q }) on at in
      let back = s.cables.back d m (record { device = b; port = q }) at in
      let x = below d m b q on also c back in
      let y = below b q d m also on a at in
      let u : comes_before (h.numbers.paths b) (h.numbers.paths d) ≡ true = rw x (child_first (h.numbers.paths d) m) in
      let v : comes_before (h.numbers.paths d) (h.numbers.paths b) ≡ true = rw y (child_first (h.numbers.paths b) q) in
      let w = transitive (h.numbers.paths b) (h.numbers.paths d) (h.numbers.paths b) u v in
      let i = irreflexive (h.numbers.paths b) in
      let z : ⊥ = cc in z

  -- ---- numbers are in the order of the paths

  first_lower : (d e v w : ℕ) → number_at n.number d ≡ Some v → number_at n.number e ≡ Some w → comes_before (h.numbers.paths d) (h.numbers.paths e) ≡ true → v < w
  first_lower d e v w a b l =
      let less = counted_less (λ c. has_number n.number c && comes_before (h.numbers.paths c) (h.numbers.paths e))
      (λ c. has_number n.number c && comes_before (h.numbers.paths c) (h.numbers.paths d)) 63 d (low d v a)
      (λ k m. and_more (has_number n.number k) (comes_before (h.numbers.paths k) (h.numbers.paths d)) (comes_before (h.numbers.paths k) (h.numbers.paths e))
      (λ i. transitive (h.numbers.paths k) (h.numbers.paths d) (h.numbers.paths e) i l) m)
      (and_not (has_number n.number d) (comes_before (h.numbers.paths d) (h.numbers.paths d)) (irreflexive (h.numbers.paths d)))
      (both (has_number n.number d) (comes_before (h.numbers.paths d) (h.numbers.paths e)) (there (number_at n.number d) v a) l) in
      let x = same_some (number_at n.number d) v (counted (λ c. has_number n.number c && comes_before (h.numbers.paths c) (h.numbers.paths d)) 63) a (h.numbers.places d (on_bus d v a)) in
      let y = same_some (number_at n.number e) w (counted (λ c. has_number n.number c && comes_before (h.numbers.paths c) (h.numbers.paths e)) 63) b (h.numbers.places e (on_bus e w b)) in
      omega arith
    where
      and_more : (t a b : Bool) → (a ≡ true → b ≡ true) → (t && a) ≡ true → (t && b) ≡ true
      and_more true a b f k = f k
      and_more false a b f k = k

      and_not : (t a : Bool) → a ≡ false → (t && a) ≡ false
      and_not true a k = k
      and_not false a k = refl

      both : (t a : Bool) → t ≡ true → a ≡ true → (t && a) ≡ true
      both true a x k = k
      both false a x k = x

  pub lower_first : (d e v w : ℕ) → number_at n.number d ≡ Some v → number_at n.number e ≡ Some w → v < w → comes_before (h.numbers.paths d) (h.numbers.paths e) ≡ true
  lower_first d e v w a b l = elim (total (h.numbers.paths d) (h.numbers.paths e)) [
    | inl f ↦ f
    | inr r ↦ elim r [
      | inl same ↦ absurd (
          let x = same_some (number_at n.number d) v (counted (λ c. has_number n.number c && comes_before (h.numbers.paths c) (h.numbers.paths d)) 63) a (h.numbers.places d (on_bus d v a)) in
          let y = same_some (number_at n.number e) w (counted (λ c. has_number n.number c && comes_before (h.numbers.paths c) (h.numbers.paths e)) 63) b (h.numbers.places e (on_bus e w b)) in
          let z = ap (λ k. counted (λ c. has_number n.number c && comes_before (h.numbers.paths c) k) 63) same in
          omega arith)
      | inr f ↦ absurd (let z = first_lower e d w v b a f in omega arith)
    ]
  ]
