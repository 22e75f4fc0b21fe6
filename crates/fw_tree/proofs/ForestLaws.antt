-- A cable between devices that are not connected makes no loop.
use Rattle.fw_tree.proofs.Common.{◌≡◌, ◌⊎◌, inl, inr, ℕ, zero, suc, List, [], ◌∷◌, Option, Some, None, Bool, true, false, not, ◌&&◌, slice_index_or, refl, sym, ap, ◌∙◌, cases_eq, End, Peers, peer}
use Rattle.fw_tree.proofs.Common.{is_open, HasNoLoop, AreCables}
use Rattle.fw_tree.specs.Forest.{IsOpen, HasOne, Leaf, IsAdded, Splits}

pub truth : (b : Bool) → (b ≡ true) ⊎ (b ≡ false)
truth true = inl refl
truth false = inr refl

pub both : (a b : Bool) → a ≡ true → b ≡ true → (a && b) ≡ true
both a b h k = cc

pub first_of : (a b : Bool) → (a && b) ≡ true → a ≡ true
first_of true b h = refl
first_of false b h = h

pub second_of : (a b : Bool) → (a && b) ≡ true → b ≡ true
second_of true b h = h
second_of false b h = cc

pub not_false : (b : Bool) → not b ≡ true → b ≡ false
not_false true h = cc
not_false false h = refl

pub none_of : {A : Type 0} (o : Option A) → ((x : A) → o ≡ Some x → ⊥) → o ≡ None
none_of None h = refl
none_of (Some x) h = absurd (h x refl)

-- what is at the other end of an open port
pub record OpenTo (s : ℕ → Bool) (o : Option End) : Type 0 where
  pub end : End
  pub is : o ≡ Some end
  pub member : s end.device ≡ true

pub open_to : (s : ℕ → Bool) (o : Option End) → is_open s o ≡ true → OpenTo s o
open_to s None h = absurd (let e : ⊥ = cc in e)
open_to s (Some e) h = record { end = e; is = refl; member = h }

pub opened : (s : ℕ → Bool) (o : Option End) (e : End) → o ≡ Some e → s e.device ≡ true → is_open s o ≡ true
opened s None e i h = cc
opened s (Some f) e i h = let same : f ≡ e = cc in rw same h

pub open_or_not : (s : ℕ → Bool) (ports : List (Option End)) → ((p : ℕ) × (is_open s (slice_index_or ports p None) ≡ true)) ⊎ ((p : ℕ) → is_open s (slice_index_or ports p None) ≡ false)
open_or_not s [] = inr (λ p. refl)
open_or_not s (o ∷ ports) = elim (truth (is_open s o)) [
  | inl shown ↦ inl (0, shown)
  | inr shut ↦ elim (open_or_not s ports) [
    | inl w ↦ inl (suc w.0, w.1)
    | inr none ↦ inr (λ p. at_each s o ports shut none p)
  ]
]
  where
    at_each : (s : ℕ → Bool) (o : Option End) (ports : List (Option End)) → is_open s o ≡ false → ((p : ℕ) → is_open s (slice_index_or ports p None) ≡ false) → (p : ℕ)
        → is_open s (slice_index_or (o ∷ ports) p None) ≡ false
    at_each s o ports shut none zero = shut
    at_each s o ports shut none (suc p) = none p

-- where a port stands to the new cable
data Place (a b : End) (d p : ℕ) : Type 0 where
  at_first : d ≡ a.device → p ≡ a.port → Place a b d p
  at_second : d ≡ b.device → p ≡ b.port → Place a b d p
  elsewhere : ((d ≡ a.device) × (p ≡ a.port) → ⊥) → ((d ≡ b.device) × (p ≡ b.port) → ⊥) → Place a b d p

pub is_at : (d p e q : ℕ) → ((d ≡ e) × (p ≡ q)) ⊎ ((d ≡ e) × (p ≡ q) → ⊥)
is_at d p e q = elim (cases_eq d e) [
  | inl x ↦ elim (cases_eq p q) [ inl y ↦ inl (x, y) | inr n ↦ inr (λ w. n w.1) ]
  | inr n ↦ inr (λ w. n w.0)
]

place : (a b : End) (d p : ℕ) → Place a b d p
place a b d p = elim (is_at d p a.device a.port) [
  | inl w ↦ at_first w.0 w.1
  | inr n ↦ elim (is_at d p b.device b.port) [ inl w ↦ at_second w.0 w.1 | inr m ↦ elsewhere n m ]
]

-- an open port was open before, or the new cable stands there
data Opens (g : Peers) (s : ℕ → Bool) (a b : End) (d p : ℕ) : Type 0 where
  before : IsOpen g s d p → Opens g s a b d p
  new_first : d ≡ a.device → p ≡ a.port → s b.device ≡ true → Opens g s a b d p
  new_second : d ≡ b.device → p ≡ b.port → s a.device ≡ true → Opens g s a b d p

opens : (g h : Peers) (a b : End) → IsAdded g h a b → (s : ℕ → Bool) (d p : ℕ) → IsOpen h s d p → Opens g s a b d p
opens g h a b added s d p o = elim (place a b d p) [
  | at_first x y ↦ new_first x y (let w = open_to s (peer h d p) o in let e : w.end ≡ b = cc (added.first, w.is) in rw (← e) w.member)
  | at_second x y ↦ new_second x y (let w = open_to s (peer h d p) o in let e : w.end ≡ a = cc (added.second, w.is) in rw (← e) w.member)
  | elsewhere x y ↦ before (ap (λ t. is_open s t) (sym (added.others d p x y)) ∙ o)
]

-- a device on the one side that has at most one cable to the set
record Side (g : Peers) (s c : ℕ → Bool) : Type 0 where
  leaf : ℕ
  member : s leaf ≡ true
  inside : c leaf ≡ true
  one : HasOne g s leaf

-- if no port was open, the new cable's is the only one
at_new : (g : Peers) (s : ℕ → Bool) (a b : End) (p : ℕ) → (a.device ≡ b.device → ⊥) → ((q : ℕ) → is_open s (peer g a.device q) ≡ false) → Opens g s a b a.device p → p ≡ a.port
at_new g s a b p differ shut o = elim o [
  | before x ↦ let e = shut p in cc
  | new_first x y m ↦ y
  | new_second x y m ↦ absurd (differ x)
]

-- a cable that stands at another device of the side leads to the side
of_side : (g : Peers) (s c : ℕ → Bool) (a b : End) (d p : ℕ) → Splits g c → (d ≡ a.device → ⊥) → (d ≡ b.device → ⊥) → c d ≡ true → Opens g s a b d p → IsOpen g (λ k. s k && c k) d p
of_side g s c a b d p splits differ also inside o = elim o [
  | before x ↦ let w = open_to s (peer g d p) x in opened (λ k. s k && c k) (peer g d p) w.end w.is (both (s w.end.device) (c w.end.device) w.member (splits d p w.end w.is ∙ inside))
  | new_first x y m ↦ absurd (differ x)
  | new_second x y m ↦ absurd (also x)
]

differs : (c : ℕ → Bool) (d e : ℕ) → c d ≡ true → c e ≡ false → d ≡ e → ⊥
differs c d e h k same = cc

side : (g h : Peers) (a b : End) (s c : ℕ → Bool) → AreCables g → HasNoLoop g → IsAdded g h a b → Splits g c → c a.device ≡ true → c b.device ≡ false → s a.device ≡ true → Side h s c
side g h a b s c cables none added splits in_first out_second member = elim (open_or_not s (slice_index_or g a.device [])) [
  | inr shut ↦
      let apart = differs c a.device b.device in_first out_second in
      record {
        leaf = a.device;
        member = member;
        inside = in_first;
        one = λ p q x y. at_new g s a b p apart shut (opens g h a b added s a.device p x) ∙ sym (at_new g s a b q apart shut (opens g h a b added s a.device q y));
      }
  | inl w ↦
      let t = open_to s (peer g a.device w.0) w.1 in
      let l : Leaf g (λ d. s d && c d) a.device = none (λ d. s d && c d) a.device t.end.device (both (s t.end.device) (c t.end.device) t.member (splits a.device w.0 t.end t.is ∙ in_first))
      (cables.apart a.device w.0 t.end t.is) in
      let inside : c l.leaf ≡ true = second_of (s l.leaf) (c l.leaf) l.member in
      let also = differs c l.leaf b.device inside out_second in
      record {
        leaf = l.leaf;
        member = first_of (s l.leaf) (c l.leaf) l.member;
        inside = inside;
        one = λ p q x y. l.one p q (of_side g s c a b l.leaf p splits l.other also inside (opens g h a b added s l.leaf p x))
            (of_side g s c a b l.leaf q splits l.other also inside (opens g h a b added s l.leaf q y));
      }
]

turned : (g h : Peers) (a b : End) → IsAdded g h a b → IsAdded g h b a
turned g h a b n = record { first = n.second; second = n.first; others = λ d p x y. n.others d p y x; free_first = n.free_second; free_second = n.free_first }

other_side : (g : Peers) (c : ℕ → Bool) → Splits g c → Splits g (λ d. not (c d))
other_side g c splits d p e is = ap not (splits d p e is)

-- if not both ends are in the set, no port has become open
as_before : (g : Peers) (s : ℕ → Bool) (a b : End) (d p : ℕ) → s d ≡ true → (s a.device && s b.device) ≡ false → Opens g s a b d p → IsOpen g s d p
as_before g s a b d p member apart o = elim o [
  | before x ↦ x
  | new_first x y m ↦ let k : s a.device ≡ true = cc in let t = both (s a.device) (s b.device) k m in cc
  | new_second x y m ↦ let k : s b.device ≡ true = cc in let t = both (s a.device) (s b.device) m k in cc
]

pub still_no_loop : (g h : Peers) (a b : End) (c : ℕ → Bool) → AreCables g → HasNoLoop g → IsAdded g h a b → Splits g c → c a.device ≡ true → c b.device ≡ false → HasNoLoop h
still_no_loop g h a b c cables none added splits in_first out_second s x y member differ = elim (truth (s a.device && s b.device)) [
  | inl joined ↦
      let u = side g h a b s c cables none added splits in_first out_second (first_of (s a.device) (s b.device) joined) in
      let v = side g h b a s (λ d. not (c d)) cables none (turned g h a b added) (other_side g c splits) (ap not out_second) (ap not in_first) (second_of (s a.device) (s b.device) joined) in
      elim (cases_eq u.leaf x) [
        | inl same ↦ record { leaf = v.leaf; member = v.member; one = v.one; other = λ e. differs c u.leaf v.leaf u.inside (not_false (c v.leaf) v.inside) (same ∙ sym e) }
        | inr other ↦ record { leaf = u.leaf; member = u.member; other = other; one = u.one }
      ]
  | inr apart ↦
      let l = none s x y member differ in
      record {
        leaf = l.leaf;
        member = l.member;
        other = l.other;
        one = λ p q i j. l.one p q (as_before g s a b l.leaf p l.member apart (opens g h a b added s l.leaf p i))
            (as_before g s a b l.leaf q l.member apart (opens g h a b added s l.leaf q j));
      }
]

-- cables that stand at both ends still do
pub still_cables : (g h : Peers) (a b : End) → AreCables g → IsAdded g h a b → (a.device ≡ b.device → ⊥) → AreCables h
still_cables g h a b cables added differ = record {
  back = λ d p e is. back_of g h a b cables added d p e is (place a b d p);
  apart = λ d p e is same. apart_of g h a b cables added differ d p e is same (place a b d p);
}
  where
    moved : (g : Peers) (a : End) (d p : ℕ) (e f : End) → peer g a.device a.port ≡ None → peer g d p ≡ Some e → e.device ≡ a.device → e.port ≡ a.port → peer g e.device e.port ≡ Some f → ⊥
    moved g a d p e f free is x y back = let k : peer g e.device e.port ≡ None = rw (x, y) free in cc

    back_of : (g h : Peers) (a b : End) → AreCables g → IsAdded g h a b → (d p : ℕ) (e : End) → peer h d p ≡ Some e → Place a b d p → peer h e.device e.port ≡ Some (record { device = d; port = p })
    back_of g h a b cables added d p e is w = elim w [
      | at_first x y ↦ let k : e ≡ b = cc (added.first, is) in rw (k, x, y) added.second
      | at_second x y ↦ let k : e ≡ a = cc (added.second, is) in rw (k, x, y) added.first
      | elsewhere m n ↦
          let old : peer g d p ≡ Some e = sym (added.others d p m n) ∙ is in
          let back = cables.back d p e old in
          added.others e.device e.port (λ v. moved g a d p e (record { device = d; port = p }) added.free_first old v.0 v.1 back)
          (λ v. moved g b d p e (record { device = d; port = p }) added.free_second old v.0 v.1 back) ∙ back
    ]

    apart_of : (g h : Peers) (a b : End) → AreCables g → IsAdded g h a b → (a.device ≡ b.device → ⊥) → (d p : ℕ) (e : End) → peer h d p ≡ Some e → e.device ≡ d → Place a b d p → ⊥
    apart_of g h a b cables added differ d p e is same w = elim w [
      | at_first x y ↦ let k : e ≡ b = cc (added.first, is) in differ (cc (k, x, same))
      | at_second x y ↦ let k : e ≡ a = cc (added.second, is) in differ (cc (k, x, same))
      | elsewhere m n ↦ cables.apart d p e (sym (added.others d p m n) ∙ is) same
    ]
