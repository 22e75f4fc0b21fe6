-- The rounds of tree identification leave one root.
use Rattle.fw_tree.proofs.Common.{◌≡◌, ◌⊎◌, inl, inr, ℕ, zero, suc, ◌<◌, ◌≤◌, ◌+◌, ◌==◌, ◌&&◌, not, List, [], ◌∷◌, Option, Some, None, IfSome, Bool, true, false, slice_index_or, arith, refl, sym, ap}
use Rattle.fw_tree.proofs.Common.{subst, ◌∙◌, cases_eq, cases_lt, nat_tests, End, Peers, peer, Walk, here, along, LeadsTo, InRange, is_open, open_count, stays, HasNoLoop, AreCables, Settled}
use Rattle.std.proofs.Common.{count_by, cond}
use Rattle.std.proofs.lemmas.List.Sums.{sum_by-cons}
use Rattle.fw_tree.specs.Cables.{AreJoined}
use Rattle.fw_tree.specs.Rounds.{Tie}
use Rattle.fw_tree.specs.Forest.{Splits, Leaf}
use Rattle.fw_tree.proofs.ForestLaws.{truth, both, first_of, second_of, open_to, opened, open_or_not}
use Rattle.fw_tree.proofs.OpenPortLaws.{same_end, is_one, same_port}

-- one round
pub leaves : (g : Peers) (r d : ℕ) → stays g r d ≡ true → stays g (suc r) d ≡ false → open_count g (stays g r) d ≡ 1
leaves g r d h k = step (stays g r d) (open_count g (stays g r) d) h k
  where
    step : (b : Bool) (n : ℕ) → b ≡ true → (b && not (n == 1)) ≡ false → n ≡ 1
    step b n h k = grind (arith, nat_tests)

pub goes : (g : Peers) (r d : ℕ) → open_count g (stays g r) d ≡ 1 → stays g (suc r) d ≡ false
goes g r d h = step (stays g r d) (open_count g (stays g r) d) h
  where
    step : (b : Bool) (n : ℕ) → n ≡ 1 → (b && not (n == 1)) ≡ false
    step b n h = grind (arith, nat_tests)

pub stayed : (g : Peers) (r d : ℕ) → stays g (suc r) d ≡ true → stays g r d ≡ true
stayed g r d h = first_of (stays g r d) (not (open_count g (stays g r) d == 1)) h

-- who stays at a round has stayed before it
pub earlier : (g : Peers) (r t d : ℕ) → r < t → stays g t d ≡ true → stays g (suc r) d ≡ true
earlier g r zero d h k = absurd (omega arith)
earlier g r (suc t) d h k = elim (cases_eq r t) [
  | inl same ↦ rw same k
  | inr differ ↦ earlier g r t d (omega arith) (stayed g t d k)
]

-- a walk through devices that stay
pub data Within (g : Peers) (r a : ℕ) : ℕ → Type 0 where
  begin : stays g r a ≡ true → Within g r a a
  step : {b c : ℕ} → Within g r a b → (p q : ℕ) → peer g b p ≡ Some (record { device = c; port = q }) → stays g r c ≡ true → Within g r a c

pub ends : (g : Peers) (r a b : ℕ) → Within g r a b → stays g r b ≡ true
ends g r a b (begin s) = s
ends g r a c (step w p q is s) = s

-- where a walk stands after one round more
data Shrunk (g : Peers) (r a b : ℕ) : Type 0 where
  kept : Within g (suc r) a b → Shrunk g r a b
  left : stays g (suc r) b ≡ false → (c p q : ℕ) → peer g b p ≡ Some (record { device = c; port = q }) → Within g (suc r) a c → Shrunk g r a b

shrink : (g : Peers) (r a b : ℕ) → AreCables g → stays g (suc r) a ≡ true → Within g r a b → Shrunk g r a b
shrink g r a b cables k (begin s) = kept (begin k)
shrink g r a c cables k (step {b = b} w p q is s) = go g r a b c p q cables is s (ends g r a b w) (shrink g r a b cables k w)
  where
    go : (g : Peers) (r a b c p q : ℕ) → AreCables g → peer g b p ≡ Some (record { device = c; port = q }) → stays g r c ≡ true → stays g r b ≡ true → Shrunk g r a b → Shrunk g r a c
    go g r a b c p q cables is s t (kept v) = elim (truth (stays g (suc r) c)) [
      | inl still ↦ kept (step v p q is still)
      | inr gone ↦ left gone b q p (cables.back b p (record { device = c; port = q }) is) v
    ]
    go g r a b c p q cables is s t (left gone e i j at v) =
        let x = opened (stays g r) (peer g b p) (record { device = c; port = q }) is s in
        let y = opened (stays g r) (peer g b i) (record { device = e; port = j }) at (stayed g r e (ends g (suc r) a e v)) in
        let same : p ≡ i = same_port g (stays g r) b p i (leaves g r b t gone) x y in
        let k : peer g b i ≡ Some (record { device = c; port = q }) = rw same at is in
        let other : e ≡ c = same_end (peer g b i) (record { device = e; port = j }) (record { device = c; port = q }) at k in
        let P : ℕ → Type 0 = Within g (suc r) a in
        kept (subst P other v)

pub led : (o : Option End) (c : ℕ) → LeadsTo o c → (q : ℕ) × (o ≡ Some (record { device = c; port = q }))
led None c l = absurd l
led (Some e) c l = let P : ℕ → Type 0 = λ n. Some e ≡ Some (record { device = n; port = e.port }) in (e.port, subst P l refl)

all_stay : (g : Peers) (a b : ℕ) → Walk g a b → Within g 0 a b
all_stay g a b here = begin refl
all_stay g a c (along {b = b} w j) = let k = led (peer g b j.port) c j.leads in step (all_stay g a b w) j.port k.0 k.1 refl

-- devices of one bus that stay are joined by a walk through devices that stay
pub both_stay : (g : Peers) (r a b : ℕ) → AreCables g → Walk g a b → stays g r a ≡ true → stays g r b ≡ true → Within g r a b
both_stay g zero a b cables w s t = all_stay g a b w
both_stay g (suc r) a b cables w s t = go g r a b t (shrink g r a b cables s (both_stay g r a b cables w (stayed g r a s) (stayed g r b t)))
  where
    go : (g : Peers) (r a b : ℕ) → stays g (suc r) b ≡ true → Shrunk g r a b → Within g (suc r) a b
    go g r a b t (kept v) = v
    go g r a b t (left gone c p q is v) = absurd (let e : ⊥ = cc in e)

-- from a device with no open port no walk leads on
pub alone : (g : Peers) (r a b : ℕ) → ((p : ℕ) → is_open (stays g r) (peer g a p) ≡ false) → Within g r a b → b ≡ a
alone g r a b shut (begin s) = refl
alone g r a c shut (step {b = b} w p q is s) =
    let same : b ≡ a = alone g r a b shut w in
    let x = opened (stays g r) (peer g b p) (record { device = c; port = q }) is s in
    let y : is_open (stays g r) (peer g b p) ≡ false = rw same (shut p) in
    cc

-- if two leave towards each other, none but them are left
pub pair : (g : Peers) (r d e b : ℕ) → Tie g (stays g r) d e → Within g r d b → (b ≡ d) ⊎ (b ≡ e)
pair g r d e b t (begin s) = inl refl
pair g r d e c t (step {b = b} w p q is s) = elim (pair g r d e b t w) [
  | inl same ↦
      let x = opened (stays g r) (peer g b p) (record { device = c; port = q }) is s in
      let y : is_open (stays g r) (peer g d p) ≡ true = rw same at x in
      let k : p ≡ t.port = same_port g (stays g r) d p t.port t.first.0.one y t.first.0.parent in
      let l : peer g d t.port ≡ Some (record { device = c; port = q }) = rw (same, k) at is in
      inr (same_end (peer g d t.port) (record { device = c; port = q }) (record { device = e; port = t.other }) l t.first.1)
  | inr same ↦
      let x = opened (stays g r) (peer g b p) (record { device = c; port = q }) is s in
      let y : is_open (stays g r) (peer g e p) ≡ true = rw same at x in
      let k : p ≡ t.other = same_port g (stays g r) e p t.other t.second.0.one y t.second.0.parent in
      let l : peer g e t.other ≡ Some (record { device = c; port = q }) = rw (same, k) at is in
      inl (same_end (peer g e t.other) (record { device = c; port = q }) (record { device = d; port = t.port }) l t.second.1)
]

count_same : (f h : ℕ → Bool) (ports : List (Option End)) → ((p : ℕ) (e : End) → slice_index_or ports p None ≡ Some e → f e.device ≡ h e.device)
    → count_by (is_open f) ports ≡ count_by (is_open h) ports
count_same f h [] k = refl
count_same f h (o ∷ ports) k =
    sum_by-cons (λ x. cond (is_open f x) 1 0) o ports
    ∙ (ap (λ b. cond b 1 0 + count_by (is_open f) ports) (one o (λ e is. k 0 e is))
    ∙ (ap (λ n. cond (is_open h o) 1 0 + n) (count_same f h ports (λ p e is. k (suc p) e is))
    ∙ sym (sum_by-cons (λ x. cond (is_open h x) 1 0) o ports)))
  where
    one : (o : Option End) → ((e : End) → o ≡ Some e → f e.device ≡ h e.device) → is_open f o ≡ is_open h o
    one None k = refl
    one (Some e) k = k e refl

pub in_range : (g : Peers) → InRange g → (d p : ℕ) (e : End) → peer g d p ≡ Some e → e.device < 63
in_range g range d p e is = within (peer g d p) e is (range.ends d p)
  where
    within : (o : Option End) (e : End) → o ≡ Some e → IfSome o (λ f. (f.device < 63) × (f.port < 27)) → e.device < 63
    within None e is h = cc
    within (Some f) e is h = let k : f ≡ e = cc in rw (← k) h.0

-- the same devices staying give the same counts
pub open_same : (g : Peers) (f h : ℕ → Bool) (d : ℕ) → InRange g → ((k : ℕ) → k < 63 → f k ≡ h k) → open_count g f d ≡ open_count g h d
open_same g f h d range same = count_same f h (slice_index_or g d []) (λ p e is. same e.device (in_range g range d p e is))

pub same_from : (g : Peers) (r t d : ℕ) → InRange g → Settled g r → r ≤ t → d < 63 → stays g t d ≡ stays g r d
same_from g r zero d range settled h l = let e : r ≡ 0 = omega arith in rw e refl
same_from g r (suc t) d range settled h l = elim (cases_eq r (suc t)) [
  | inl same ↦ rw same refl
  | inr differ ↦
      let count = open_same g (stays g t) (stays g r) d range (λ e m. same_from g r t e range settled (omega arith) m) in
      ap (λ b. b && not (open_count g (stays g t) d == 1)) (same_from g r t d range settled (omega arith) l)
      ∙ (ap (λ n. stays g r d && not (n == 1)) count ∙ settled d l)
]

-- who stays when nothing changes any more never leaves
pub always : (g : Peers) (r d : ℕ) → InRange g → Settled g r → d < 63 → stays g r d ≡ true → (t : ℕ) → stays g t d ≡ true
always g r d range settled h s t = elim (cases_lt t r) [
  | inl less ↦ stayed g t d (earlier g t r d less s)
  | inr most ↦ same_from g r t d range settled most h ∙ s
]

-- the devices of one bus
pub record IsBus (g : Peers) (on : ℕ → Bool) : Type 0 where
  pub walk : (d : ℕ) → on d ≡ true → Walk g 0 d
  pub has : (d : ℕ) → Walk g 0 d → on d ≡ true

joined_back : (g : Peers) (b c : ℕ) → AreCables g → AreJoined g b c → AreJoined g c b
joined_back g b c cables j =
    let k = led (peer g b j.port) c j.leads in
    let back = cables.back b j.port (record { device = c; port = k.0 }) k.1 in
    record { port = k.0; leads = to (peer g c k.0) b j.port back }
  where
    to : (o : Option End) (b p : ℕ) → o ≡ Some (record { device = b; port = p }) → LeadsTo o b
    to o b p h = let P : Option End → Type 0 = λ x. LeadsTo x b in subst P (sym h) refl

pub joins : (g : Peers) (a b c : ℕ) → Walk g a b → Walk g b c → Walk g a c
joins g a b b' w here = w
joins g a b c w (along v j) = along (joins g a b _ w v) j

pub walk_back : (g : Peers) (a b : ℕ) → AreCables g → Walk g a b → Walk g b a
walk_back g a a' cables here = here
walk_back g a c cables (along {b = b} w j) = joins g c b a (along here (joined_back g b c cables j)) (walk_back g a b cables w)

pub bus_splits : (g : Peers) (on : ℕ → Bool) → AreCables g → IsBus g on → Splits g on
bus_splits g on cables bus d p e is = same (on e.device) (on d)
    (λ h. bus.has d (along (bus.walk e.device h) (record { port = e.port; leads = to (peer g e.device e.port) d p (cables.back d p e is) })))
    (λ h. bus.has e.device (along (bus.walk d h) (record { port = p; leads = to (peer g d p) e.device e.port is })))
  where
    to : (o : Option End) (b p : ℕ) → o ≡ Some (record { device = b; port = p }) → LeadsTo o b
    to o b p h = let P : Option End → Type 0 = λ x. LeadsTo x b in subst P (sym h) refl

    same : (x y : Bool) → (x ≡ true → y ≡ true) → (y ≡ true → x ≡ true) → x ≡ y
    same true y f h = sym (f refl)
    same false true f h = h refl
    same false false f h = refl

-- what holds of a round that leaves all as it was, on a bus
pub record Ended (g : Peers) (on : ℕ → Bool) (r : ℕ) : Type 0 where
  pub range : InRange g
  pub cables : AreCables g
  pub none : HasNoLoop g
  pub bus : IsBus g on
  pub settled : Settled g r
  pub within : (d : ℕ) → on d ≡ true → d < 63

pub between : (g : Peers) (on : ℕ → Bool) (r d e : ℕ) → Ended g on r → on d ≡ true → on e ≡ true → Walk g d e
between g on r d e n h k = joins g d 0 e (walk_back g 0 d n.cables (n.bus.walk d h)) (n.bus.walk e k)

-- if two stay, one of them has an open port: so none do
pub one_stays : (g : Peers) (on : ℕ → Bool) (r d e : ℕ) → Ended g on r → on d ≡ true → on e ≡ true → stays g r d ≡ true → stays g r e ≡ true → d ≡ e
one_stays g on r d e n i j s t = elim (cases_eq d e) [
  | inl same ↦ same
  | inr differ ↦
      let l : Leaf g (λ k. stays g r k && on k) d = n.none (λ k. stays g r k && on k) d e (both (stays g r e) (on e) t j) (λ h. differ (sym h)) in
      let still : stays g r l.leaf ≡ true = first_of (stays g r l.leaf) (on l.leaf) l.member in
      let here_on : on l.leaf ≡ true = second_of (stays g r l.leaf) (on l.leaf) l.member in
      elim (open_or_not (stays g r) (slice_index_or g l.leaf [])) [
        | inr shut ↦ absurd (l.other (sym (alone g r l.leaf d shut (both_stay g r l.leaf d n.cables (between g on r l.leaf d n here_on i) still s))))
        | inl w ↦
            let one = is_one (stays g r) (slice_index_or g l.leaf []) w.0 w.1 (λ q h. l.one q w.0 (on_too g on r l.leaf q n here_on h) (on_too g on r l.leaf w.0 n here_on w.1)) in
            absurd (let x = goes g r l.leaf one in let y = n.settled l.leaf (n.within l.leaf here_on) in let z : ⊥ = cc in z)
      ]
]
  where
    on_too : (g : Peers) (on : ℕ → Bool) (r d q : ℕ) → Ended g on r → on d ≡ true → is_open (stays g r) (peer g d q) ≡ true → is_open (λ k. stays g r k && on k) (peer g d q) ≡ true
    on_too g on r d q n h o =
        let w = open_to (stays g r) (peer g d q) o in
        opened (λ k. stays g r k && on k) (peer g d q) w.end w.is (both (stays g r w.end.device) (on w.end.device) w.member (bus_splits g on n.cables n.bus d q w.end w.is ∙ h))
