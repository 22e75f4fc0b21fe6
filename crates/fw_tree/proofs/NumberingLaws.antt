-- What a numbering says of its devices.
use Rattle.fw_tree.proofs.Common.{◌≡◌, inl, inr, ℕ, ◌<◌, ◌≤◌, ◌+◌, ◌&&◌, List, length, Option, Some, None, Bool, true, false, take, arith, sym, ap, subst, ◌∙◌, cases_eq, PhyFacts, Peers, IsOnBus}
use Rattle.fw_tree.proofs.Common.{AreNodes, number_at, has_number, facts_at, Topology, IsSound}
use Rattle.std.proofs.Common.{◌↔◌}
use Rattle.std.proofs.lemmas.List.{get_or-take}
use Rattle.fw_tree.specs.declared.numbering.Numbering.{Numbering}
use Rattle.fw_tree.specs.Numbering.{IsNumbering, Contends, IsGreatest, IsManager}
use Rattle.fw_tree.proofs.ForestLaws.{both, first_of, second_of}
use Rattle.fw_tree.proofs.CountLaws.{counted_most, there}
use Rattle.fw_tree.proofs.SelfIdLaws.{shorter_than}
use Rattle.fw_tree.proofs.TreeLaws.{placed_of}

pub count_most : (p : Topology) (n : Numbering) → IsNumbering p n → n.count ≤ 63
count_most p n h = let m = counted_most (has_number n.number) 63 in let e = h.count in omega arith

-- a device that has a number is one of the devices
pub placed : (p : Topology) (n : Numbering) → IsSound p → IsNumbering p n → (d : ℕ) → has_number n.number d ≡ true → d < length p.devices
placed p n s h d has = placed_of p.devices p.cables n.root n.number s h.some h.numbers d has

-- a device has a number exactly if it is on the bus
pub has_on_bus : (p : Topology) (n : Numbering) → IsNumbering p n → (d : ℕ) → (has_number n.number d ≡ true) ↔ IsOnBus p.cables d
has_on_bus p n h d = (λ e. h.numbers.only d e, λ w. there (number_at n.number d) _ (h.numbers.places d w))

-- a device that has a number is one of the first, those that are there
pub low_of : (fs : List PhyFacts) (m : ℕ) (g : Peers) (p : Topology) (n : Numbering) → record { devices = take m fs; cables = g } ≡ p → IsSound (record { devices = take m fs; cables = g })
    → IsNumbering p n → (d : ℕ) → has_number n.number d ≡ true → d < m
low_of fs m g p n same sound h d has =
    let P : Topology → Type 0 = IsSound in
    let Q : Topology → Type 0 = λ q. d < length q.devices in
    shorter_than fs m d (subst Q (sym same) (placed p n (subst P same sound) h d has))

-- the greatest of those below the next number
pub greatest_first : (fs : List PhyFacts) (number : List (Option ℕ)) → IsGreatest fs number 0 None
greatest_first fs number d n low h = omega arith

pub greatest_yes : (fs : List PhyFacts) (number : List (Option ℕ)) (d n : ℕ) → number_at number d ≡ Some n → ((facts_at fs d).link && (facts_at fs d).contender) ≡ true
    → IsGreatest fs number (n + 1) (Some d)
greatest_yes fs number d n at h = (
  n,
  omega arith,
  record { numbered = at; link = first_of (facts_at fs d).link (facts_at fs d).contender h; contender = second_of (facts_at fs d).link (facts_at fs d).contender h },
  λ e m low k. omega arith,
)

-- a device that contends below the next number does so below this one, if this one's does not
was_below : (fs : List PhyFacts) (number : List (Option ℕ)) (d n e m : ℕ) → ((d e n : ℕ) → number_at number d ≡ Some n → number_at number e ≡ Some n → d ≡ e) → number_at number d ≡ Some n
    → ((facts_at fs d).link && (facts_at fs d).contender) ≡ false → Contends fs number e m → m < n + 1 → m < n
was_below fs number d n e m one at h k low = elim (cases_eq m n) [
  | inr differ ↦ omega arith
  | inl same ↦
      let here : number_at number e ≡ Some n = rw same at k.numbered in
      let device : e ≡ d = one e d n here at in
      absurd (let x = both (facts_at fs e).link (facts_at fs e).contender k.link k.contender in let y : ((facts_at fs d).link && (facts_at fs d).contender) ≡ true = rw device at x in let z : ⊥ = cc in
      z)
]

pub greatest_no : (fs : List PhyFacts) (number : List (Option ℕ)) (d n : ℕ) (o : Option ℕ) → ((d e n : ℕ) → number_at number d ≡ Some n → number_at number e ≡ Some n → d ≡ e)
    → number_at number d ≡ Some n → ((facts_at fs d).link && (facts_at fs d).contender) ≡ false → IsGreatest fs number n o → IsGreatest fs number (n + 1) o
greatest_no fs number d n None one at h g = λ e m low k. g e m (was_below fs number d n e m one at h k low) k
greatest_no fs number d n (Some a) one at h g = (g.0, omega (arith, g.1), g.2, λ e m low k. g.3 e m (was_below fs number d n e m one at h k low) k)

-- the facts of the devices alone
fewer : (fs : List PhyFacts) (number : List (Option ℕ)) (m : ℕ) → ((d : ℕ) → has_number number d ≡ true → d < m) → (d n : ℕ) → Contends (take m fs) number d n → Contends fs number d n
fewer fs number m low d n k =
    let same : facts_at (take m fs) d ≡ facts_at fs d = get_or-take m fs d (record { ports = 0; speed = 0; link = false; contender = false }) (low d (there (number_at number d) n k.numbered)) in
    record { numbered = k.numbered; link = ap (λ f. link_of f) (sym same) ∙ k.link; contender = ap (λ f. contends f) (sym same) ∙ k.contender }
  where
    link_of : PhyFacts → Bool
    link_of f = f.link

    contends : PhyFacts → Bool
    contends f = f.contender

more : (fs : List PhyFacts) (number : List (Option ℕ)) (m : ℕ) → ((d : ℕ) → has_number number d ≡ true → d < m) → (d n : ℕ) → Contends fs number d n → Contends (take m fs) number d n
more fs number m low d n k =
    let same : facts_at (take m fs) d ≡ facts_at fs d = get_or-take m fs d (record { ports = 0; speed = 0; link = false; contender = false }) (low d (there (number_at number d) n k.numbered)) in
    record { numbered = k.numbered; link = ap (λ f. link_of f) same ∙ k.link; contender = ap (λ f. contends f) same ∙ k.contender }
  where
    link_of : PhyFacts → Bool
    link_of f = f.link

    contends : PhyFacts → Bool
    contends f = f.contender

pub manager_of : (fs : List PhyFacts) (number : List (Option ℕ)) (m count : ℕ) (o : Option ℕ) → ((d : ℕ) → has_number number d ≡ true → d < m) → AreNodes number count → IsGreatest fs number count o
    → IsManager (take m fs) number o
manager_of fs number m count None low nodes g = λ d n k. g d n (nodes.below d n k.numbered) (fewer fs number m low d n k)
manager_of fs number m count (Some a) low nodes g = (g.0, more fs number m low a g.0 g.2, λ e n k. g.3 e n (nodes.below e n k.numbered) (fewer fs number m low e n k))
