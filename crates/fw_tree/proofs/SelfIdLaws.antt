-- The packets of one node, one after another.
use Rattle.fw_tree.proofs.Common.{inl, inr, Bool, if◌then◌else◌, length, ◌+◌, ◌==◌, take, slice_index_or, Some, false, ◌≡◌, ℕ, ◌<◌, nat_lt, List, [], ◌∷◌, ◌++◌, Option, true, arith, refl, sym, ap}
use Rattle.fw_tree.proofs.Common.{◌∙◌, cases_eq, nat_tests, PhyPacket, End, PhyFacts, Peers, number_at, has_number, facts_at, ArePackets}
use Rattle.std.proofs.lemmas.Grind.{common_steps}
use Rattle.std.proofs.Common.{ap₂, map, add-one}
use Rattle.std.proofs.Common.{append_assoc}
use Rattle.std.proofs.lemmas.List.{get_or-take, map-append}
use Rattle.std.proofs.lemmas.Bool.{eq-eqb, ne_eqb}
use Rattle.std.proofs.lemmas.Option.{same_Some}
use Rattle.fw_phy.specs.Phy.{begun_by}
use Rattle.fw_tree.proofs.CountLaws.{there}
use Rattle.fw_tree.specs.SelfIds.{first_port, first_packet, more_packet, further_packet, node_packets, no_node, node}

is_below : (a b : ℕ) → a < b → nat_lt a b ≡ true
is_below a b h = grind (arith, nat_tests)

pub further_is : (f : PhyFacts) (cables : List (Option End)) (parent : Option ℕ) (phy number : ℕ) → first_port number < f.ports
    → further_packet f cables parent phy number ≡ more_packet f cables parent phy number ∷ []
further_is f cables parent phy number h = rw (is_below (first_port number) f.ports h) refl

pub four : (out a b c d x y z w : List PhyPacket) → x ≡ out ++ a → y ≡ x ++ b → z ≡ y ++ c → w ≡ z ++ d → w ≡ out ++ (a ++ b ++ c ++ d)
four out a b c d x y z w e f g h = h ∙ rw (g, f, e) (simp append_assoc)

pub one_more : (fs : List PhyFacts) (g : Peers) (number parents : List (Option ℕ)) (i n d : ℕ) (ps qs : List PhyPacket) → number_at number d ≡ Some n
    → qs ≡ ps ++ node_packets (facts_at fs d) (slice_index_or g d []) (number_at parents d) n (d == i) → ArePackets fs g number parents i n ps → ArePackets fs g number parents i (n + 1) qs
one_more fs g number parents i n d ps qs h e a = rw add-one (node a d h e)

-- the facts of devices that are there are those of the first ones
pub of_first : (fs : List PhyFacts) (g : Peers) (number parents : List (Option ℕ)) (i m n : ℕ) (ps : List PhyPacket) → ((d : ℕ) → has_number number d ≡ true → d < m)
    → ArePackets fs g number parents i n ps → ArePackets (take m fs) g number parents i n ps
of_first fs g number parents i m n ps low no_node = no_node
of_first fs g number parents i m n ps low (node {n = k} {ps = qs} a d h e) =
    let same = get_or-take m fs d (record { ports = 0; speed = 0; link = false; contender = false }) (low d (there (number_at number d) k h)) in
    node (of_first fs g number parents i m k qs low a) d h (e ∙ ap (λ f. qs ++ node_packets f (slice_index_or g d []) (number_at parents d) k (d == i)) (sym same))

pub shorter_than : (fs : List PhyFacts) (m d : ℕ) → d < length (take m fs) → d < m
shorter_than fs m d h = grind (arith, common_steps)

-- ---- another initiator

further_begun : (f : PhyFacts) (cables : List (Option End)) (parent : Option ℕ) (phy number n : ℕ)
    → map (begun_by n) (further_packet f cables parent phy number) ≡ further_packet f cables parent phy number
further_begun f cables parent phy number n = of_test (nat_lt (first_port number) f.ports)
  where
    of_test : (t : Bool) → map (begun_by n) (if t then more_packet f cables parent phy number ∷ [] else []) ≡ (if t then more_packet f cables parent phy number ∷ [] else [])
    of_test true = refl
    of_test false = refl

four_begun : (n : ℕ) (a b c d x : List PhyPacket) → map (begun_by n) a ≡ x → map (begun_by n) b ≡ b → map (begun_by n) c ≡ c → map (begun_by n) d ≡ d
    → map (begun_by n) (a ++ b ++ c ++ d) ≡ x ++ b ++ c ++ d
four_begun n a b c d x p q r s =
    let f = begun_by n in
    map-append f (a ++ b ++ c) d ∙ ap₂ (λ u v. u ++ v) (map-append f (a ++ b) c ∙ ap₂ (λ u v. u ++ v) (map-append f a b ∙ ap₂ (λ u v. u ++ v) p q) r) s

node_begun : (f : PhyFacts) (cables : List (Option End)) (parent : Option ℕ) (phy n : ℕ) (b : Bool)
    → map (begun_by n) (node_packets f cables parent phy b) ≡ node_packets f cables parent phy (phy == n)
node_begun f cables parent phy n b =
    four_begun n (first_packet f cables parent phy b ∷ []) (further_packet f cables parent phy 0) (further_packet f cables parent phy 1) (further_packet f cables parent phy 2)
    (first_packet f cables parent phy (phy == n) ∷ [])
    refl (further_begun f cables parent phy 0 n) (further_begun f cables parent phy 1 n) (further_begun f cables parent phy 2 n)

-- two nodes are one exactly if their devices are
same_test : (number : List (Option ℕ)) (d e n k : ℕ) → ((d e n : ℕ) → number_at number d ≡ Some n → number_at number e ≡ Some n → d ≡ e) → number_at number d ≡ Some n → number_at number e ≡ Some k
    → (k == n) ≡ (e == d)
same_test number d e n k one at_d at_e = elim (cases_eq k n) [
  | inl same ↦ let here : number_at number e ≡ Some n = rw (sym same) at_e in eq-eqb k n same ∙ sym (eq-eqb e d (one e d n here at_d))
  | inr differ ↦ ne_eqb k n differ ∙ sym (ne_eqb e d (λ same. differ (same_Some k n (sym at_e ∙ ap (number_at number) same ∙ at_d))))
]

-- the packets of a bus reset that another device begins
pub begun : (fs : List PhyFacts) (g : Peers) (number parents : List (Option ℕ)) (i d n k : ℕ) (ps : List PhyPacket) → ((d e n : ℕ) → number_at number d ≡ Some n → number_at number e ≡ Some n → d ≡ e)
    → number_at number d ≡ Some n → ArePackets fs g number parents i k ps → ArePackets fs g number parents d k (map (begun_by n) ps)
begun fs g number parents i d n k ps one at no_node = no_node
begun fs g number parents i d n k ps one at (node {n = m} {ps = qs} a e h is) =
    let f = facts_at fs e in
    let cables = slice_index_or g e [] in
    let parent = number_at parents e in
    node (begun fs g number parents i d n m qs one at a) e h
    (ap (map (begun_by n)) is ∙ map-append (begun_by n) qs (node_packets f cables parent m (e == i))
    ∙ ap (λ xs. map (begun_by n) qs ++ xs) (node_begun f cables parent m n (e == i) ∙ ap (node_packets f cables parent m) (same_test number d e n m one at h)))
