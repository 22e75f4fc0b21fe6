-- What the packets of a numbering say of its nodes' speeds.
use Rattle.fw_map.proofs.Common.{◌≡◌, inl, inr, ℕ, ◌<◌, ◌≤◌, ◌==◌, nat_lt, List, [], ◌∷◌, ◌++◌, Option, Some, Bool, slice_index_or, if◌then◌else◌, arith, refl, sym, ap, ◌∙◌, cases_eq, nat_tests, true}
use Rattle.fw_map.proofs.Common.{false}
use Rattle.fw_map.proofs.Common.{PhyPacket, speed_of, number_at}
use Rattle.fw_phy.specs.declared.packet.PhyPacket.TheVariants.{SelfId, SelfIdMore, Config, LinkOn}
use Rattle.fw_tree.specs.declared.facts.End.{End}
use Rattle.fw_tree.specs.declared.facts.PhyFacts.{PhyFacts}
use Rattle.fw_tree.specs.Cables.{Peers}
use Rattle.fw_tree.specs.SelfIds.{first_port, more_packet, further_packet, node_packets, facts_at, ArePackets, node, no_node}

-- the speed in the first packet zero of a node, or another if it has none
speed_or : ℕ → List PhyPacket → ℕ → ℕ
speed_or n [] z = z
speed_or n (SelfId s ∷ ps) z = if s.phy == n then s.speed else speed_or n ps z
speed_or n (SelfIdMore s ∷ ps) z = speed_or n ps z
speed_or n (Config a b c d ∷ ps) z = speed_or n ps z
speed_or n (LinkOn a ∷ ps) z = speed_or n ps z

speed_is : (n : ℕ) (ps : List PhyPacket) → speed_of n ps ≡ speed_or n ps 0
unfolding speed_or
speed_is n [] = refl
speed_is n (SelfId s ∷ ps) = ap (λ z. if s.phy == n then s.speed else z) (speed_is n ps)
speed_is n (SelfIdMore s ∷ ps) = speed_is n ps
speed_is n (Config a b c d ∷ ps) = speed_is n ps
speed_is n (LinkOn a ∷ ps) = speed_is n ps

speed_append : (n : ℕ) (ps qs : List PhyPacket) (z : ℕ) → speed_or n (ps ++ qs) z ≡ speed_or n ps (speed_or n qs z)
unfolding speed_or
speed_append n [] qs z = refl
speed_append n (SelfId s ∷ ps) qs z = ap (λ y. if s.phy == n then s.speed else y) (speed_append n ps qs z)
speed_append n (SelfIdMore s ∷ ps) qs z = speed_append n ps qs z
speed_append n (Config a b c d ∷ ps) qs z = speed_append n ps qs z
speed_append n (LinkOn a ∷ ps) qs z = speed_append n ps qs z

speed_further : (f : PhyFacts) (cables : List (Option End)) (parent : Option ℕ) (k number v z : ℕ) → speed_or v (further_packet f cables parent k number) z ≡ z
unfolding speed_or
speed_further f cables parent k number v z = step (nat_lt (first_port number) f.ports)
  where
    step : (b : Bool) → speed_or v (if b then more_packet f cables parent k number ∷ [] else []) z ≡ z
    step true = refl
    step false = refl

speed_node : (f : PhyFacts) (cables : List (Option End)) (parent : Option ℕ) (k : ℕ) (b : Bool) (v z : ℕ) → speed_or v (node_packets f cables parent k b) z ≡ (if k == v then f.speed else z)
unfolding speed_or
speed_node f cables parent k b v z =
    let x = further_packet f cables parent k 0 in
    let y = further_packet f cables parent k 1 in
    let w = further_packet f cables parent k 2 in
    ap (λ u. if k == v then f.speed else u) (speed_append v (x ++ y) w z
    ∙ (speed_append v x y (speed_or v w z) ∙ (speed_further f cables parent k 0 v (speed_or v y (speed_or v w z))
    ∙ (speed_further f cables parent k 1 v (speed_or v w z) ∙ speed_further f cables parent k 2 v z))))

if_same : (k v a b : ℕ) → k ≡ v → (if k == v then a else b) ≡ a
if_same k v a b h = grind (arith, nat_tests)

if_differ : (k v a b : ℕ) → (k ≡ v → ⊥) → (if k == v then a else b) ≡ b
if_differ k v a b h = grind (arith, nat_tests)

no_speed : (fs : List PhyFacts) (g : Peers) (number parents : List (Option ℕ)) (i n v z : ℕ) (ps : List PhyPacket) → n ≤ v → ArePackets fs g number parents i n ps → speed_or v ps z ≡ z
unfolding speed_or
no_speed fs g number parents i n v z ps l no_node = refl
no_speed fs g number parents i n v z ps l (node {n = k} {ps = qs} a d h e) =
    let own = node_packets (facts_at fs d) (slice_index_or g d []) (number_at parents d) k (d == i) in
    ap (λ xs. speed_or v xs z) e ∙ (speed_append v qs own z ∙ (no_speed fs g number parents i k v (speed_or v own z) qs (omega arith) a
    ∙ (speed_node (facts_at fs d) (slice_index_or g d []) (number_at parents d) k (d == i) v z ∙ if_differ k v (facts_at fs d).speed z (λ s. omega arith))))

-- the speed of a node is that of its device
pub speeds_are : (fs : List PhyFacts) (g : Peers) (number parents : List (Option ℕ)) (i n v d : ℕ) (ps : List PhyPacket)
    → ((d e n : ℕ) → number_at number d ≡ Some n → number_at number e ≡ Some n → d ≡ e) → v < n → number_at number d ≡ Some v → ArePackets fs g number parents i n ps
    → speed_of v ps ≡ (facts_at fs d).speed
speeds_are fs g number parents i n v d ps one l at no_node = absurd (omega arith)
speeds_are fs g number parents i n v d ps one l at (node {n = k} {ps = qs} a c h e) =
    let own = node_packets (facts_at fs c) (slice_index_or g c []) (number_at parents c) k (c == i) in
    speed_is v ps ∙ (ap (λ xs. speed_or v xs 0) e ∙ (speed_append v qs own 0 ∙ elim (cases_eq k v) [
      | inl same ↦
          let there : c ≡ d = one c d v (h ∙ ap (λ m. Some m) same) at in
          no_speed fs g number parents i k v (speed_or v own 0) qs (omega arith) a
          ∙ (speed_node (facts_at fs c) (slice_index_or g c []) (number_at parents c) k (c == i) v 0 ∙ (if_same k v (facts_at fs c).speed 0 same ∙ ap (λ x. speed_in (facts_at fs x)) there))
      | inr differ ↦
          ap (λ z. speed_or v qs z) (speed_node (facts_at fs c) (slice_index_or g c []) (number_at parents c) k (c == i) v 0 ∙ if_differ k v (facts_at fs c).speed 0 differ)
          ∙ (sym (speed_is v qs) ∙ speeds_are fs g number parents i k v d qs one (omega arith) at a)
    ]))
  where
    speed_in : PhyFacts → ℕ
    speed_in f = f.speed
