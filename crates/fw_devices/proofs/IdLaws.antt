-- The self-ID packets of the nodes: their order, how many they are, and the speeds that they show.
use Rattle.fw_devices.proofs.Common.{◌≡◌, inl, inr, ℕ, ◌+◌, ◌<◌, ◌≤◌, List, [], ◌∷◌, ◌++◌, length, Option, Some, None, Bool, true, false, arith, refl, sym, ap, ◌∙◌, cases_eq, cases_lt, number_at}
use Rattle.std.proofs.Common.{zero, suc, ◌*◌, ◌==◌, ◌&&◌, nat_lt}
use Rattle.std.proofs.Common.{slice_index_or, if◌then◌else◌, add-one, length-append}
use Rattle.std.proofs.lemmas.Bool.{ltb-true, lt-ltb, le-ltb, eq-eqb, eqb-true, ne_eqb}
use Rattle.fw_phy.specs.declared.packet.PhyPacket.{PhyPacket}
use Rattle.fw_phy.specs.declared.packet.PhyPacket.TheVariants.{SelfId, SelfIdMore, Config, LinkOn}
use Rattle.fw_phy.specs.declared.packet.SelfId.{SelfId as Zero}
use Rattle.fw_phy.specs.declared.packet.SelfIdMore.{SelfIdMore as Further}
use Rattle.fw_log_entry.specs.Log.{are_ids}
use Rattle.fw_log_entry.specs.Network.{speed_of}
use Rattle.fw_tree.specs.declared.facts.End.{End}
use Rattle.fw_tree.specs.declared.facts.PhyFacts.{PhyFacts}
use Rattle.fw_tree.specs.Cables.{Peers}
use Rattle.fw_tree.specs.Numbers.{AreNodes}
use Rattle.fw_tree.specs.SelfIds.{first_packet, more_packet, further_packet, node_packets, facts_at, ArePackets, no_node, node}
use Rattle.fw_tree.specs.Topology.{AreDevices}
use Rattle.fw_tree.proofs.FitLaws.{speed_low}

-- a packet and what follows it
goes_on : (here more x y u v z : Bool) → (here && (if more then x else y)) ≡ true → (x ≡ true → u ≡ z) → (y ≡ true → v ≡ z) → (here && (if more then u else v)) ≡ z
goes_on true true x y u v z h f g = f h
goes_on true false x y u v z h f g = g h
goes_on false more x y u v z h f g = cc

-- what follows the packets of the nodes below m is read from node m on
are_then : (ps qs : List PhyPacket) (k m n : ℕ) (next : Option ℕ) → are_ids k next ps m ≡ true → are_ids k next (ps ++ qs) n ≡ are_ids m None qs n
are_then [] qs k m n None h = ap (λ j. are_ids j None qs n) (eqb-true k m h)
are_then [] qs k m n (Some a) h = cc
are_then (SelfId s ∷ ps) qs k m n None h =
    goes_on (s.phy == k) s.more (are_ids k (Some 0) ps m) (are_ids (k + 1) None ps m) (are_ids k (Some 0) (ps ++ qs) n) (are_ids (k + 1) None (ps ++ qs) n) (are_ids m None qs n) h
    (are_then ps qs k m n (Some 0)) (are_then ps qs (k + 1) m n None)
are_then (SelfId s ∷ ps) qs k m n (Some a) h = cc
are_then (SelfIdMore s ∷ ps) qs k m n None h = cc
are_then (SelfIdMore s ∷ ps) qs k m n (Some a) h =
    goes_on ((s.phy == k) && (s.number == a)) s.more (are_ids k (Some (a + 1)) ps m) (are_ids (k + 1) None ps m) (are_ids k (Some (a + 1)) (ps ++ qs) n) (are_ids (k + 1) None (ps ++ qs) n)
    (are_ids m None qs n) h
    (are_then ps qs k m n (Some (a + 1))) (are_then ps qs (k + 1) m n None)
are_then (Config a b c d ∷ ps) qs k m n None h = cc
are_then (Config a b c d ∷ ps) qs k m n (Some x) h = cc
are_then (LinkOn a ∷ ps) qs k m n None h = cc
are_then (LinkOn a ∷ ps) qs k m n (Some x) h = cc

taken : (here more x y : Bool) → here ≡ true → more ≡ true → x ≡ true → (here && (if more then x else y)) ≡ true
taken true true x y h m e = e
taken true false x y h m e = cc
taken false more x y h m e = cc

ended : (here more x y : Bool) → here ≡ true → more ≡ false → y ≡ true → (here && (if more then x else y)) ≡ true
ended true true x y h m e = cc
ended true false x y h m e = e
ended false more x y h m e = cc

further : Bool → Further → List PhyPacket
further there m = if there then SelfIdMore m ∷ [] else []

-- the packets of one node, by which of the further ones are there
in_order : (k : ℕ) (a b c : Bool) (s : Zero) (x y z : Further) → (s.phy == k) ≡ true → s.more ≡ a → ((x.phy == k) && (x.number == 0)) ≡ true → x.more ≡ b → ((y.phy == k) && (y.number == 1)) ≡ true
    → y.more ≡ c → ((z.phy == k) && (z.number == 2)) ≡ true → z.more ≡ false
    → (b ≡ true → a ≡ true) → (c ≡ true → b ≡ true) → are_ids k None (SelfId s ∷ [] ++ further a x ++ further b y ++ further c z) (k + 1) ≡ true
unfolding further
in_order k false false false s x y z h1 m1 h2 m2 h3 m3 h4 m4 f g = ended (s.phy == k) s.more _ _ h1 m1 (eq-eqb (k + 1) (k + 1) refl)
in_order k true false false s x y z h1 m1 h2 m2 h3 m3 h4 m4 f g = taken (s.phy == k) s.more _ _ h1 m1 (ended ((x.phy == k) && (x.number == 0)) x.more _ _ h2 m2 (eq-eqb (k + 1) (k + 1) refl))
in_order k true true false s x y z h1 m1 h2 m2 h3 m3 h4 m4 f g =
    taken (s.phy == k) s.more _ _ h1 m1 (taken ((x.phy == k) && (x.number == 0)) x.more _ _ h2 m2 (ended ((y.phy == k) && (y.number == 1)) y.more _ _ h3 m3 (eq-eqb (k + 1) (k + 1) refl)))
in_order k true true true s x y z h1 m1 h2 m2 h3 m3 h4 m4 f g =
    taken (s.phy == k) s.more _ _ h1 m1 (taken ((x.phy == k) && (x.number == 0)) x.more _ _ h2 m2
    (taken ((y.phy == k) && (y.number == 1)) y.more _ _ h3 m3 (ended ((z.phy == k) && (z.number == 2)) z.more _ _ h4 m4 (eq-eqb (k + 1) (k + 1) refl))))
in_order k false true c s x y z h1 m1 h2 m2 h3 m3 h4 m4 f g = absurd (let e = f refl in let w : ⊥ = cc in w)
in_order k a false true s x y z h1 m1 h2 m2 h3 m3 h4 m4 f g = absurd (let e = g refl in let w : ⊥ = cc in w)

fewer_tests : (a b n : ℕ) → a < b → nat_lt b n ≡ true → nat_lt a n ≡ true
fewer_tests a b n less h = lt-ltb a n (let k = ltb-true b n h in omega arith)

named : (k n : ℕ) → ((k == k) && (n == n)) ≡ true
named k n = let a = eq-eqb k k refl in let b = eq-eqb n n refl in cc

-- what a packet holds
zero_in : PhyPacket → Zero
zero_in (SelfId s) = s
zero_in _ = record { phy = 0; link = false; gap = 0; speed = 0; delay = 0; contender = false; power = 0; ports = []; initiator = false; more = false }

further_in : PhyPacket → Further
further_in (SelfIdMore m) = m
further_in _ = record { phy = 0; number = 0; ports = []; more = false }

node_ids : (f : PhyFacts) (cables : List (Option End)) (parent : Option ℕ) (phy : ℕ) (initiator : Bool) → f.ports ≤ 27 → are_ids phy None (node_packets f cables parent phy initiator) (phy + 1) ≡ true
unfolding further zero_in further_in
node_ids f cables parent phy initiator few =
    let own : ℕ → Further = λ number. further_in (more_packet f cables parent phy number) in
    in_order phy (nat_lt 3 f.ports) (nat_lt 11 f.ports) (nat_lt 19 f.ports) (zero_in (first_packet f cables parent phy initiator)) (own 0) (own 1) (own 2) (eq-eqb phy phy refl) refl (named phy 0) refl
    (named phy 1) refl (named phy 2) (le-ltb 27 f.ports few)
    (fewer_tests 3 11 f.ports (omega arith)) (fewer_tests 11 19 f.ports (omega arith))

pub ports_low : (fs : List PhyFacts) (d : ℕ) → AreDevices fs → (facts_at fs d).ports ≤ 27
ports_low [] d a = omega arith
ports_low (f ∷ fs) zero a = a.1
ports_low (f ∷ fs) (suc d) a = ports_low fs d a.3

-- the packets of all nodes are those of the nodes below the count
pub packets_in_order : (fs : List PhyFacts) (g : Peers) (number parents : List (Option ℕ)) (i n : ℕ) (ps : List PhyPacket) → AreDevices fs → ArePackets fs g number parents i n ps
    → are_ids 0 None ps n ≡ true
packets_in_order fs g number parents i n ps devices no_node = refl
packets_in_order fs g number parents i n ps devices (node {n = k} {ps = qs} a d h e) =
    let own = node_packets (facts_at fs d) (slice_index_or g d []) (number_at parents d) k (d == i) in
    let all : are_ids 0 None (qs ++ own) (k + 1) ≡ true = are_then qs own 0 k (k + 1) None (packets_in_order fs g number parents i k qs devices a)
    ∙ node_ids (facts_at fs d) (slice_index_or g d []) (number_at parents d) k (d == i) (ports_low fs d devices) in
    ap (λ t. are_ids 0 None t (suc k)) e ∙ ap (λ m. are_ids 0 None (qs ++ own) m) (sym (add-one k)) ∙ all

-- a node has at most four packets
at_most_one : (b : Bool) (p : PhyPacket) → length (if b then p ∷ [] else []) ≤ 1
at_most_one true p = omega arith
at_most_one false p = omega arith

node_few : (f : PhyFacts) (cables : List (Option End)) (parent : Option ℕ) (phy : ℕ) (initiator : Bool) → length (node_packets f cables parent phy initiator) ≤ 4
node_few f cables parent phy initiator =
    let first = first_packet f cables parent phy initiator ∷ [] in
    let a = further_packet f cables parent phy 0 in
    let b = further_packet f cables parent phy 1 in
    let c = further_packet f cables parent phy 2 in
    let x = at_most_one (nat_lt 3 f.ports) (more_packet f cables parent phy 0) in
    let y = at_most_one (nat_lt 11 f.ports) (more_packet f cables parent phy 1) in
    let z = at_most_one (nat_lt 19 f.ports) (more_packet f cables parent phy 2) in
    omega (arith, length-append (first ++ a ++ b) c, length-append (first ++ a) b, length-append first a)

pub packets_few : (fs : List PhyFacts) (g : Peers) (number parents : List (Option ℕ)) (i n : ℕ) (ps : List PhyPacket) → ArePackets fs g number parents i n ps → length ps ≤ 4 * n
packets_few fs g number parents i n ps no_node = omega arith
packets_few fs g number parents i n ps (node {n = k} {ps = qs} a d h e) =
    let own = node_packets (facts_at fs d) (slice_index_or g d []) (number_at parents d) k (d == i) in
    let size : length ps ≡ length (qs ++ own) = ap length e in
    omega (arith, packets_few fs g number parents i k qs a, node_few (facts_at fs d) (slice_index_or g d []) (number_at parents d) k (d == i), length-append qs own)

-- the speed in the first packet zero of a node, or another if it has none
speed_or : ℕ → List PhyPacket → ℕ → ℕ
speed_or n [] z = z
speed_or n (SelfId s ∷ ps) z = if s.phy == n then s.speed else speed_or n ps z
speed_or n (SelfIdMore s ∷ ps) z = speed_or n ps z
speed_or n (Config a b c d ∷ ps) z = speed_or n ps z
speed_or n (LinkOn a ∷ ps) z = speed_or n ps z

speed_is : (n : ℕ) (ps : List PhyPacket) → speed_of n ps ≡ speed_or n ps 0
unfolding speed_or
speed_is n [] = refl
speed_is n (SelfId s ∷ ps) = ap (λ z. if s.phy == n then s.speed else z) (speed_is n ps)
speed_is n (SelfIdMore s ∷ ps) = speed_is n ps
speed_is n (Config a b c d ∷ ps) = speed_is n ps
speed_is n (LinkOn a ∷ ps) = speed_is n ps

speed_append : (n : ℕ) (ps qs : List PhyPacket) (z : ℕ) → speed_or n (ps ++ qs) z ≡ speed_or n ps (speed_or n qs z)
unfolding speed_or
speed_append n [] qs z = refl
speed_append n (SelfId s ∷ ps) qs z = ap (λ y. if s.phy == n then s.speed else y) (speed_append n ps qs z)
speed_append n (SelfIdMore s ∷ ps) qs z = speed_append n ps qs z
speed_append n (Config a b c d ∷ ps) qs z = speed_append n ps qs z
speed_append n (LinkOn a ∷ ps) qs z = speed_append n ps qs z

speed_further : (n : ℕ) (b : Bool) (m : Further) (z : ℕ) → speed_or n (further b m) z ≡ z
unfolding speed_or further
speed_further n true m z = refl
speed_further n false m z = refl

speed_node : (n : ℕ) (f : PhyFacts) (cables : List (Option End)) (parent : Option ℕ) (phy : ℕ) (initiator : Bool) (z : ℕ)
    → speed_or n (node_packets f cables parent phy initiator) z ≡ (if phy == n then f.speed else z)
unfolding speed_or further
speed_node n f cables parent phy initiator z =
    let first = first_packet f cables parent phy initiator ∷ [] in
    let a = further_packet f cables parent phy 0 in
    let b = further_packet f cables parent phy 1 in
    let c = further_packet f cables parent phy 2 in
    speed_append n (first ++ a ++ b) c z ∙ ap (speed_or n (first ++ a ++ b)) (speed_further n (nat_lt 19 f.ports) _ z) ∙ speed_append n (first ++ a) b z
    ∙ ap (speed_or n (first ++ a)) (speed_further n (nat_lt 11 f.ports) _ z)
    ∙ speed_append n first a z ∙ ap (speed_or n first) (speed_further n (nat_lt 3 f.ports) _ z)

-- no packet is of a node from the count on
speed_past : (fs : List PhyFacts) (g : Peers) (number parents : List (Option ℕ)) (i n : ℕ) (ps : List PhyPacket) → ArePackets fs g number parents i n ps → (m z : ℕ) → n ≤ m → speed_or m ps z ≡ z
unfolding speed_or
speed_past fs g number parents i n ps no_node m z high = refl
speed_past fs g number parents i n ps (node {n = k} {ps = qs} a d h e) m z high =
    let f = facts_at fs d in
    let own = node_packets f (slice_index_or g d []) (number_at parents d) k (d == i) in
    ap (λ t. speed_or m t z) e ∙ speed_append m qs own z ∙ speed_past fs g number parents i k qs a m (speed_or m own z) (omega arith)
    ∙ speed_node m f (slice_index_or g d []) (number_at parents d) k (d == i) z ∙ ap (λ b. if b then f.speed else z) (ne_eqb k m (λ same. omega arith))

speed_shown : (fs : List PhyFacts) (g : Peers) (number parents : List (Option ℕ)) (i n : ℕ) (ps : List PhyPacket) → ((d e n : ℕ) → number_at number d ≡ Some n → number_at number e ≡ Some n → d ≡ e)
    → ArePackets fs g number parents i n ps
    → (d m z : ℕ) → m < n → number_at number d ≡ Some m → speed_or m ps z ≡ (facts_at fs d).speed
speed_shown fs g number parents i n ps one no_node d m z low at = absurd (omega arith)
speed_shown fs g number parents i n ps one (node {n = k} {ps = qs} a c h e) d m z low at =
    let f = facts_at fs c in
    let own = node_packets f (slice_index_or g c []) (number_at parents c) k (c == i) in
    ap (λ t. speed_or m t z) e ∙ speed_append m qs own z ∙ elim (cases_eq k m) [
      | inl same ↦
          let there : number_at number d ≡ Some k = at ∙ ap Some (sym same) in
          speed_past fs g number parents i k qs a m (speed_or m own z) (omega arith) ∙ speed_node m f (slice_index_or g c []) (number_at parents c) k (c == i) z
          ∙ ap (λ b. if b then f.speed else z) (eq-eqb k m same) ∙ ap (λ x. (facts_at fs x).speed) (one c d k h there)
      | inr differ ↦ speed_shown fs g number parents i k qs one a d m (speed_or m own z) (omega arith) at
    ]

-- each node's packets show its device's speed
pub speed_of_node : (fs : List PhyFacts) (g : Peers) (number parents : List (Option ℕ)) (i n : ℕ) (ps : List PhyPacket) → AreNodes number n → ArePackets fs g number parents i n ps → (d m : ℕ)
    → number_at number d ≡ Some m → speed_of m ps ≡ (facts_at fs d).speed
speed_of_node fs g number parents i n ps nodes a d m at = speed_is m ps ∙ speed_shown fs g number parents i n ps nodes.one a d m 0 (nodes.below d m at) at

-- and every speed fits
pub speeds_fit : (fs : List PhyFacts) (g : Peers) (number parents : List (Option ℕ)) (i n : ℕ) (ps : List PhyPacket) → AreDevices fs → AreNodes number n → ArePackets fs g number parents i n ps
    → (m : ℕ) → speed_of m ps < 4
speeds_fit fs g number parents i n ps devices nodes a m = elim (cases_lt m n) [
  | inl low ↦ let w = nodes.taken m low in let e = speed_of_node fs g number parents i n ps nodes a w.0 m w.1 in omega (arith, speed_low fs w.0 devices)
  | inr high ↦ let e = speed_is m ps in let z = speed_past fs g number parents i n ps a m 0 high in omega arith
]
