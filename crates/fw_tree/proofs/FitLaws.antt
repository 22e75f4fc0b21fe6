-- The numbers of each self-ID packet fit their fields.
use Rattle.fw_tree.proofs.Common.{ℕ, zero, suc, ◌<◌, ◌≤◌, ◌+◌, nat_lt, List, [], ◌∷◌, ◌++◌, Option, Some, None, Bool, true, false, slice_index_or, if◌then◌else◌, arith, refl, sym, subst, ◌==◌}
use Rattle.fw_tree.proofs.Common.{PhyPacket, End, PhyFacts, Peers, number_at, facts_at, ArePackets}
use Rattle.std.proofs.Common.{rules}
use Rattle.std.proofs.lemmas.List.Elements.{All-nil, All-append, All-push}
use Rattle.std.specs.List.{All}
use Rattle.fw_phy.specs.declared.packet.PhyPacket.TheVariants.{SelfId, SelfIdMore}
use Rattle.fw_phy.specs.Phy.{Fits}
use Rattle.fw_tree.specs.Topology.{AreDevices}
use Rattle.fw_tree.specs.SelfIds.{cable_code, port_code, first_port, first_packet, more_packet, further_packet, node_packets, no_node, node}

pub speed_low : (fs : List PhyFacts) (d : ℕ) → AreDevices fs → (facts_at fs d).speed ≤ 2
speed_low [] d a = omega arith
speed_low (f ∷ fs) zero a = a.2
speed_low (f ∷ fs) (suc d) a = speed_low fs d a.3

cable_low : (o : Option End) (parent : Option ℕ) (p : ℕ) → cable_code o parent p < 4
cable_low None parent p = omega arith
cable_low (Some e) None p = omega arith
cable_low (Some e) (Some q) p = of_test (p == q)
  where
    of_test : (b : Bool) → (if b then 2 else 3) < 4
    of_test true = omega arith
    of_test false = omega arith

code_low : (ports : ℕ) (cables : List (Option End)) (parent : Option ℕ) (p : ℕ) → port_code ports cables parent p < 4
code_low ports cables parent p = of_test (nat_lt p ports) (cable_code (slice_index_or cables p None) parent p) (cable_low (slice_index_or cables p None) parent p)
  where
    of_test : (b : Bool) (n : ℕ) → n < 4 → (if b then n else 0) < 4
    of_test true n h = h
    of_test false n h = omega arith

self_fits : (phy speed a b c : ℕ) (link contender initiator more : Bool) → phy < 64 → speed ≤ 2 → a < 4 → b < 4 → c < 4
    → Fits (SelfId (record { phy = phy; link = link; gap = 63; speed = speed; delay = 0; contender = contender; power = 0; ports = a ∷ b ∷ c ∷ []; initiator = initiator; more = more }))
self_fits phy speed a b c link contender initiator more h k x y z = record { fields = search rules; shape = refl }

more_fits : (phy number a b c d e f g h : ℕ) (more : Bool) → phy < 64 → number ≤ 2 → a < 4 → b < 4 → c < 4 → d < 4 → e < 4 → f < 4 → g < 4 → h < 4
    → Fits (SelfIdMore (record { phy = phy; number = number; ports = a ∷ b ∷ c ∷ d ∷ e ∷ f ∷ g ∷ h ∷ []; more = more }))
more_fits phy number a b c d e f g h more low few s t u v w x y z = record { fields = search rules; shape = (refl, few) }

one_or_none : (b : Bool) (p : PhyPacket) → Fits p → All Fits (if b then p ∷ [] else [])
one_or_none true p h = All-push Fits [] p (All-nil Fits) h
one_or_none false p h = All-nil Fits

further_fits : (f : PhyFacts) (cables : List (Option End)) (parent : Option ℕ) (phy number : ℕ) → phy < 64 → number ≤ 2 → All Fits (further_packet f cables parent phy number)
further_fits f cables parent phy number low few =
    let at = first_port number in
    let code = code_low f.ports cables parent in
    one_or_none (nat_lt at f.ports) (more_packet f cables parent phy number)
    (more_fits phy number (port_code f.ports cables parent at) (port_code f.ports cables parent (at + 1)) (port_code f.ports cables parent (at + 2)) (port_code f.ports cables parent (at + 3))
    (port_code f.ports cables parent (at + 4)) (port_code f.ports cables parent (at + 5)) (port_code f.ports cables parent (at + 6)) (port_code f.ports cables parent (at + 7))
    (nat_lt (at + 8) f.ports) low few (code at) (code (at + 1)) (code (at + 2)) (code (at + 3)) (code (at + 4)) (code (at + 5)) (code (at + 6)) (code (at + 7)))

node_fits : (f : PhyFacts) (cables : List (Option End)) (parent : Option ℕ) (phy : ℕ) (initiator : Bool) → phy < 64 → f.speed ≤ 2 → All Fits (node_packets f cables parent phy initiator)
node_fits f cables parent phy initiator low speed =
    let code = code_low f.ports cables parent in
    let first : All Fits (first_packet f cables parent phy initiator ∷ []) = All-push Fits [] (first_packet f cables parent phy initiator) (All-nil Fits)
    (self_fits phy f.speed (port_code f.ports cables parent 0) (port_code f.ports cables parent 1) (port_code f.ports cables parent 2) f.link f.contender initiator (nat_lt 3 f.ports) low speed
    (code 0) (code 1) (code 2)) in
    let a = further_packet f cables parent phy 0 in
    let b = further_packet f cables parent phy 1 in
    let c = further_packet f cables parent phy 2 in
    All-append Fits (first_packet f cables parent phy initiator ∷ [] ++ a ++ b) c
    (All-append Fits (first_packet f cables parent phy initiator ∷ [] ++ a) b
    (All-append Fits (first_packet f cables parent phy initiator ∷ []) a first (further_fits f cables parent phy 0 low (omega arith))) (further_fits f cables parent phy 1 low (omega arith)))
    (further_fits f cables parent phy 2 low (omega arith))

pub packets_fit : (fs : List PhyFacts) (g : Peers) (number parents : List (Option ℕ)) (i n : ℕ) (ps : List PhyPacket) → AreDevices fs → n ≤ 63 → ArePackets fs g number parents i n ps → All Fits ps
packets_fit fs g number parents i n ps devices few no_node = All-nil Fits
packets_fit fs g number parents i n ps devices few (node {n = k} {ps = qs} a d h e) =
    let P : List PhyPacket → Type 0 = All Fits in
    subst P (sym e) (All-append Fits qs (node_packets (facts_at fs d) (slice_index_or g d []) (number_at parents d) k (d == i)) (packets_fit fs g number parents i k qs devices (omega arith) a)
    (node_fits (facts_at fs d) (slice_index_or g d []) (number_at parents d) k (d == i) (omega arith) (speed_low fs d devices)))
