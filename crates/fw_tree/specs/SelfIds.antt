-- The packets of self-identification (IEEE 1394-1995, self-ID packets).
use Rattle.std.specs.Prelude.{◌≡◌, ℕ, suc, ◌+◌, ◌*◌, ◌==◌, nat_lt, List, [], ◌∷◌, ◌++◌, Option, Some, None, Bool, false, slice_index_or, if◌then◌else◌}
use Rattle.fw_phy.specs.declared.packet.PhyPacket.{PhyPacket}
use Rattle.fw_phy.specs.declared.packet.PhyPacket.TheVariants.{SelfId, SelfIdMore}
use Rattle.fw_tree.specs.declared.facts.End.{End}
use Rattle.fw_tree.specs.declared.facts.PhyFacts.{PhyFacts}
use Rattle.fw_tree.specs.Cables.{Peers}
use Rattle.fw_tree.specs.Numbers.{number_at}

-- the code of a port: 2 to the parent, 3 to a child, 1 if no cable is
abbrev pub cable_code : Option End → Option ℕ → ℕ → ℕ
cable_code None parent p = 1
cable_code (Some e) None p = 3
cable_code (Some e) (Some q) p = if p == q then 2 else 3

-- the same, and 0 if the device has no such port
abbrev pub port_code : ℕ → List (Option End) → Option ℕ → ℕ → ℕ
port_code ports cables parent p = if nat_lt p ports then cable_code (slice_index_or cables p None) parent p else 0

-- packet zero of a node: gap count 63, delay and power class 0 (own)
abbrev pub first_packet : PhyFacts → List (Option End) → Option ℕ → ℕ → Bool → PhyPacket
first_packet f cables parent phy initiator = SelfId (record {
  phy = phy;
  link = f.link;
  gap = 63;
  speed = f.speed;
  delay = 0;
  contender = f.contender;
  power = 0;
  ports = port_code f.ports cables parent 0 ∷ port_code f.ports cables parent 1 ∷ port_code f.ports cables parent 2 ∷ [];
  initiator = initiator;
  more = nat_lt 3 f.ports;
})

-- the first of the eight ports that an extended packet holds
abbrev pub first_port : ℕ → ℕ
first_port number = 3 + 8 * number

-- an extended packet of a node
abbrev pub more_packet : PhyFacts → List (Option End) → Option ℕ → ℕ → ℕ → PhyPacket
more_packet f cables parent phy number =
    let at = first_port number in
    SelfIdMore (record {
      phy = phy;
      number = number;
      ports = port_code f.ports cables parent at ∷ port_code f.ports cables parent (at + 1) ∷ port_code f.ports cables parent (at + 2) ∷ port_code f.ports cables parent (at + 3)
          ∷ port_code f.ports cables parent (at + 4) ∷ port_code f.ports cables parent (at + 5) ∷ port_code f.ports cables parent (at + 6) ∷ port_code f.ports cables parent (at + 7) ∷ [];
      more = nat_lt (at + 8) f.ports;
    })

-- an extended packet, if the device has the port at which it begins
abbrev pub further_packet : PhyFacts → List (Option End) → Option ℕ → ℕ → ℕ → List PhyPacket
further_packet f cables parent phy number = if nat_lt (first_port number) f.ports then more_packet f cables parent phy number ∷ [] else []

-- the fewest packets that hold the device's ports
abbrev pub node_packets : PhyFacts → List (Option End) → Option ℕ → ℕ → Bool → List PhyPacket
node_packets f cables parent phy initiator = first_packet f cables parent phy initiator ∷ [] ++ further_packet f cables parent phy 0 ++ further_packet f cables parent phy 1
    ++ further_packet f cables parent phy 2

-- the facts of a device
abbrev pub facts_at : List PhyFacts → ℕ → PhyFacts
facts_at devices d = slice_index_or devices d (record { ports = 0; speed = 0; link = false; contender = false })

-- the packets of the nodes below n, in order of node
pub data ArePackets (devices : List PhyFacts) (g : Peers) (number parents : List (Option ℕ)) (initiator : ℕ) : ℕ → List PhyPacket → Type 0 where
  no_node : ArePackets devices g number parents initiator 0 []
  node : {n : ℕ} {ps qs : List PhyPacket} → ArePackets devices g number parents initiator n ps → (d : ℕ) → number_at number d ≡ Some n
      → qs ≡ ps ++ node_packets (facts_at devices d) (slice_index_or g d []) (number_at parents d) n (d == initiator) → ArePackets devices g number parents initiator (suc n) qs
