-- What holds of every bus reset: laws that the functions of this crate promise.
use Rattle.std.specs.Prelude.{◌≡◌, ℕ, List, Some, map}
use Rattle.fw_phy.specs.declared.packet.PhyPacket.{PhyPacket}
use Rattle.fw_phy.specs.Phy.{begun_by}
use Rattle.fw_tree.specs.declared.numbering.Numbering.{Numbering}
use Rattle.fw_tree.specs.Numbers.{number_at}
use Rattle.fw_tree.specs.Numbering.{IsNumbering}
use Rattle.fw_tree.specs.SelfIds.{ArePackets}
use Rattle.fw_tree.specs.Topology.{Topology}

-- the self-ID packets of a bus reset that another device begins are the same but for the initiated_reset bit
abbrev pub AnotherInitiatorChangesOneBit : Type 0
AnotherInitiatorChangesOneBit =
    (p : Topology) (n : Numbering) (i d node : ℕ) (ids : List PhyPacket) → IsNumbering p n → number_at n.number d ≡ Some node
    → ArePackets p.devices p.cables n.number n.parent_port i n.count ids
    → ArePackets p.devices p.cables n.number n.parent_port d n.count (map (begun_by node) ids)
