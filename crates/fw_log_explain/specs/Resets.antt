-- What is said of a bus reset: its self-ID packets, one by one, and its nodes.
use Rattle.std.specs.Prelude.{ℕ, zero, suc, ◌+◌, ◌*◌, ◌==◌, Bool, List, [], ◌++◌, length, flat_map, slice_get, slice_index, codes, decimal, Option, Some, None, if◌then◌else◌}
use Rattle.fw_phy.specs.declared.packet.PhyPacket.{PhyPacket}
use Rattle.fw_phy.specs.declared.packet.PhyPacket.TheVariants.{SelfId as FirstPacket, SelfIdMore as FurtherPacket, Config, LinkOn}
use Rattle.fw_phy.specs.declared.packet.SelfId.{SelfId}
use Rattle.fw_log_entry.specs.declared.nodes.NodeRow.{NodeRow}
use Rattle.fw_log_entry.specs.declared.entry.ResetEntry.{ResetEntry}
use Rattle.fw_text.specs.Texts.{named}
use Rattle.fw_log_names.specs.Names.{speed_name, port_name, device_name}

-- a port of a node, unless it is not there
unfoldable pub port_text : ℕ → ℕ → List ℕ
port_text number port = if port == 0 then [] else codes ", port " ++ decimal number ++ codes " " ++ named (port_name port) (codes "code") port

-- the first n ports of a packet, the first of which has this number
unfoldable pub first_ports : ℕ → List ℕ → ℕ → List ℕ
first_ports first ports zero = []
first_ports first ports (suc n) = first_ports first ports n ++ port_text (first + n) (slice_index ports n)

-- all ports of a packet
abbrev pub ports_text : ℕ → List ℕ → List ℕ
ports_text first ports = first_ports first ports (length ports)

-- the device that a node is, its kind, and its plugs
unfoldable pub row_text : Option NodeRow → List ℕ
row_text None = []
row_text (Some row) = codes "device " ++ decimal row.device ++ codes " " ++ named (device_name row.kind) (codes "kind") row.kind
    ++ codes ", plugs " ++ decimal row.outs ++ codes " out " ++ decimal row.ins ++ codes " in, "

-- a flag as words, or none
unfoldable pub flag_text : Bool → List ℕ → List ℕ → List ℕ
flag_text flag shown hidden = if flag then shown else hidden

-- the speed of a node
unfoldable pub speed_text : ℕ → List ℕ
speed_text speed = named (speed_name speed) (codes "speed") speed

-- whether a node's link is active: the L bit of its self-ID packet
unfoldable pub link_text : Bool → List ℕ
link_text link = flag_text link (codes ", link") (codes ", no link")

-- whether the node may become the resource manager: the contender bit of its self-ID packet
unfoldable pub contender_text : Bool → List ℕ
contender_text contender = flag_text contender (codes ", contender") []

-- the gap count of a self-ID packet
unfoldable pub gap_text : ℕ → List ℕ
gap_text gap = codes ", gap " ++ decimal gap

-- what a node says of itself
unfoldable pub self_text : SelfId → List ℕ
self_text s = speed_text s.speed ++ link_text s.link ++ contender_text s.contender ++ gap_text s.gap ++ ports_text 0 s.ports

-- the number of a node
unfoldable pub number_text : ℕ → List ℕ
number_text number = codes "; node " ++ decimal number ++ codes ": "

-- the first self-ID packet of a node: its device and what it says of itself
unfoldable pub first_id_text : List NodeRow → SelfId → List ℕ
first_id_text rows s = number_text s.phy ++ row_text (slice_get rows s.phy) ++ self_text s

-- a self-ID packet: the node, its device and what it says, or further ports
unfoldable pub id_text : List NodeRow → PhyPacket → List ℕ
id_text rows (FirstPacket s) = first_id_text rows s
id_text rows (FurtherPacket s) = ports_text (3 + 8 * s.number) s.ports
id_text rows (Config root force_root set_gap gap) = []
id_text rows (LinkOn phy) = []

-- the node that is the isochronous resource manager, or that there is none
unfoldable pub manager_text : Option ℕ → List ℕ
manager_text None = codes "none"
manager_text (Some node) = codes "node " ++ decimal node

-- the number of a bus reset
unfoldable pub epoch_text : ℕ → List ℕ
epoch_text epoch = codes "bus reset epoch " ++ decimal epoch

-- the root of a bus reset
unfoldable pub root_text : ℕ → List ℕ
root_text root = codes ", root node " ++ decimal root

-- the isochronous resource manager that a bus reset has found
unfoldable pub resource_manager_text : Option ℕ → List ℕ
resource_manager_text manager = codes ", resource manager " ++ manager_text manager

-- the node that began the bus reset
unfoldable pub initiator_text : ℕ → List ℕ
initiator_text initiator = codes ", initiator node " ++ decimal initiator

-- a bus reset, with the self-ID packets
unfoldable pub reset_text : ResetEntry → List ℕ
reset_text r = epoch_text r.epoch ++ root_text r.root ++ resource_manager_text r.manager ++ initiator_text r.initiator ++ flat_map (id_text r.nodes) r.ids

-- a bus reset after its number
unfoldable pub later_text : ResetEntry → List ℕ
later_text r = root_text r.root ++ resource_manager_text r.manager ++ initiator_text r.initiator ++ flat_map (id_text r.nodes) r.ids
