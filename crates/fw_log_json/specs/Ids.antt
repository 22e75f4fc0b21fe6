-- The objects of nodes and of self-ID packets (own).
use Rattle.std.specs.Prelude.{ℕ, ◌+◌, true, false, List, [], ◌∷◌, ◌++◌, map, codes, decimal}
use Rattle.fw_phy.specs.declared.packet.PhyPacket.{PhyPacket}
use Rattle.fw_phy.specs.declared.packet.PhyPacket.TheVariants.{SelfId, SelfIdMore, Config, LinkOn}
use Rattle.fw_log_entry.specs.declared.nodes.NodeRow.{NodeRow}
use Rattle.fw_log_names.specs.Names.{speed_name, port_name, device_name}
use Rattle.fw_log_json_packets.specs.Values.{field, array, code, name_value, flag_value}

-- the ports of a self-ID packet, as numbers
abbrev pub port_numbers : List ℕ → List ℕ
port_numbers ports = array (map decimal ports)

-- the names of the ports of a self-ID packet
abbrev pub port_names : List ℕ → List ℕ
port_names ports = array (map (λ p. name_value (port_name p)) ports)

-- the ports of a packet under their keys
abbrev pub port_fields : List ℕ → List ℕ
port_fields ports = field (codes ",\"port_status\":") (port_numbers ports) ++ field (codes ",\"port_status_name\":") (port_names ports)

-- the object of a self-ID packet; that of another PHY packet is empty
abbrev pub id_object : PhyPacket → List ℕ
id_object (SelfId s) =
    field (codes "{\"phy_id\":") (decimal s.phy) ++ field (codes ",\"extended\":") (flag_value false)
    ++ field (codes ",\"link_active\":") (flag_value s.link) ++ field (codes ",\"gap_count\":") (decimal s.gap)
    ++ code (codes ",\"scode\":") s.speed (codes ",\"scode_name\":") (speed_name s.speed)
    ++ field (codes ",\"delay\":") (decimal s.delay) ++ field (codes ",\"contender\":") (flag_value s.contender)
    ++ field (codes ",\"power_class\":") (decimal s.power) ++ field (codes ",\"initiated_reset\":") (flag_value s.initiator)
    ++ field (codes ",\"more_packets\":") (flag_value s.more) ++ port_fields s.ports ++ codes "}"
id_object (SelfIdMore s) =
    field (codes "{\"phy_id\":") (decimal s.phy) ++ field (codes ",\"extended\":") (flag_value true)
    ++ field (codes ",\"sequence\":") (decimal s.number) ++ field (codes ",\"more_packets\":") (flag_value s.more)
    ++ port_fields s.ports ++ codes "}"
id_object (Config root force_root set_gap gap) = codes "{}"
id_object (LinkOn phy) = codes "{}"

-- the object of a node
abbrev pub node_object : ℕ → NodeRow → List ℕ
node_object node r =
    field (codes "{\"node\":") (decimal node) ++ field (codes ",\"device\":") (decimal r.device)
    ++ field (codes ",\"output_plugs\":") (decimal r.outs) ++ field (codes ",\"input_plugs\":") (decimal r.ins)
    ++ code (codes ",\"device_kind\":") r.kind (codes ",\"device_kind_name\":") (device_name r.kind) ++ codes "}"

-- the objects of the nodes from this one on
abbrev pub node_objects : ℕ → List NodeRow → List (List ℕ)
node_objects node [] = []
node_objects node (r ∷ rs) = node_object node r ∷ node_objects (node + 1) rs
