-- The names of what a log holds: those of nosy-dump and of the Linux kernel for packets, own ones for the rest; most by tables of the code.
use Rattle.std.specs.Prelude.{ℕ, ◌-◌, ◌/◌, ◌^◌, ◌==◌, nat_le, List, ◌++◌, map, codes, decimal, Option, Some, None, if◌then◌else◌}
use Rattle.std.specs.Option.{option_map}
use Rattle.fw_terms.specs.Devices.{kind_coded, name_of}
use Rattle.fw_async.specs.declared.packet.Packet.{Packet}
use Rattle.fw_async.specs.declared.packet.Packet.TheVariants.{WriteQuadlet, WriteBlock, WriteReply, ReadQuadlet, ReadBlock, ReadQuadletReply, ReadBlockReply, CycleStart, Lock, LockReply}
use Rattle.fw_cip.specs.declared.packet.CipHeader.{CipHeader}
use Rattle.fw_text.specs.Names.{name_in, rows}
use Rattle.fw_text.specs.Texts.{hex}
use Rattle.fw_log_names.specs.declared.bus.TheConstants.{SPEEDS, PORTS}
use Rattle.fw_log_names.specs.declared.entries.TheConstants.{KINDS, EVENTS, OUTCOMES, SYSTEMS}
use Rattle.fw_log_names.specs.declared.packets.TheConstants.{FUNCTIONS}

-- the name of an entry's kind
abbrev pub kind_name : ℕ → Option (List ℕ)
kind_name kind = name_in (rows KINDS) kind

-- the transaction code of a packet
abbrev pub tcode : Packet → ℕ
tcode (WriteQuadlet h offset value) = 0
tcode (WriteBlock h offset bytes) = 1
tcode (WriteReply h rcode) = 2
tcode (ReadQuadlet h offset) = 4
tcode (ReadBlock h offset len) = 5
tcode (ReadQuadletReply h rcode value) = 6
tcode (ReadBlockReply h rcode bytes) = 7
tcode (CycleStart h offset time) = 8
tcode (Lock h offset function bytes) = 9
tcode (LockReply h rcode function bytes) = 11

-- the name of a packet's transaction code
abbrev pub tcode_name : Packet → List ℕ
tcode_name (WriteQuadlet h offset value) = codes "write_quadlet_request"
tcode_name (WriteBlock h offset bytes) = codes "write_block_request"
tcode_name (WriteReply h rcode) = codes "write_response"
tcode_name (ReadQuadlet h offset) = codes "read_quadlet_request"
tcode_name (ReadBlock h offset len) = codes "read_block_request"
tcode_name (ReadQuadletReply h rcode value) = codes "read_quadlet_response"
tcode_name (ReadBlockReply h rcode bytes) = codes "read_block_response"
tcode_name (CycleStart h offset time) = codes "cycle_start"
tcode_name (Lock h offset function bytes) = codes "lock_request"
tcode_name (LockReply h rcode function bytes) = codes "lock_response"

-- the name of a response code
abbrev pub rcode_name : ℕ → Option (List ℕ)
rcode_name rcode =
    if rcode == 0 then Some (codes "complete")
    else if rcode == 4 then Some (codes "conflict_error")
    else if rcode == 5 then Some (codes "data_error")
    else if rcode == 6 then Some (codes "type_error")
    else if rcode == 7 then Some (codes "address_error")
    else None

-- the name of a lock's function, its extended_tcode
abbrev pub function_name : ℕ → Option (List ℕ)
function_name function = name_in (rows FUNCTIONS) function

-- the name of a retry code
abbrev pub retry_name : ℕ → Option (List ℕ)
retry_name rt =
    if rt == 0 then Some (codes "retry_1")
    else if rt == 1 then Some (codes "retry_x")
    else if rt == 2 then Some (codes "retry_a")
    else if rt == 3 then Some (codes "retry_b")
    else None

-- the name of a self-ID packet's speed code
abbrev pub speed_name : ℕ → Option (List ℕ)
speed_name sp = name_in (rows SPEEDS) sp

-- the name of what a self-ID packet says of a port
abbrev pub port_name : ℕ → Option (List ℕ)
port_name port = name_in (rows PORTS) port

-- the name of a device's kind, by its code
abbrev pub device_name : ℕ → Option (List ℕ)
device_name kind = option_map name_of (kind_coded kind)

-- the name of a tape's system, by the lines of its picture
abbrev pub system_name : ℕ → Option (List ℕ)
system_name system = name_in (rows SYSTEMS) system

-- the name of the format that a CIP header tells: FMT 0, by the first byte of FDF
abbrev pub format_name : CipHeader → Option (List ℕ)
format_name cip =
    if cip.fmt == 0 then
    (if cip.fdf / 2 ^ 16 == 0 then Some (codes "SD-DVCR 525-60")
    else if cip.fdf / 2 ^ 16 == 128 then Some (codes "SD-DVCR 625-50")
    else None)
    else None

-- the name of an event
abbrev pub event_name : ℕ → Option (List ℕ)
event_name code = name_in (map (λ r. (r.0, r.1.now)) EVENTS) code

-- what an event says
abbrev pub event_saying : ℕ → Option (List ℕ)
event_saying code = name_in (map (λ r. (r.0, r.2.now)) EVENTS) code

-- the name of an outcome
abbrev pub outcome_name : ℕ → Option (List ℕ)
outcome_name code = name_in (rows OUTCOMES) code

-- a node_ID of 16 bits: to everybody, a node of the local bus, or another
abbrev pub node_text : ℕ → List ℕ
node_text id =
    if id == 65535 then codes "broadcast"
    else if nat_le 65472 id then codes "node " ++ decimal (id - 65472)
    else codes "node_ID " ++ hex 4 id
