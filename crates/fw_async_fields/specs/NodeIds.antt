-- Node IDs, 16 bits: ten of the bus, and the number of the node on it in the last six (IEEE 1394-1995, node_ID).
use Rattle.std.specs.Prelude.{ℕ, ◌+◌, ◌-◌, ◌%◌, nat_le, Option, Some, None, if◌then◌else◌}

-- the node ID of node 0 of the local bus: ten ones
abbrev pub first_id : ℕ
first_id = 0xFFC0

-- the node ID of a node of the local bus
abbrev pub node_id : ℕ → ℕ
node_id number = first_id + number

-- the number of a node, whatever its bus
abbrev pub number_of : ℕ → ℕ
number_of id = id % 64

-- the number of a node of the local bus, and none of another bus
abbrev pub local_number : ℕ → Option ℕ
local_number id = if nat_le first_id id then Some (id - first_id) else None
