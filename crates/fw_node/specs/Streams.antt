-- The stream of a node: what its output plug says of it.
use Rattle.std.specs.Prelude.{ℕ, ◌&&◌, nat_lt, Bool, false, length, slice_index, slice_index_or, Option, Some, None, if◌then◌else◌}
use Rattle.fw_words.specs.Quadlet.{field}
use Rattle.fw_plug.specs.Plugs.{is_active}
use Rattle.fw_node.specs.State.{NodeState}

-- a device has one output plug at most, which is number 0 (own); it is there and talks
abbrev pub talks : NodeState → Bool
talks n = nat_lt 0 (length n.plugs.outputs) && is_active (slice_index n.plugs.outputs 0) (slice_index_or n.plugs.lingering_outputs 0 false)

-- the channel on which it talks, by its register, if it does
abbrev pub talking_on : NodeState → Option ℕ
talking_on n = if talks n then Some (field (slice_index n.plugs.outputs 0) 10 15) else None
