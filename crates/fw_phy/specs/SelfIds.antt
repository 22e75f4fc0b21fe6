-- The first bits of self-ID packets, by which each is known (IEEE 1394-1995, PHY packets).
use Rattle.std.specs.Prelude.{ℕ, ◌+◌, ◌-◌, ◌*◌, ◌==◌, ◌&&◌, Bool, if◌then◌else◌}
use Rattle.fw_words.specs.Quadlet.{field}

-- The quadlet has the first bits of the self-ID packet of this node after so many others of it: packet zero has the kind 10,
-- the node's number and a 0; a further one has a 1 there, its own number and two zeros, and a 0 as bit 30.
abbrev pub begins_self_id : ℕ → ℕ → ℕ → Bool
begins_self_id q node met =
    if met == 0 then field q 0 8 == 256 + 2 * node
    else (field q 0 13 == 8224 + 64 * node + 4 * (met - 1)) && (field q 30 30 == 0)
