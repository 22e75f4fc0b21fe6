-- What the words of the manager's registers say to a controller, and the words that it writes; those of plugs beside them.
use Rattle.std.specs.Prelude.{ℕ, ◌+◌, ◌-◌, ◌^◌, ◌==◌, nat_lt, Bool, if◌then◌else◌}
use Rattle.fw_words.specs.Quadlet.{field}
pub use Rattle.fw_plug.specs.Changes.{has_broadcast, counter_of, channel_of, overhead_of, is_full, shows_connection, connection_value, one_more, one_less, with_channel, with_overhead}
pub use Rattle.fw_plug.specs.Units.{units_with}

-- ---- the isochronous resource manager's registers

-- the first channel of the CHANNELS_AVAILABLE register that a channel is in
abbrev pub half_of : ℕ → ℕ
half_of ch = if nat_lt ch 32 then 0 else 32

-- the bit of a place in a word, bit 0 being the most significant
abbrev pub is_bit : ℕ → ℕ → Bool
is_bit word i = field word i i == 1

-- the word with a bit set
abbrev pub with_bit : ℕ → ℕ → ℕ
with_bit word i = if is_bit word i then word else word + 2 ^ (31 - i)

-- the word with a bit cleared
abbrev pub without_bit : ℕ → ℕ → ℕ
without_bit word i = if is_bit word i then word - 2 ^ (31 - i) else word

-- the remainder of a word of BANDWIDTH_AVAILABLE
abbrev pub remainder_of : ℕ → ℕ
remainder_of w = field w 19 31
