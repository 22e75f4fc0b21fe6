-- What is known of a register: a word, and a mask of the bits of it that are known. Bit 0 is the most significant.
use Rattle.std.specs.Prelude.{ℕ, ◌==◌, ◌&&◌, ◌||◌, not, Bool, false, bit_and, bit_xor, Option, Some, None, if◌then◌else◌}
use Rattle.fw_words.specs.Quadlet.{field}
use Rattle.fw_watch_remarks.specs.declared.known.Known.{Known}
use Rattle.fw_watch_remarks.specs.declared.known.Managed.{Managed}

-- a bit of a word
unfoldable pub bit_of : ℕ → ℕ → Bool
bit_of word at = field word at at == 1

-- these bits of a word are known
abbrev pub known_bits : ℕ → ℕ → Known
known_bits word mask = record { word = word; mask = mask }

-- nothing is known
abbrev pub nothing_known : Known
nothing_known = known_bits 0 0

-- all of a word is known
abbrev pub all_known : ℕ → Known
all_known word = known_bits word 0xFFFFFFFF

-- a plug that a bus reset has left without connections: bits 1 to 7 are 0 (IEC 61883-1, bus reset)
abbrev pub after_reset : Known
after_reset = known_bits 0 0x7F000000

-- nothing is known of the resource manager's registers
abbrev pub no_managed : Managed
no_managed = record { bandwidth = nothing_known; high = nothing_known; low = nothing_known }

-- what a bus reset makes of the resource manager's registers: 4915 units are left, all channels are free, but nobody knows of channel 31
abbrev pub reset_managed : Managed
reset_managed = record { bandwidth = all_known 4915; high = known_bits 0xFFFFFFFF 0xFFFFFFFE; low = all_known 0xFFFFFFFF }

-- the bit is known, and is 1
abbrev pub is_known_set : Known → ℕ → Bool
is_known_set k at = bit_of k.mask at && bit_of k.word at

-- a plug with this word is connected: one of the bits 1 to 7 is 1
abbrev pub is_connected : ℕ → Bool
is_connected word = not (bit_and word 0x7F000000 == 0)

-- the channel of a plug that is known to be connected, if the channel's bits are known
unfoldable pub channel_of : Known → Option ℕ
channel_of k =
    if not (bit_and (bit_and k.word k.mask) 0x7F000000 == 0) && (bit_and k.mask 0x003F0000 == 0x003F0000) then Some (field k.word 10 15) else None

-- it is this channel
abbrev pub is_channel : ℕ → Option ℕ → Bool
is_channel channel None = false
is_channel channel (Some k) = k == channel

-- the plug is connected on this channel
unfoldable pub is_on : ℕ → Known → Bool
is_on channel k = is_channel channel (channel_of k)

-- the bits that are known, and differ from those of a word
abbrev pub differing : Known → ℕ → ℕ
differing k word = bit_and (bit_xor k.word word) k.mask

-- two bits differ
abbrev pub differ : Bool → Bool → Bool
differ a b = if a then not b else b

-- a bit that was known is no longer, or is another one now
unfoldable pub is_forgotten : Known → Known → ℕ → Bool
is_forgotten old now at = bit_of old.mask at && (not (bit_of now.mask at) || differ (bit_of old.word at) (bit_of now.word at))
