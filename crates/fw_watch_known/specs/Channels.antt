-- What is kept of channels, and of plugs: of each node its 31 outputs and then its 31 inputs.
use Rattle.std.specs.Prelude.{ℕ, zero, suc, ◌+◌, ◌-◌, ◌*◌, ◌^◌, ◌==◌, ◌&&◌, not, nat_le, nat_lt, Bool}
use Rattle.std.specs.Prelude.{true, false, List, length, slice_index_or, slice_set, slice_range, Option, Some, None, IfSome, ◌≤◌, if◌then◌else◌}
use Rattle.std.specs.List.{list_any}
use Rattle.fw_watch_remarks.specs.declared.register.At.{At}
use Rattle.fw_watch_remarks.specs.declared.known.Known.{Known}
use Rattle.fw_watch_known.specs.declared.channel.Due.{Due}
use Rattle.fw_watch_known.specs.declared.channel.Noted.{Noted}
use Rattle.fw_watch_known.specs.declared.channel.Channel.{Channel}
use Rattle.fw_watch_known.specs.declared.channels.Late.{Late}
use Rattle.fw_watch_remarks.specs.Registers.{plug_index}
use Rattle.fw_watch_remarks.specs.Knowing.{nothing_known, bit_of, is_on, is_forgotten}

-- ---- plugs

-- what is known of a plug
abbrev pub plug_at : List Known → At → Known
plug_at plugs at = slice_index_or plugs (plug_index at.node at.register) nothing_known

-- what is known of a plug from now on
abbrev pub with_plug : List Known → At → Known → List Known
with_plug plugs at known = slice_set plugs (plug_index at.node at.register) known

-- a plug is known to be connected on this channel
abbrev pub is_used : List Known → ℕ → Bool
is_used plugs channel = list_any (is_on channel) plugs

-- a node has an output plug that is known to be connected on this channel
unfoldable pub has_output : List Known → ℕ → ℕ → Bool
has_output plugs channel node =
    nat_le (node * 62 + 31) (length plugs) && list_any (is_on channel) (slice_range plugs (node * 62) (node * 62 + 31))

-- the bit of a node, if it has such a plug
abbrev pub node_bit : ℕ → Bool → ℕ
node_bit node has = if has then 2 ^ node else 0

-- the nodes below this one that have such a plug, a bit each
unfoldable pub owners_to : ℕ → List Known → ℕ → ℕ
owners_to zero plugs channel = 0
owners_to (suc n) plugs channel = owners_to n plugs channel + node_bit n (has_output plugs channel n)

-- the nodes that have such a plug, unless this one has
unfoldable pub others_on : List Known → ℕ → ℕ → ℕ
others_on plugs channel node = if has_output plugs channel node then 0 else owners_to 63 plugs channel

-- ---- channels

-- nothing was told of a channel's packets
abbrev pub nothing_noted : Noted
nothing_noted = record { two = false; free = false; plug = false }

-- a channel of which nothing was seen
abbrev pub fresh : Channel
fresh = record { due = None; sender = None; noted = nothing_noted }

-- it was used
abbrev pub undue : Channel → Channel
undue row = record row { due = None }

-- whose packets it carries is to be seen anew
abbrev pub quiet : Channel → Channel
quiet row = record row { sender = None; noted = nothing_noted }

-- what is kept of a channel
abbrev pub channel_at : List Channel → ℕ → Channel
channel_at channels channel = slice_index_or channels channel fresh

-- what was seen of a channel counts no more, if its bit is forgotten
abbrev pub freshened_one : Bool → ℕ → List Channel → List Channel
freshened_one forgotten channel channels = if forgotten then slice_set channels channel fresh else channels

-- the channels of a half whose bits are known no longer, or changed: what was seen of the first n of them counts no more
unfoldable pub freshened : ℕ → ℕ → Known → Known → List Channel → List Channel
freshened zero first old now channels = channels
freshened (suc n) first old now channels =
    freshened_one (is_forgotten old now n) (first + n) (freshened n first old now channels)

-- whose packets a channel carries is to be seen anew
unfoldable pub quieted : Option ℕ → List Channel → List Channel
quieted None channels = channels
quieted (Some k) channels = slice_set channels k (quiet (channel_at channels k))

-- a channel is used
unfoldable pub unused : Option ℕ → List Channel → List Channel
unused None channels = channels
unused (Some k) channels = slice_set channels k (undue (channel_at channels k))

-- two plugs are on one channel, or both on none
abbrev pub same_channel : Option ℕ → Option ℕ → Bool
same_channel None None = true
same_channel None (Some k) = false
same_channel (Some k) None = false
same_channel (Some k) (Some j) = k == j

-- a plug that was known to be on one channel is known to be on another
unfoldable pub plug_moved : Option ℕ → Option ℕ → List Channel → List Channel
plug_moved old now channels = unused now (if same_channel old now then channels else quieted now (quieted old channels))

-- a second of 8000 cycles has passed since a channel was taken
abbrev pub is_late : Due → ℕ → Bool
is_late due cycle = nat_le due.since cycle && nat_le 8000 (cycle - due.since)

-- none has been due since before this cycle
abbrev pub AreDueFrom : ℕ → List Channel → Type 0
AreDueFrom first channels = (k : ℕ) → IfSome (channel_at channels k).due (λ due. first ≤ due.since)

-- it was taken before the one that is late
abbrev pub is_before : Due → Option Late → Bool
is_before due None = true
is_before due (Some late) = nat_lt due.since late.due.since

-- of a channel that is late and this one, if it is, the one that was taken first, and of two of one cycle the first
unfoldable pub next_late : Option Late → ℕ → Option Due → ℕ → Option Late
next_late best channel None cycle = best
next_late best channel (Some due) cycle =
    if is_late due cycle && is_before due best then Some (record { channel = channel; due = due }) else best

-- the channel among the first n that is late and was taken first
unfoldable pub late_to : ℕ → List Channel → ℕ → Option Late
late_to zero channels cycle = None
late_to (suc n) channels cycle = next_late (late_to n channels cycle) n (channel_at channels n).due cycle

-- the channel at a bit of a half was taken
abbrev pub is_taken : ℕ → ℕ → ℕ → Bool
is_taken at old new = bit_of old at && not (bit_of new at)

-- a channel that was taken is not 31, and no plug is on it
abbrev pub is_to_be_used : Bool → ℕ → List Known → Bool
is_to_be_used taken channel plugs = taken && not (channel == 31) && not (is_used plugs channel)

-- a channel that is to be used within a second, if it is to be used at all
abbrev pub with_due : Bool → ℕ → Due → List Channel → List Channel
with_due to_be_used channel due channels =
    if to_be_used then slice_set channels channel (record (channel_at channels channel) { due = Some due }) else channels

-- the channels among the first n of a half that a swap took, each to be used within a second
unfoldable pub with_dues : ℕ → ℕ → ℕ → ℕ → Due → List Known → List Channel → List Channel
with_dues zero first old new due plugs channels = channels
with_dues (suc n) first old new due plugs channels =
    with_due (is_to_be_used (is_taken n old new) (first + n) plugs) (first + n) due (with_dues n first old new due plugs channels)
