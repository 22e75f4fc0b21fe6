-- What the words of plug control registers show (IEC 61883-1, 7), and the words with a field changed.
use Rattle.std.specs.Prelude.{ℕ, ◌+◌, ◌-◌, ◌*◌, ◌^◌, ◌==◌, nat_lt, Bool}
use Rattle.fw_words.specs.Quadlet.{field}
use Rattle.fw_terms.specs.declared.plug.ConnectionKind.{ConnectionKind}
use Rattle.fw_terms.specs.declared.plug.ConnectionKind.TheVariants.{PointToPoint, Broadcast}

-- the broadcast connection counter, bit 1
abbrev pub has_broadcast : ℕ → Bool
has_broadcast w = field w 1 1 == 1

-- the point-to-point connection counter, bits 2 to 7
abbrev pub counter_of : ℕ → ℕ
counter_of w = field w 2 7

-- the channel number, bits 10 to 15
abbrev pub channel_of : ℕ → ℕ
channel_of w = field w 10 15

-- the overhead_ID of an output plug, bits 18 to 21
abbrev pub overhead_of : ℕ → ℕ
overhead_of w = field w 18 21

-- the plug takes no further connection of the kind
abbrev pub is_full : ConnectionKind → ℕ → Bool
is_full PointToPoint w = counter_of w == 63
is_full Broadcast w = has_broadcast w

-- the plug shows a connection of the kind
abbrev pub shows_connection : ConnectionKind → ℕ → Bool
shows_connection PointToPoint w = nat_lt 0 (counter_of w)
shows_connection Broadcast w = has_broadcast w

-- one count of the counter, or the broadcast bit, as a number
abbrev pub connection_value : ConnectionKind → ℕ
connection_value PointToPoint = 2 ^ 24
connection_value Broadcast = 2 ^ 30

-- the word with one connection more of the kind
abbrev pub one_more : ConnectionKind → ℕ → ℕ
one_more k w = w + connection_value k

-- the word with one connection less of the kind
abbrev pub one_less : ConnectionKind → ℕ → ℕ
one_less k w = w - connection_value k

-- the word with another channel
abbrev pub with_channel : ℕ → ℕ → ℕ
with_channel w ch = w - channel_of w * 2 ^ 16 + ch * 2 ^ 16

-- the word with another overhead_ID
abbrev pub with_overhead : ℕ → ℕ → ℕ
with_overhead w overhead = w - overhead_of w * 2 ^ 10 + overhead * 2 ^ 10
