-- The packets of transactions of one quadlet: its read, and its compare_swap (IEEE 1394-1995, clause 6.2).
use Rattle.std.specs.Prelude.{ℕ, List, [], Option, Some, None}
use Rattle.std.specs.Int.{to_be_bytes, w32}
use Rattle.fw_async.specs.declared.packet.Head.{Head}
use Rattle.fw_async.specs.declared.packet.Packet.{Packet}
use Rattle.fw_async.specs.declared.packet.Packet.TheVariants.{ReadQuadlet, ReadQuadletReply, Lock, LockReply}
use Rattle.fw_async.specs.declared.quadlets.QuadletRequest.{QuadletRequest}
use Rattle.fw_words.specs.declared.swap.Swap.{Swap}
use Rattle.fw_words.specs.Swaps.{swap_bytes}
use Rattle.fw_words.specs.declared.swap.TheConstants.{COMPARE_SWAP}

-- the packet of a quadlet read at an offset, or of a quadlet compare_swap there
abbrev pub request_with : Head → ℕ → Option Swap → Packet
request_with h offset None = ReadQuadlet h offset
request_with h offset (Some s) = Lock h offset COMPARE_SWAP (swap_bytes s)

-- the packet that asks it
abbrev pub request_packet : QuadletRequest → Packet
request_packet q = request_with q.head q.offset q.swap

-- the response to a read
abbrev pub read_reply : Head → ℕ → ℕ → Packet
read_reply h rcode value = ReadQuadletReply h rcode value

-- the bytes of a lock response: the old value, if there is one
abbrev pub old_value : Option ℕ → List ℕ
old_value None = []
old_value (Some old) = to_be_bytes w32 old

-- the response to a compare_swap, with the old value if there is one
abbrev pub swap_reply : Head → ℕ → Option ℕ → Packet
swap_reply h rcode old = LockReply h rcode COMPARE_SWAP (old_value old)
